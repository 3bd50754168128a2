use Rattle.std.proofs.Common.{◌≢◌, ◌∷◌, [], refl}
use Rattle.live_log.specs.declared.gates.TheConstants.{SHUT_GATE}
use Rattle.live_log.proofs.LineLaws.{torn_end, torn_fault, torn_unended, same_bytes, other_bytes}
use Rattle.live_log.proofs.gates.read_end.Goals as goal

pub returns-then-eq-clause-read : goal.returns-then-eq-clause-read
returns-then-eq-clause-read c =
    let other : c.in-Some.gate ≢ SHUT_GATE = c.if-gate-eq-SHUT_GATE.false in
    torn_end c.args.read.now c.read_lines.new.read c.args.end.now c.in-Some.behind.now c.in-Ok.rest.now c.in-Some.gate c.in-Some.ensures.found c.requires.closed other c.in-Ok.ensures.read
    (same_bytes c.in-Ok.rest.now c.as_slice.result.now (SHUT_GATE ∷ []) c.eq.result c.eq.ensures c.as_slice.ensures c.if-eq.true)

pub returns-else-eq-clause-refused : goal.returns-else-eq-clause-refused
returns-else-eq-clause-refused c =
    let other : c.in-Some.gate ≢ SHUT_GATE = c.if-gate-eq-SHUT_GATE.false in (
      refl,
      λ last small ends. torn_unended c.args.read.now c.read_lines.new.read c.args.end.now c.in-Some.behind.now c.in-Ok.rest.now c.in-Some.gate c.in-Some.ensures.found other c.in-Ok.ensures.read
          c.in-Ok.ensures.closed (other_bytes c.in-Ok.rest.now c.as_slice.result.now (SHUT_GATE ∷ []) c.eq.result c.eq.ensures c.as_slice.ensures c.if-eq.false) last small ends,
    )

pub returns-in-Err-clause-refused : goal.returns-in-Err-clause-refused
returns-in-Err-clause-refused c =
    let other : c.in-Some.gate ≢ SHUT_GATE = c.if-gate-eq-SHUT_GATE.false in
    torn_fault c.args.end.now c.in-Some.behind.now c.in-Some.gate c.args.read.now.count c.in-Err.fault c.at_entry.result c.in-Some.ensures.found other c.in-Err.ensures.refused c.at_entry.ensures.value
