use Rattle.std.proofs.Common.{arith}
use Rattle.setup_check.proofs.ScriptTextLaws.{still_more, still_end, still_here, seeking_more, seeking_found}
use Rattle.setup_check.proofs.scripts.first_bad.Goals as goal

pub loop-line-preserved : goal.loop-line-preserved
loop-line-preserved c = record {
  read = still_more _ _ _ _ _ _ c.loop-line.invariant.read c.in-Some.ensures.joined
      (seeking_more c.loop-line.number c.in-Some.line.now c.is_bad_line.result c.is_bad_line.ensures.value c.if-is_bad_line.false);
  room = omega (arith, c.loop-line.invariant.room, c.in-Some.ensures.shorter);
}

pub returns-then-is_bad_line : goal.returns-then-is_bad_line
returns-then-is_bad_line c = record {
  value = λ all are.
      let here = still_here _ _ _ _ _ c.loop-line.invariant.read c.in-Some.ensures.joined all are in
      seeking_found c.loop-line.number c.in-Some.line.now c.is_bad_line.result c.is_bad_line.ensures.value c.if-is_bad_line.true all here.0 here.1;
}

pub returns : goal.returns
returns c = record { value = λ all are. still_end _ _ _ c.loop-line.invariant.read c.in_default.ensures.none all are }
