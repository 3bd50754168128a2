use Rattle.std.proofs.Common.{◌≡◌, ◌-◌, ℕ, List, length, take, drop, ap, subst, arith, length-drop}
use Rattle.std.specs.Io.KnownBytes.{Appends}
use Rattle.std.proofs.lemmas.List.{take_all}
use Rattle.live_program.proofs.PrintingLaws.{taken_on}
use Rattle.live_program.proofs.printing.print_bytes.Goals as goal

pub loop-preserved : goal.loop-preserved
loop-preserved g c =
    let done = c.loop.done in
    let bytes = c.args.bytes.now in
    let whole : take (length bytes - done) (drop done bytes) ≡ drop done bytes = take_all (length bytes - done) (drop done bytes) (omega (arith, length-drop done bytes)) in
    record {
      inside = omega (arith, c.in_ok-count.ensures.inside, ap length whole, c.loop.invariant.inside, length-drop done bytes);
      taken =
          taken_on (g.W.Write.contents c.args.out.now) (g.W.Write.contents c.loop.out) (g.W.Write.contents c.write_first.new.out) c.args.bytes.now c.loop.done c.in_ok-count.count c.loop.invariant.taken
          (subst (λ (l : List ℕ). Appends (g.W.Write.contents c.loop.out) (g.W.Write.contents c.write_first.new.out) (take c.in_ok-count.count l)) whole c.in_ok-count.ensures.taken);
    }
