use Rattle.std.proofs.Common.{arith}
use Rattle.std.proofs.lemmas.Bool.Decides.{nat_tests}
use Rattle.setup_check.proofs.ScriptTextLaws.{still_more, still_end, still_here, going_more, going_found}
use Rattle.setup_check.proofs.scripts.line_at.Goals as goal

pub loop-line-preserved : goal.loop-line-preserved
loop-line-preserved c =
    still_more _ _ _ _ _ _ c.loop-line.invariant c.in-Some.ensures.joined
    (going_more c.args.number c.loop-line.left c.saturating_sub-left.result c.in-Some.line.now (grind (arith, nat_tests)) (omega arith))

pub returns-then-left-eq1 : goal.returns-then-left-eq1
returns-then-left-eq1 c = record {
  value = λ all are.
      let here = still_here _ _ _ _ _ c.loop-line.invariant c.in-Some.ensures.joined all are in
      going_found c.args.number c.loop-line.left c.in-Some.line.now (grind (arith, nat_tests)) all here.0 here.1;
}

pub returns : goal.returns
returns c = record { value = λ all are. still_end _ _ _ c.loop-line.invariant c.in_default.ensures.none all are }
