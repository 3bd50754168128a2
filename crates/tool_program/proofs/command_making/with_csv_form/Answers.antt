use Rattle.std.proofs.lemmas.Result.{IfOk-weaker}
use Rattle.tool_program.proofs.Commands.{two_rules}
use Rattle.tool_program.proofs.command_making.with_csv_form.Goals as goal

pub returns : goal.returns
returns c = record {
  app = IfOk-weaker c.arg-2.result _ _
      (λ more added.
      two_rules _ _ more _ _ _ _ c.in_ok-arg.ensures added c.option.ensures.local c.option-2.ensures.local c.option.ensures.rule c.option-2.ensures.rule)
      c.arg-2.ensures;
}
