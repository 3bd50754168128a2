use Rattle.std.proofs.Common.{List, ℕ, subst}
use Rattle.std.proofs.lemmas.Result.{IfErr-weaker}
use Rattle.tool_program.specs.Faults.{IsToolFaultOf}
use Rattle.tool_program.proofs.RunLaws.{true_of_table}
use Rattle.tool_program.proofs.running.run_show.Goals as goal

pub returns-in-Err-clause-fault : goal.returns-in-Err-clause-fault
returns-in-Err-clause-fault g c =
    IfErr-weaker c.not_shown.result _ _
    (λ told at. (
      c.in-Err.fault,
      subst (λ (path : List ℕ). IsToolFaultOf c.in-Err.fault path told) c.faulty_path.ensures.value at,
      true_of_table _ _ _ c.args.options.now c.show_file.result c.in-Err.fault c.in-Err.is c.show_file.ensures.unread c.show_file.ensures.unrecovered c.show_file.ensures.memos
          c.show_file.ensures.no_table c.show_file.ensures.no_order,
    ))
    c.not_shown.ensures.fault
