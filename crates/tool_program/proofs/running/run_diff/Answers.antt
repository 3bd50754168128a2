use Rattle.tool_program.proofs.DiffLaws.{diff_load_told, of_err}
use Rattle.tool_program.proofs.running.run_diff.Goals as goal

pub returns-in-Err-clause-early : goal.returns-in-Err-clause-early
returns-in-Err-clause-early g c = λ why h.
    let is = of_err c.compare_tables.result c.in-Err.fault _ (c.compare_tables.ensures.early why h) c.in-Err.is in
    diff_load_told c.in-Err.fault why c.args.options.now.old_table.now _ c.not_compared.result is c.not_compared.ensures.fault c.not_compared.ensures.closed
