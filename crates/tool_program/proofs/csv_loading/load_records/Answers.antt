use Rattle.std.proofs.Common.{rules, ◌≡◌, ap, Err}
use Rattle.program_frame.specs.declared.ending.Failure.TheVariants.{Work as OfWork}
use Rattle.table_maker.specs.declared.load_fault.LoadJobFault.TheVariants.{Exists}
use Rattle.tool_program.specs.declared.fault.ToolFault.TheVariants.{Load}
use Rattle.tool_program.proofs.csv_loading.load_records.Goals as goal

pub returns-clause-made : goal.returns-clause-made
returns-clause-made g c = rw c.fitting_before-before.ensures.kept at c.in_ok-place_records.ensures.made

pub returns-in_err-place_records-clause-taken : goal.returns-in_err-place_records-clause-taken
returns-in_err-place_records-clause-taken g c told =
    let same : c.from_residual.result ≡ Err c.in_err-place_records.field-0.0 = search rules in
    let fault_is : c.in_err-place_records.field-0.0 ≡ Load (OfWork Exists) = cc in
    c.in_err-place_records.ensures.taken (ap Err fault_is)
