use Rattle.std.proofs.Common.{◌≡◌, ◌∙◌, sym, ap, inr, subst, Err}
use Rattle.program_frame.specs.declared.ending.Failure.TheVariants.{Work as OfWork}
use Rattle.table_maker.specs.declared.load_fault.LoadJobFault.TheVariants.{Exists, Unread}
use Rattle.tool_program.specs.declared.fault.ToolFault.TheVariants.{Load}
use Rattle.tool_program.specs.Faults.{TellsUnreadFolder}
use Rattle.tool_program.proofs.LoadLaws.{load_told_exists, load_told_unread}
use Rattle.tool_program.proofs.csv_loading.place_records.Goals as goal

pub returns-in-Ok-clause-made : goal.returns-in-Ok-clause-made
returns-in-Ok-clause-made g c = (c.in_ok-job.job, c.in_ok-job.ensures.job, c.in-Ok.ensures.inputs, c.in-Ok.ensures.made)

pub returns-in-Err-clause-taken : goal.returns-in-Err-clause-taken
returns-in-Err-clause-taken g c told =
    let same : c.not_loaded.result ≡ Load (OfWork Exists) = cc in
    let why_is : c.in-Err.why ≡ OfWork Exists = load_told_exists c.in-Err.why (sym c.not_loaded.ensures.value ∙ same) in
    (c.in_ok-job.job, c.in_ok-job.ensures.job, c.in-Err.ensures.exists (ap Err why_is))

pub returns-in-Err-clause-unread : goal.returns-in-Err-clause-unread
returns-in-Err-clause-unread g c told says is =
    let same : c.not_loaded.result ≡ told = cc in
    let why_is : c.in-Err.why ≡ OfWork Unread = load_told_unread c.in-Err.why (subst TellsUnreadFolder (sym same ∙ c.not_loaded.ensures.value) says) in
    c.in-Err.ensures.unread (ap Err why_is)

pub returns-in-Err-clause-fault : goal.returns-in-Err-clause-fault
returns-in-Err-clause-fault g c = inr (c.in_ok-job.job, c.in-Err.why, c.in_ok-job.ensures.job, c.not_loaded.ensures.value, c.in-Err.ensures.fault)
