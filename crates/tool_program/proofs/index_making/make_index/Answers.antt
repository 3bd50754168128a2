use Rattle.std.proofs.Common.{◌≡◌, ◌∙◌, sym, ap, inr, subst, Err}
use Rattle.program_frame.specs.declared.ending.Failure.TheVariants.{Work as OfWork}
use Rattle.table_maker.specs.declared.index_fault.IndexJobFault.TheVariants.{Exists, Unread}
use Rattle.tool_program.specs.declared.fault.ToolFault.TheVariants.{Index}
use Rattle.tool_program.specs.Faults.{TellsUnreadFolder}
use Rattle.tool_program.proofs.IndexLaws.{index_told_exists, index_told_unread}
use Rattle.tool_program.proofs.index_making.make_index.Goals as goal

pub returns-in-Ok-clause-made : goal.returns-in-Ok-clause-made
returns-in-Ok-clause-made g c = (c.in_ok-job.job, c.in_ok-job.ensures.job, c.in-Ok.ensures.inputs, c.in-Ok.ensures.made)

pub returns-in-Err-clause-taken : goal.returns-in-Err-clause-taken
returns-in-Err-clause-taken g c told =
    let same : c.not_made.result ≡ Index (OfWork Exists) = cc in
    let why_is : c.in-Err.why ≡ OfWork Exists = index_told_exists c.in-Err.why (sym c.not_made.ensures.value ∙ same) in
    (c.in_ok-job.job, c.in_ok-job.ensures.job, c.in-Err.ensures.exists (ap Err why_is))

pub returns-in-Err-clause-unread : goal.returns-in-Err-clause-unread
returns-in-Err-clause-unread g c told says is =
    let same : c.not_made.result ≡ told = cc in
    let why_is : c.in-Err.why ≡ OfWork Unread = index_told_unread c.in-Err.why (subst TellsUnreadFolder (sym same ∙ c.not_made.ensures.value) says) in
    c.in-Err.ensures.unread (ap Err why_is)

pub returns-in-Err-clause-fault : goal.returns-in-Err-clause-fault
returns-in-Err-clause-fault g c = inr (c.in_ok-job.job, c.in-Err.why, c.in_ok-job.ensures.job, c.not_made.ensures.value, c.in-Err.ensures.fault)
