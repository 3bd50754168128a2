use Rattle.program_frame.proofs.InputDays.{mark_refusal, unread_said}
use Rattle.program_frame.specs.declared.folder.FolderFault.TheVariants.{DayOpen, Unrecovered}
use Rattle.program_frame.proofs.inputs.refuse_open_log.Goals as goal

pub returns-in-Err-clause-refused : goal.returns-in-Err-clause-refused
returns-in-Err-clause-refused g c = mark_refusal (g.Y.Beside.answers c.args.system.now) _ c.args.log c.in-Err.fault c.from.result c.in-Err.ensures.unread c.from.ensures

pub returns-in-Err-clause-open : goal.returns-in-Err-clause-open
returns-in-Err-clause-open g c told = absurd (unread_said (g.Y.Beside.answers c.args.system.now) _ c.args.log c.in-Err.fault c.from.result DayOpen c.in-Err.ensures.unread c.from.ensures (λ own why is. absurd cc) told)

pub returns-in-Err-clause-no_disk : goal.returns-in-Err-clause-no_disk
returns-in-Err-clause-no_disk g c told = unread_said (g.Y.Beside.answers c.args.system.now) _ c.args.log c.in-Err.fault c.from.result Unrecovered c.in-Err.ensures.unread c.from.ensures (λ own why is. absurd cc) told
