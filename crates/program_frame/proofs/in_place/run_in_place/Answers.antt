use Rattle.std.proofs.Common.{◌∙◌}
use Rattle.program_frame.specs.declared.folder.FolderFault.TheVariants.{DayOpen}
use Rattle.program_frame.proofs.EndLaws.{ends_since, ends_stopped, stopped_fault, stopped_no_end, tells_since}
use Rattle.program_frame.proofs.in_place.run_in_place.Goals as goal

pub returns-in-Ok-clause-ends : goal.returns-in-Ok-clause-ends
returns-in-Ok-clause-ends g c =
    ends_since g.D.Disk.meaning (g.J.Job.writes c.args.job.now (g.S.Source.files c.args.source.now)) c.args.disk c.in-Ok.disk c.in-Ok.ensures.recovered c.in-Ok.ensures.later c.run_recovered.result.disk c.run_recovered.result.ended
    (rw c.begin_work.ensures.kept at c.run_recovered.ensures.ends)

pub returns-in-Ok-clause-tells : goal.returns-in-Ok-clause-tells
returns-in-Ok-clause-tells g c =
    tells_since g.D.Disk.meaning (g.J.Job.writes c.args.job.now (g.S.Source.files c.args.source.now)) c.args.disk c.in-Ok.disk c.in-Ok.ensures.recovered c.in-Ok.ensures.later c.run_recovered.result.disk c.run_recovered.result.ended
    c.run_recovered.ensures.begun

pub returns-in-Err-clause-ends : goal.returns-in-Err-clause-ends
returns-in-Err-clause-ends g c =
    ends_stopped g.D.Disk.meaning (g.J.Job.writes c.args.job.now (g.S.Source.files c.args.source.now)) (g.J.Job.fails c.args.job.now (g.S.Source.files c.args.source.now)) _ c.args.disk c.in-Err.refused.disk c.in-Err.refused.ended c.in-Err.ensures.refused c.in-Err.ensures.old_files

pub returns-in-Err-clause-fault : goal.returns-in-Err-clause-fault
returns-in-Err-clause-fault g c = stopped_fault _ (g.J.Job.fails c.args.job.now (g.S.Source.files c.args.source.now)) _ c.in-Err.refused.ended c.in-Err.ensures.refused

pub returns-in-Err-clause-loads : goal.returns-in-Err-clause-loads
returns-in-Err-clause-loads g c = stopped_no_end _ _ c.in-Err.refused.ended c.in-Err.ensures.refused

pub returns-in-Err-clause-inputs : goal.returns-in-Err-clause-inputs
returns-in-Err-clause-inputs g c = stopped_no_end _ _ c.in-Err.refused.ended c.in-Err.ensures.refused

pub returns-in-Err-clause-unmarked : goal.returns-in-Err-clause-unmarked
returns-in-Err-clause-unmarked g c promised = stopped_no_end _ _ c.in-Err.refused.ended c.in-Err.ensures.refused

pub returns-in-Ok-clause-fault : goal.returns-in-Ok-clause-fault
returns-in-Ok-clause-fault g c = rw c.begin_work.ensures.kept at c.run_recovered.ensures.fault

pub returns-in-Ok-clause-kept : goal.returns-in-Ok-clause-kept
returns-in-Ok-clause-kept g c = c.run_recovered.ensures.kept ∙ c.begin_work.ensures.kept

pub returns-in-Ok-clause-loads : goal.returns-in-Ok-clause-loads
returns-in-Ok-clause-loads g c = rw c.in-Ok.ensures.loads at c.run_recovered.ensures.loads

pub returns-in-Ok-clause-failure : goal.returns-in-Ok-clause-failure
returns-in-Ok-clause-failure g c = rw (c.begin_work.ensures.kept, c.in-Ok.ensures.loads) at c.run_recovered.ensures.failure

pub returns-in-Ok-clause-open_day : goal.returns-in-Ok-clause-open_day
returns-in-Ok-clause-open_day g c told = absurd (c.run_recovered.ensures.begun DayOpen tt told)

pub returns-in-Ok-clause-refused : goal.returns-in-Ok-clause-refused
returns-in-Ok-clause-refused g c promised is = let closed = c.in-Ok.ensures.closed promised in absurd cc
