use Rattle.std.proofs.Common.{◌∙◌}
use Rattle.program_frame.proofs.EndLaws.{ends_since, tells_since}
use Rattle.program_frame.specs.declared.folder.FolderFault.TheVariants.{DayOpen}
use Rattle.table_maker.proofs.PlaceLaws.{begun_exists, begun_fault, begun_load, ends_untried, untried_fault}
use Rattle.table_maker.proofs.in_place.make_in_place.Goals as goal

pub returns-in-Ok-clause-ends : goal.returns-in-Ok-clause-ends
returns-in-Ok-clause-ends g c =
    ends_since g.D.Disk.meaning (g.J.Job.writes c.args.job.now (g.S.Source.files c.args.source.now))
    c.args.disk c.in-Ok.disk c.in-Ok.ensures.recovered c.in-Ok.ensures.later c.make_recovered.result.disk c.make_recovered.result.ended
    (rw c.begin_free.ensures.kept at c.make_recovered.ensures.ends)

pub returns-in-Ok-clause-tells : goal.returns-in-Ok-clause-tells
returns-in-Ok-clause-tells g c =
    tells_since g.D.Disk.meaning (g.J.Job.writes c.args.job.now (g.S.Source.files c.args.source.now))
    c.args.disk c.in-Ok.disk c.in-Ok.ensures.recovered c.in-Ok.ensures.later c.make_recovered.result.disk c.make_recovered.result.ended
    c.make_recovered.ensures.begun

pub returns-in-Ok-clause-fault : goal.returns-in-Ok-clause-fault
returns-in-Ok-clause-fault g c = begun_fault _ _ _ _ _ c.make_recovered.result.ended (rw c.begin_free.ensures.kept at c.make_recovered.ensures.fault)

pub returns-in-Ok-clause-kept : goal.returns-in-Ok-clause-kept
returns-in-Ok-clause-kept g c = c.make_recovered.ensures.kept ∙ c.begin_free.ensures.kept

pub returns-in-Ok-clause-loads : goal.returns-in-Ok-clause-loads
returns-in-Ok-clause-loads g c = rw c.in-Ok.ensures.loads at c.make_recovered.ensures.loads

pub returns-in-Ok-clause-failure : goal.returns-in-Ok-clause-failure
returns-in-Ok-clause-failure g c = begun_load _ _ _ _ _ c.make_recovered.result.ended
    (rw (c.begin_free.ensures.kept, c.in-Ok.ensures.loads) at c.make_recovered.ensures.failure)

pub returns-in-Ok-clause-exists : goal.returns-in-Ok-clause-exists
returns-in-Ok-clause-exists g c promised told =
    absurd (begun_exists _ _ _ _ c.make_recovered.result.ended (c.exists_is_of_names_alone.ensures.work (g.S.Source.files c.begin_free.new.source))
    c.exists_is_of_names_alone.ensures.memory c.make_recovered.ensures.fault told)

pub returns-in-Ok-clause-unread : goal.returns-in-Ok-clause-unread
returns-in-Ok-clause-unread g c told =
    absurd (begun_exists _ _ _ _ c.make_recovered.result.ended (c.unread_is_of_the_folder_alone.ensures.work (g.S.Source.files c.begin_free.new.source))
    c.unread_is_of_the_folder_alone.ensures.memory c.make_recovered.ensures.fault told)

pub returns-in-Ok-clause-open_day : goal.returns-in-Ok-clause-open_day
returns-in-Ok-clause-open_day g c told = absurd (c.make_recovered.ensures.begun DayOpen tt told)

pub returns-in-Ok-clause-refused : goal.returns-in-Ok-clause-refused
returns-in-Ok-clause-refused g c promised is = let closed = c.in-Ok.ensures.closed promised in absurd cc

pub returns-in-Err-clause-ends : goal.returns-in-Err-clause-ends
returns-in-Err-clause-ends g c =
    ends_untried g.D.Disk.meaning (g.J.Job.writes c.args.job.now (g.S.Source.files c.args.source.now))
    _ _ _ _ c.args.disk c.in-Err.refused.disk c.in-Err.refused.ended c.in-Err.ensures.refused c.in-Err.ensures.untried c.in-Err.ensures.old_files

pub returns-in-Err-clause-fault : goal.returns-in-Err-clause-fault
returns-in-Err-clause-fault g c = untried_fault _ _ _ _ _ c.in-Err.refused.ended c.in-Err.ensures.untried
