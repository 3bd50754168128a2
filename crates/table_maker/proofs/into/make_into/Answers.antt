use Rattle.std.proofs.Common.{◌≡◌, false, List}
use Rattle.files_in_place.specs.Folder.{Folder}
use Rattle.folders.specs.declared.named.NamedFile.{NamedFile}
use Rattle.program_frame.proofs.BesideDay.{asked_day, told_not_open}
use Rattle.table_maker.specs.Placing.{IsFree}
use Rattle.table_maker.proofs.PlaceLaws.{has_failed, made_into, nowhere_exists, nowhere_fault, opened_fault, in_the_way}
use Rattle.table_maker.proofs.into.make_into.Goals as goal

pub returns-in-Some-clause-made : goal.returns-in-Some-clause-made
returns-in-Some-clause-made g c =
    made_into g.Y.Disk.Disk.meaning _ (g.Y.System.opens c.args.system.now c.args.folder.now)
    (λ report (files : List NamedFile). g.J.Job.writes c.args.job.now (g.S.Source.files c.args.source.now) files report)
    (λ (before : Folder). c.args.replace ≡ false → IsFree (g.J.TableWork.names c.args.job.now) before)
    _ c.in-Some.disk c.make_in_place.result.disk c.make_in_place.result.ended (rw c.in-Some.is at c.in_ok-disk.ensures.opened) c.make_in_place.ensures.refused
    c.make_in_place.ensures.unmarked c.make_in_place.ensures.ends.placed c.make_in_place.ensures.free

pub returns-in-Some-clause-open_day : goal.returns-in-Some-clause-open_day
returns-in-Some-clause-open_day g c told =
    asked_day g.Y.Disk.Disk.meaning _ (g.Y.System.opens c.args.system.now c.args.folder.now) _ c.in-Some.disk c.make_in_place.result.disk
    (rw c.in-Some.is at c.in_ok-disk.ensures.opened) (c.make_in_place.ensures.open_day told)

pub returns-in_err-disk-clause-open_day : goal.returns-in_err-disk-clause-open_day
returns-in_err-disk-clause-open_day g c told = absurd (told_not_open _ _ _ c.in_err-disk.ensures.fault c.from_residual.ensures.1 told)

pub returns-in-Some-clause-exists : goal.returns-in-Some-clause-exists
returns-in-Some-clause-exists g c =
    in_the_way g.Y.Disk.Disk.meaning (g.Y.System.opens c.args.system.now c.args.folder.now) (IsFree (g.J.TableWork.names c.args.job.now))
    _ c.in-Some.disk c.make_in_place.result.ended (rw c.in-Some.is at c.in_ok-disk.ensures.opened) c.make_in_place.ensures.exists

pub returns-in-Some-clause-unread : goal.returns-in-Some-clause-unread
returns-in-Some-clause-unread g c =
    has_failed g.Y.Disk.Disk.meaning (g.Y.System.opens c.args.system.now c.args.folder.now) _
    c.in-Some.disk c.make_in_place.result.disk c.make_in_place.result.ended (rw c.in-Some.is at c.in_ok-disk.ensures.opened) c.make_in_place.ensures.unread

pub returns-in-Some-clause-fault : goal.returns-in-Some-clause-fault
returns-in-Some-clause-fault g c = opened_fault _ _ _ _ _ c.make_in_place.result.ended c.make_in_place.ensures.fault

pub returns-in-None-clause-exists : goal.returns-in-None-clause-exists
returns-in-None-clause-exists g c told =
    absurd (nowhere_exists _ _ _ _ c.make_nowhere.result (c.exists_is_of_names_alone.ensures.work (g.S.Source.files c.args.source.now))
    c.exists_is_of_names_alone.ensures.memory c.make_nowhere.ensures.fault told)

pub returns-in-None-clause-unread : goal.returns-in-None-clause-unread
returns-in-None-clause-unread g c told =
    absurd (nowhere_exists _ _ _ _ c.make_nowhere.result (c.unread_is_of_the_folder_alone.ensures.work (g.S.Source.files c.args.source.now))
    c.unread_is_of_the_folder_alone.ensures.memory c.make_nowhere.ensures.fault told)

pub returns-in-None-clause-fault : goal.returns-in-None-clause-fault
returns-in-None-clause-fault g c = nowhere_fault _ _ _ _ _ c.make_nowhere.result c.make_nowhere.ensures.fault
