use Rattle.std.proofs.Common.{◌≡◌, inl, inr, refl}
use Rattle.files_in_place.specs.declared.phase.Phase.TheVariants.{Staging}
use Rattle.folders.proofs.SinceLaws.{leaves_as}
use Rattle.live_program.proofs.DayLaws.{day_placed, none_failed, old_or_day, written_alone}
use Rattle.live_program.proofs.FailureLaws.{given_up_as}
use Rattle.live_program.proofs.closing.close_into.Goals as goal

pub returns-in-Err-clause-any_moment : goal.returns-in-Err-clause-any_moment
returns-in-Err-clause-any_moment g c promised =
    leaves_as g.D.Disk.meaning c.args.disk c.into_disk.result _ _ (rw c.requires.origin at (c.into_disk.ensures.since promised)) (λ left kept. inl kept)

pub returns-in-Ok-default-clause-placed : goal.returns-in-Ok-default-clause-placed
returns-in-Ok-default-clause-placed g c promised =
    day_placed _ _ _ _ _ (written_alone _ _ _ _ c.new-folder.ensures.written c.in-Ok.ensures.wrote) (rw (c.in-Ok-default.is-0, c.requires.origin) at (c.finish.ensures.placed_since promised))

pub returns-in-Ok-default-clause-any_moment : goal.returns-in-Ok-default-clause-any_moment
returns-in-Ok-default-clause-any_moment g c promised =
    let staging : c.write_day.new.folder.set.phase ≡ Staging = c.finish.ensures.staging (none_failed _ _ c.in-Ok.ensures.no_failure c.new-folder.ensures.failures) in
    leaves_as g.D.Disk.meaning c.args.disk c.finish.result.1 _ _ (rw c.requires.origin at (c.finish.ensures.since promised staging))
    (λ left. old_or_day _ _ _ _ left (written_alone _ _ _ _ c.new-folder.ensures.written c.in-Ok.ensures.wrote))

pub returns-in-Err-default-clause-any_moment : goal.returns-in-Err-default-clause-any_moment
returns-in-Err-default-clause-any_moment g c promised =
    let staging : c.write_day.new.folder.set.phase ≡ Staging = c.finish.ensures.staging (none_failed _ _ c.in-Ok.ensures.no_failure c.new-folder.ensures.failures) in
    leaves_as g.D.Disk.meaning c.args.disk c.finish.result.1 _ _ (rw c.requires.origin at (c.finish.ensures.since promised staging))
    (λ left. old_or_day _ _ _ _ left (written_alone _ _ _ _ c.new-folder.ensures.written c.in-Ok.ensures.wrote))

pub returns-in-Err-clause-fault : goal.returns-in-Err-clause-fault
returns-in-Err-clause-fault g c = inl (c.why_unwritten-why.result, given_up_as c.args.catalogue.now c.args.end.today _ _ c.in-Err.why c.why_unwritten-why.result c.why_unwritten-why.ensures.value c.in-Err.ensures.fault, refl)

pub returns-in-Err-default-clause-fault : goal.returns-in-Err-default-clause-fault
returns-in-Err-default-clause-fault g c = inr (c.in-Err-default.fault, c.unplaced.ensures.value)
