use Rattle.std.proofs.Common.{inl, inr, refl}
use Rattle.files_in_place.specs.declared.folder_lock.LockFault.TheVariants.{Failed}
use Rattle.program_frame.specs.declared.folder.FolderFault.TheVariants.{Unopened}
use Rattle.program_frame.specs.declared.folder.PlaceFault.TheVariants.{Folder}
use Rattle.program_frame.proofs.BesideDay.{told_not_open}
use Rattle.live_program.proofs.FailureLaws.{told_end_of}
use Rattle.live_program.proofs.LifeLaws.{err_by, life_over}
use Rattle.live_program.proofs.running.live_options.Goals as goal

pub returns-in-Some-clause-life : goal.returns-in-Some-clause-life
returns-in-Some-clause-life g c =
    life_over g.Y.Disk.Disk.meaning _ _ _ _ _ _ _ _ c.in-Some.disk c.live_in_place.result.disk c.live_in_place.result.ended (rw c.in-Some.is at c.in_ok-disk.ensures.opened) c.live_in_place.ensures.life

pub returns-in-None-clause-life : goal.returns-in-None-clause-life
returns-in-None-clause-life g c = inl refl

pub returns-in_err-disk-clause-fault : goal.returns-in_err-disk-clause-fault
returns-in_err-disk-clause-fault g c = told_end_of _ _ _ c.from_residual.ensures.1 (inl (c.in_err-disk.field-0.0, c.in_err-disk.ensures.fault, refl))

pub returns-in-None-clause-fault : goal.returns-in-None-clause-fault
returns-in-None-clause-fault g c = inl (Folder Unopened, (Failed, refl), refl)

pub returns-in-Some-clause-fault : goal.returns-in-Some-clause-fault
returns-in-Some-clause-fault g c =
    err_by c.live_in_place.result.ended _ _ (λ why is. inr (c.in-Some.disk, rw c.in-Some.is at c.in_ok-disk.ensures.opened, is)) c.live_in_place.ensures.fault

pub returns-in_err-disk-clause-open_day : goal.returns-in_err-disk-clause-open_day
returns-in_err-disk-clause-open_day g c told = absurd (told_not_open _ _ _ c.in_err-disk.ensures.fault c.from_residual.ensures.1 told)

pub returns-in-Some-clause-open_day : goal.returns-in-Some-clause-open_day
returns-in-Some-clause-open_day g c told = elim (c.live_in_place.ensures.open_day told) [
  | inl elsewhere ↦ elsewhere
  | inr marked ↦ inr (
    c.args.options.now.out.now,
    record {
      disk = c.in-Some.disk;
      meant = rw c.in-Some.is at c.in_ok-disk.ensures.opened;
      is_open = inr marked;
    },
  )
]

pub returns-in-None-clause-marked : goal.returns-in-None-clause-marked
returns-in-None-clause-marked g c = inl refl

pub returns-in_err-disk-clause-marked : goal.returns-in_err-disk-clause-marked
returns-in_err-disk-clause-marked g c = inl refl
