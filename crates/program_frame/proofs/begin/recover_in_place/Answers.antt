use Rattle.program_frame.proofs.PlacingLaws.{recovering_old}
use Rattle.program_frame.proofs.begin.recover_in_place.Goals as goal

pub returns-in-Err-clause-old_files : goal.returns-in-Err-clause-old_files
returns-in-Err-clause-old_files g c promised = recovering_old g.D.Disk.meaning _ _ (c.recover.ensures.any_moment promised)
