use Rattle.files_in_place.proofs.Histories.{old_or_new_ends}
use Rattle.files_in_place.proofs.history.old_or_new.Goals as goal

pub returns : goal.returns
returns g c promised names old last first others =
    old_or_new_ends g.D.Disk.meaning promised names old others first last
