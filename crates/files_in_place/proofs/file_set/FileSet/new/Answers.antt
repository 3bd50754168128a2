use Rattle.files_in_place.proofs.Uncommitted.{staged_none}
use Rattle.files_in_place.proofs.Sets.{in_staging}
use Rattle.files_in_place.proofs.file_set.FileSet.new.Goals as goal

pub invariant_of-result : goal.invariant_of-result
invariant_of-result g c promised =
    let m = g.D.Disk.meaning in
    in_staging m _ _ _
    (staged_none m c.new.result.items c.args.disk c.new.ensures.items (c.requires.clean promised) (c.requires.synced promised))
