use Rattle.std.proofs.Common.{ℕ, List, length, OnOk, sym, subst}
use Rattle.files_in_place.specs.Folder.{Name}
use Rattle.files_in_place.specs.Disk.{MayMove, MayRemove}
use Rattle.disk_in_place.specs.InPlace.{MayTear}
use Rattle.memory_disk.specs.declared.disk_call.DiskCall.{DiskCall}
use Rattle.memory_disk.specs.Seen.{seen_after}
use Rattle.memory_disk.specs.Crashes.{MayStep}
use Rattle.memory_disk.proofs.crash.steps.take_step.Goals as goal

pub returns-in-Rename : goal.returns-in-Rename
returns-in-Rename c = record {
  step = subst (λ (x : DiskCall). OnOk c.rename_in_part.result (MayStep x (seen_after c.args.left.now.items) (seen_after c.rename_in_part.new.left.items))) (sym c.in-Rename.is)
      (subst (λ (f : Name). OnOk c.rename_in_part.result (MayMove f c.in-Rename.to (seen_after c.args.left.now.items) (seen_after c.rename_in_part.new.left.items))) c.as_slice-in-Rename.ensures.value
      (subst (λ (t : Name). OnOk c.rename_in_part.result (MayMove c.as_slice-in-Rename.result.now t (seen_after c.args.left.now.items) (seen_after c.rename_in_part.new.left.items))) c.as_slice-in-Rename-2.ensures.value c.rename_in_part.ensures.moved));
}

pub returns-in-Remove : goal.returns-in-Remove
returns-in-Remove c = record {
  step = subst (λ (x : DiskCall). OnOk c.remove_in_part.result (MayStep x (seen_after c.args.left.now.items) (seen_after c.remove_in_part.new.left.items))) (sym c.in-Remove.is)
      (subst (λ (f : Name). OnOk c.remove_in_part.result (MayRemove f (seen_after c.args.left.now.items) (seen_after c.remove_in_part.new.left.items))) c.as_slice-in-Remove.ensures.value c.remove_in_part.ensures.removed);
}

pub returns-in-WriteAt : goal.returns-in-WriteAt
returns-in-WriteAt c = record {
  step = subst (λ (x : DiskCall). OnOk c.write_in_part.result (MayStep x (seen_after c.args.left.now.items) (seen_after c.write_in_part.new.left.items))) (sym c.in-WriteAt.is)
      (subst (λ (f : Name). OnOk c.write_in_part.result (MayTear f c.in-WriteAt.offset (length c.in-WriteAt.bytes) (seen_after c.args.left.now.items) (seen_after c.write_in_part.new.left.items))) c.as_slice-in-WriteAt.ensures.value
      (subst (λ (t : List ℕ). OnOk c.write_in_part.result (MayTear c.as_slice-in-WriteAt.result.now c.in-WriteAt.offset (length t) (seen_after c.args.left.now.items) (seen_after c.write_in_part.new.left.items))) c.as_slice-in-WriteAt-2.ensures.value c.write_in_part.ensures.torn));
}
