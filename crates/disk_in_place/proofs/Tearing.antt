-- What a crash leaves of a file that is written over.
use Rattle.std.proofs.Common.{◌≡◌, inl, inr, ℕ, ◌≤◌, List, length, Option, Some, None, IsSome, refl, sym, ◌∙◌, ap, subst, arith}
use Rattle.files_in_place.specs.Folder.{Name, Folder}
use Rattle.files_in_place.specs.Disk.{DiskMeaning, IsSyncedDisk, IsDurable, OnlyReads}
use Rattle.files_in_place.proofs.Meaning.{same_name}
use Rattle.disk_in_place.specs.InPlace.{HasBytes, MayTear, WritesOver}

pub file_of : (n : ℕ) (content : Option (List ℕ)) → HasBytes n content → (bytes : List ℕ) × (content ≡ Some bytes) × (n ≤ length bytes)
file_of n None has = absurd has
file_of n (Some bytes) has = (bytes, refl, has)

-- nothing is torn yet
pub not_torn : (name : Name) (offset n : ℕ) (folder c : Folder) → ((m : Name) → c m ≡ folder m) → MayTear name offset n folder c
not_torn name offset n folder c same = record {
  torn = λ a is. (a, same name ∙ is, record { before = refl; after = refl; no_shorter = omega arith; no_longer = omega arith });
  elsewhere = λ m other. same m;
}

module _ {D : Type 0} (m : DiskMeaning D) (name : Name) (offset n : ℕ) (old mid : D) (synced : IsSyncedDisk m old) (writes : WritesOver m name offset n old mid) where
  -- what a crash leaves after the write comes by it from what was seen
  pub torn_seen : (c : Folder) → m.may_leave mid c → MayTear name offset n (m.seen old) c
  torn_seen c left =
      let from = writes.crash c left in
      record {
        torn = λ a is. from.2.torn a (synced.only from.0 from.1 name ∙ is);
        elsewhere = λ x other. from.2.elsewhere x other ∙ synced.only from.0 from.1 x;
      }

  pub still_named : HasBytes offset (m.seen old name) → (c : Folder) → m.may_leave mid c → IsSome (c name)
  still_named has c left =
      let file = file_of offset (m.seen old name) has in
      let torn = (torn_seen c left).torn file.0 file.1 in
      subst (λ (o : Option (List ℕ)). IsSome o) (sym torn.1) refl

  -- once it is synced, all that is seen is on the disk again
  pub synced_again : (new : D) → OnlyReads m mid new → m.is_whole new name → IsDurable name (m.seen new) (m.may_leave new) → IsSyncedDisk m new
  synced_again new reads whole durable = record {
    only = λ c left x. elim (same_name x name) [
      | inl here ↦ ap c here ∙ durable.always c left ∙ ap (m.seen new) (sym here)
      | inr other ↦
          let torn = torn_seen c (reads.crash c left) in
          torn.elsewhere x other ∙ sym (writes.others x other) ∙ ap (λ (f : Folder). f x) (sym reads.seen)
    ];
    whole = λ x. elim (same_name x name) [
      | inl here ↦ subst (λ (y : Name). m.is_whole new y) (sym here) whole
      | inr other ↦ reads.whole x (writes.whole x other (synced.whole x))
    ];
  }
