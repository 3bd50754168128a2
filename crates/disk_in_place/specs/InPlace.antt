-- Writing over bytes of a file where it is: what the call does, and what a crash leaves of it.
use Rattle.std.specs.Prelude.{◌≡◌, ◌≢◌, ℕ, ◌+◌, ◌≤◌, max, List, ◌++◌, length, take, drop, Option, Some, None}
use Rattle.files_in_place.specs.Folder.{Name, Folder, SameBut}
use Rattle.files_in_place.specs.Disk.{DiskMeaning, ComesBy, Elapses}

-- there is a file, which has at least so many bytes
abbrev pub HasBytes : ℕ → Option (List ℕ) → Type 0
HasBytes n None = ⊥
HasBytes n (Some bytes) = n ≤ length bytes

-- the bytes with these ones in the place of those from an offset on, and longer where they don't fit
abbrev pub written_over : ℕ → List ℕ → List ℕ → List ℕ
written_over offset bytes old = take offset old ++ (bytes ++ drop (offset + length bytes) old)

-- A write of so many bytes at an offset that a crash cuts short: any bytes in the range, and past the old end up to the range's;
-- each byte outside of the range is what it was.
pub record IsTorn (offset n : ℕ) (old new : List ℕ) : Type 0 where
  pub before : take offset new ≡ take offset old
  pub after : drop (offset + n) new ≡ drop (offset + n) old
  pub no_shorter : length old ≤ length new
  pub no_longer : length new ≤ max (length old) (offset + n)

-- a file that is torn so is still a file
abbrev pub IsTornFile : ℕ → ℕ → Option (List ℕ) → Option (List ℕ) → Type 0
IsTornFile offset n old new = (a : List ℕ) → old ≡ Some a → (b : List ℕ) × (new ≡ Some b) × IsTorn offset n a b

-- a crash may tear the file of the name so, and no other
pub record MayTear (name : Name) (offset n : ℕ) (old new : Folder) : Type 0 where
  pub torn : IsTornFile offset n (old name) (new name)
  pub elsewhere : SameBut name old new

module _ {D : Type 0} (m : DiskMeaning D) where
  -- a call that writes over bytes of the name's file where it is
  pub record WritesOver (name : Name) (offset n : ℕ) (old new : D) : Type 0 where
    pub others : SameBut name (m.seen old) (m.seen new)
    pub whole : (other : Name) → other ≢ name → m.is_whole old other → m.is_whole new other
    pub crash : ComesBy (MayTear name offset n) (m.may_leave old) (m.may_leave new)
    pub time : Elapses m old new
