-- What a disk means, what its calls do to its folder, and what a crash may do between two syncs.
use Rattle.std.specs.Prelude.{◌<◌, ◌≡◌, ◌≢◌, ◌⊎◌, ℕ, ◌≤◌, IsSome, None}
use Rattle.files_in_place.specs.Folder.{Name, Folder, SameBut}

-- a folder after a step from one of those that a crash may leave
abbrev pub AfterStep : (Folder → Folder → Type 0) → (Folder → Type 0) → Folder → Type 0
AfterStep step outcomes c = (d : Folder) × outcomes d × step d c

-- each new outcome of a crash is an old outcome after a step
abbrev pub ComesBy : (Folder → Folder → Type 0) → (Folder → Type 0) → (Folder → Type 0) → Type 0
ComesBy step old new = (c : Folder) → new c → AfterStep step old c

-- each new outcome of a crash is an old one
abbrev pub Shrinks : (Folder → Type 0) → (Folder → Type 0) → Type 0
Shrinks old new = (c : Folder) → new c → old c

-- the file has moved
pub record HasMoved (from to : Name) (old new : Folder) : Type 0 where
  pub there : new to ≡ old from
  pub gone : new from ≡ None

-- each name but these two has what it had
abbrev pub SameButTwo : Name → Name → Folder → Folder → Type 0
SameButTwo from to old new = (n : Name) → n ≢ from → n ≢ to → new n ≡ old n

-- What a crash may leave of a rename: nothing has moved; or the new name has the file, and the old name has it too, or nothing.
-- Never is the new name without both files, nor the old name's file without a name.
pub record MayMove (from to : Name) (old new : Folder) : Type 0 where
  pub either : ((new to ≡ old to) × (new from ≡ old from)) ⊎ ((new to ≡ old from) × ((new from ≡ old from) ⊎ (new from ≡ None)))
  pub elsewhere : SameButTwo from to old new

-- what a crash may leave of a removal: all as it was, or the name without a file
pub record MayRemove (name : Name) (old new : Folder) : Type 0 where
  pub either : (new name ≡ old name) ⊎ (new name ≡ None)
  pub elsewhere : SameBut name old new

-- the name has a file, and has the same one in each outcome of a crash
pub record IsDurable (name : Name) (folder : Folder) (outcomes : Folder → Type 0) : Type 0 where
  pub there : IsSome (folder name)
  pub always : (c : Folder) → outcomes c → c name ≡ folder name

-- each name whose bytes are on the disk has in each outcome of a crash what is seen
abbrev pub Settles : Folder → (Name → Type 0) → (Folder → Type 0) → Type 0
Settles folder is_whole outcomes = (c : Folder) → outcomes c → (n : Name) → is_whole n → c n ≡ folder n

-- every name has in each outcome of a crash what is seen, and all bytes are on the disk
pub record IsSynced (folder : Folder) (is_whole : Name → Type 0) (outcomes : Folder → Type 0) : Type 0 where
  pub only : (c : Folder) → outcomes c → (n : Name) → c n ≡ folder n
  pub whole : (n : Name) → is_whole n

-- What a disk of this type means, as one value: whether it keeps its promises, what reads show, what a crash may leave now and
-- might have left since a moment, which files are on the disk and which are new, the moment, and how often the disk has failed;
-- with four laws on these.
pub record DiskMeaning (D : Type 0) : Type 1 where
  -- the files are what the model says of them
  pub keeps_promises : Type 0
  -- the files as reads show them
  pub seen : D → Folder
  -- What a crash at this moment may leave. Where the program alone is stopped, what is seen stays: that is one of these.
  pub may_leave : D → Folder → Type 0
  -- all the bytes of the file that has the name are on the disk
  pub is_whole : D → Name → Type 0
  -- the name has a file that `create` made, and no other name has had it
  pub is_new : D → Name → Type 0
  -- the moment, as a number that doesn't fall
  pub moment : D → ℕ
  -- what a crash at some moment from that one on might have left, during a call or between two
  pub left_since : D → ℕ → Folder → Type 0
  -- how often the disk has failed
  pub faults : D → ℕ
  -- a name without a file has no bytes that aren't on the disk
  pub none_whole : (disk : D) (n : Name) → seen disk n ≡ None → is_whole disk n
  -- what is seen is one of the folders that a crash may leave
  pub seen_may_stay : (disk : D) → keeps_promises → may_leave disk (seen disk)
  -- this moment is one of those since an earlier one
  pub counts_now : (disk : D) (t : ℕ) (c : Folder) → t ≤ moment disk → may_leave disk c → left_since disk t c
  -- since this moment there is no other
  pub only_now : (disk : D) (c : Folder) → left_since disk (moment disk) c → may_leave disk c

-- the meaning of a disk of which only is known how often it has failed: no promise is claimed
abbrev pub nothing_promised : {D : Type 0} → (D → ℕ) → DiskMeaning D
nothing_promised failures = record {
  keeps_promises = ⊥;
  seen = λ disk n. None;
  may_leave = λ disk c. ⊥;
  is_whole = λ disk n. Unit {0};
  is_new = λ disk n. Unit {0};
  moment = λ disk. 0;
  left_since = λ disk t c. ⊥;
  faults = failures;
  none_whole = λ disk n none. tt;
  seen_may_stay = λ disk none. none;
  counts_now = λ disk t c le now. now;
  only_now = λ disk c now. now;
}

-- a failure is answered only if the disk has failed since
pub record HasCause (before now : ℕ) (failed : Type 0) : Type 0 where
  pub later : before ≤ now
  pub cause : failed → before < now

module _ {D : Type 0} (m : DiskMeaning D) where
  -- Time goes on: a crash since t might have left what it might have left before, or what it may leave now.
  pub record Elapses (old new : D) : Type 0 where
    pub later : m.moment old ≤ m.moment new
    pub nothing_else : (t : ℕ) (c : Folder) → t ≤ m.moment old → m.left_since new t c → m.left_since old t c ⊎ m.may_leave new c
    pub keeps : (t : ℕ) (c : Folder) → t ≤ m.moment old → m.left_since old t c → m.left_since new t c

  -- A call that changes no file. This and the next three say which names stay as they are, which files stay on the disk, what a
  -- crash may leave, and that time goes on.
  pub record OnlyReads (old new : D) : Type 0 where
    pub seen : m.seen new ≡ m.seen old
    pub whole : (n : Name) → m.is_whole old n → m.is_whole new n
    pub crash : Shrinks (m.may_leave old) (m.may_leave new)
    pub time : Elapses old new

  -- a call that changes the file of one name
  pub record ChangesFile (name : Name) (old new : D) : Type 0 where
    pub others : SameBut name (m.seen old) (m.seen new)
    pub whole : (n : Name) → n ≢ name → m.is_whole old n → m.is_whole new n
    pub crash : ComesBy (SameBut name) (m.may_leave old) (m.may_leave new)
    pub time : Elapses old new

  -- a call that gives a file another name
  pub record MovesFile (from to : Name) (old new : D) : Type 0 where
    pub others : SameButTwo from to (m.seen old) (m.seen new)
    pub whole : (n : Name) → n ≢ to → m.is_whole old n → m.is_whole new n
    pub crash : ComesBy (MayMove from to) (m.may_leave old) (m.may_leave new)
    pub time : Elapses old new

  -- a call that removes the file of a name
  pub record RemovesFile (name : Name) (old new : D) : Type 0 where
    pub others : SameBut name (m.seen old) (m.seen new)
    pub whole : (n : Name) → m.is_whole old n → m.is_whole new n
    pub crash : ComesBy (MayRemove name) (m.may_leave old) (m.may_leave new)
    pub time : Elapses old new

  -- A crash at any moment since the disk was old leaves only folders that have P.
  pub record LeavesOnly (old new : D) (P : Folder → Type 0) : Type 0 where
    pub later : m.moment old ≤ m.moment new
    pub each : (c : Folder) → m.left_since new (m.moment old) c → P c
    -- for a run that began earlier
    pub before : (t : ℕ) (c : Folder) → t ≤ m.moment old → m.left_since new t c → m.left_since old t c ⊎ P c
    -- no moment is forgotten
    pub keeps : (t : ℕ) (c : Folder) → t ≤ m.moment old → m.left_since old t c → m.left_since new t c

  -- A run of calls in which each outcome of a crash comes by this step from one that was possible before the run: at its end,
  -- and at any moment of it.
  pub record Steps (step : Folder → Folder → Type 0) (old new : D) : Type 0 where
    pub crash : ComesBy step (m.may_leave old) (m.may_leave new)
    pub moments : LeavesOnly old new (AfterStep step (m.may_leave old))

  -- all that is seen of a disk is on it (`IsSynced`)
  abbrev pub IsSyncedDisk : D → Type 0
  IsSyncedDisk disk = IsSynced (m.seen disk) (m.is_whole disk) (m.may_leave disk)

  -- a failure of this disk is answered only if it has failed since
  abbrev pub HasDiskCause : D → D → Type 0 → Type 0
  HasDiskCause old new failed = HasCause (m.faults old) (m.faults new) failed
