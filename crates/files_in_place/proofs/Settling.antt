-- All that is seen is brought to the disk.
use Rattle.std.proofs.Common.{◌≡◌, inr, List, true, ◌∙◌, ap}
use Rattle.std.specs.List.{list_any}
use Rattle.std.specs.Str.{bytes_eq}
use Rattle.files_in_place.specs.Folder.{Name, Folder, temporary, list_name, names_in}
use Rattle.files_in_place.specs.Disk.{DiskMeaning, AfterStep, Shrinks, Settles, OnlyReads, LeavesOnly, Steps}
use Rattle.files_in_place.specs.Recovery.{AreOnDisk, CanRename}
use Rattle.files_in_place.proofs.Runs.{IsStep, stays, started, goes_on, runs_on, leaves_by}
use Rattle.files_in_place.proofs.Ending.{listed_at}

module _ {D : Type 0} (m : DiskMeaning D) where
  pub leaves_same : (old : D) → LeavesOnly m old old (m.may_leave old)
  leaves_same old = started m old (m.may_leave old) (λ c now. now)

  -- one call more, which changes no file
  pub leaves_less : (old mid new : D) → LeavesOnly m old mid (m.may_leave old) → Shrinks (m.may_leave old) (m.may_leave mid) → OnlyReads m mid new → LeavesOnly m old new (m.may_leave old)
  leaves_less old mid new so_far less reads = goes_on m old mid new (m.may_leave old) so_far reads.time (λ c now. less c (reads.crash c now))

  -- some calls more, likewise
  pub leaves_less_on : (old mid new : D) → LeavesOnly m old mid (m.may_leave old) → Shrinks (m.may_leave old) (m.may_leave mid) → LeavesOnly m mid new (m.may_leave mid) → LeavesOnly m old new (m.may_leave old)
  leaves_less_on old mid new so_far less next = runs_on m old mid new (m.may_leave old) (m.may_leave mid) so_far next less

  -- a run that leaves nothing else is one of no step
  pub run_less : (step : Folder → Folder → Type 0) → IsStep step → (old new : D) → LeavesOnly m old new (m.may_leave old) → Shrinks (m.may_leave old) (m.may_leave new) → Steps m step old new
  run_less step is old new leaves less = record {
    crash = stays step is (m.may_leave old) (m.may_leave new) less;
    moments = leaves_by m old new (m.may_leave old) (AfterStep step (m.may_leave old)) leaves (λ c was. (c, was, is.still c));
  }

-- where what the list names is on the disk, it can be renamed
pub settled_can : (names : List Name) (folder : Folder) (is_whole : Name → Type 0) (outcomes : Folder → Type 0) → names ≡ names_in (folder list_name) → is_whole list_name → AreOnDisk is_whole names → Settles folder is_whole outcomes → CanRename folder outcomes
settled_can names folder is_whole outcomes same list both settles = record {
  list = λ c now. settles c now list_name list;
  files = λ n listed.
      let found : list_any (λ (m : Name). bytes_eq m n) names ≡ true = ap (λ (l : List Name). list_any (λ (m : Name). bytes_eq m n) l) same ∙ listed in
      inr (λ c now. settles c now (temporary n) (listed_at (λ name. is_whole name × is_whole (temporary name)) names n found both).1);
}
