-- New files that stand in their places, where the folder was given nothing before them; and folders that were recovered.
use Rattle.std.proofs.Common.{◌≡◌, ◌≢◌, ◌⊎◌, arith, IfOk, true, false, inl, inr, ℕ, List, [], ◌∷◌, ◌++◌, Option, None, Some, Result, Ok, Err, IfErr, IfSome, refl, ap, ◌∙◌, subst}
use Rattle.std.specs.Prelude.{bytes_eq}
use Rattle.std.specs.List.{AllByRecursion, IsDistinct}
use Rattle.std.proofs.lemmas.Bool.{cases_Bool}
use Rattle.std.proofs.lemmas.Slice.Eq.{bytes_eq-Decides}
use Rattle.byte_io.specs.Sink.{grown}
use Rattle.files_in_place.specs.Disk.{DiskMeaning, AfterStep, LeavesOnly}
use Rattle.files_in_place.specs.Folder.{Name, Folder, first_of, is_reserved, recovered, without_reserved}
use Rattle.files_in_place.specs.Recovery.{HasOldFiles, RecoversTo, StillRecovers}
use Rattle.files_in_place.specs.Staged.{HasBeenReady}
use Rattle.folders.specs.declared.named.NamedFile.{NamedFile}
use Rattle.folders.specs.Files.{file_at, files_in, listing}
use Rattle.folders.specs.Placed.{names_of, with_files, AreUnreserved, IsListedAfter, IsOldOrPlaced, IsPlaced}
use Rattle.folders.proofs.SinceLaws.{leaves_as, leaves_on, since_this, with_files_same}
use Rattle.folders.specs.declared.finish_fault.FinishFault.{FinishFault}
use Rattle.folders.specs.declared.finish_fault.FinishFault.TheVariants as finish
use Rattle.program_frame.specs.declared.folder.FolderFault.{FolderFault}
use Rattle.program_frame.specs.declared.folder.FolderFault.TheVariants.{Unrecovered, BadList, Unreplaced, Unwritten, Unfinished}
use Rattle.files_in_place.specs.declared.faults.RecoveryFault.{RecoveryFault}
use Rattle.files_in_place.specs.declared.faults.RecoveryFault.TheVariants as recovery
use Rattle.program_frame.specs.declared.folder.PlaceFault.TheVariants as place
use Rattle.program_frame.specs.PlaceFaults.{unplaced_files, unrecovered_folder, IsOfBeginning, IsOfRecovery}
use Rattle.program_frame.specs.Jobs.{AreFilesOf}
use Rattle.program_frame.specs.Placing.{HasFiles, HasPut, MayPut, RecoversAsOneOf, WasPutting}

some_is : (a b : List ℕ) → Some a ≡ Some b → a ≡ b
some_is a b same = ap (λ (o : Option (List ℕ)). elim o [ Some m ↦ m | None ↦ a ]) same

from_none : (old written new : List ℕ) → old ≡ [] → Some new ≡ grown (Some old) written → new ≡ written
unfolding grown
from_none old written new none is = some_is new written (is ∙ ap (λ (l : List ℕ). Some (l ++ written)) none)

-- each file is found by its name after one of another name
found_later : (first : NamedFile) (all files : List NamedFile) → AllByRecursion (λ name. bytes_eq first.name name ≡ false) (names_of files) → AllByRecursion (λ file. file_at all file.name ≡ Some file.bytes) files
    → AllByRecursion (λ file. file_at (first ∷ all) file.name ≡ Some file.bytes) files
found_later first all [] apart found = tt
found_later first all (file ∷ files) apart found = (rw apart.0 found.0, found_later first all files apart.1 found.1)

-- where names differ, each file is found by its own
found_each : (files : List NamedFile) → IsDistinct bytes_eq (names_of files) → AllByRecursion (λ file. file_at files file.name ≡ Some file.bytes) files
unfolding IsDistinct
found_each [] apart = tt
found_each (file ∷ files) apart =
    let own : bytes_eq file.name file.name ≡ true = (bytes_eq-Decides file.name file.name).1 refl in
    (rw own refl, found_later file files files apart.0 (found_each files apart.1))

each_there : (all : List NamedFile) (old new : Folder) → ((n : Name) → new n ≡ with_files all old n) → (files : List NamedFile) → AllByRecursion (λ file. file_at all file.name ≡ Some file.bytes) files → AreUnreserved files
    → AllByRecursion (λ file. new file.name ≡ Some file.bytes) files
each_there all old new placed [] found free = tt
each_there all old new placed (file ∷ files) found free = (
  placed file.name ∙ (rw free.0 refl ∙ ap (λ (o : Option (List ℕ)). first_of o (old file.name)) found.0),
  each_there all old new placed files found.1 free.1,
)

has_files : (files : List NamedFile) (old new : Folder) → IsDistinct bytes_eq (names_of files) → AreUnreserved files → ((n : Name) → new n ≡ with_files files old n) → HasFiles files old new
has_files files old new apart free placed = record {
  there = each_there files old new placed files (found_each files apart) free;
  others = λ name free at. placed name ∙ (rw free refl ∙ ap (λ (o : Option (List ℕ)). first_of o (old name)) at);
  clean = λ name reserved. placed name ∙ rw reserved refl;
}

-- what was written where nothing had been tells the files that stand there
listed_files : (are_such : List NamedFile → Type 0) (begun written : List ℕ) → begun ≡ [] → (listed : IsListedAfter are_such (Some begun) (Some written)) → files_in written ≡ listed.files
listed_files are_such begun written none listed = ap files_in (from_none begun (listing listed.files) written none listed.written) ∙ listed.told

-- files that were written where nothing had been, and then took their places
files_placed : (are_such : List NamedFile → Type 0) (begun written : List ℕ) (old new : Folder) → begun ≡ [] → (listed : IsListedAfter are_such (Some begun) (Some written)) → AreUnreserved (files_in written) → IsPlaced written old new
    → HasFiles listed.files old new
unfolding listed_files
files_placed are_such begun written old new none listed free placed =
    let told = listed_files are_such begun written none listed in
    has_files listed.files old new listed.distinct (subst (λ (fs : List NamedFile). AreUnreserved fs) told free) (λ n. placed n ∙ ap (λ (fs : List NamedFile). with_files fs old n) told)

-- the folder before may be told as one that has the same files
pub files_since : (files : List NamedFile) (before old new : Folder) → ((n : Name) → old n ≡ before n) → HasFiles files old new → HasFiles files before new
files_since files before old new same has = record {
  there = has.there;
  others = λ name free at. has.others name free at ∙ same name;
  clean = has.clean;
}

-- no call has failed where none had
pub none_failed : (before after : ℕ) → Some after ≡ Some before → before ≡ 0 → after ≡ 0
none_failed before after same none = cc

-- ---- what is said of files that were not put in place

-- nothing else is said of that
pub unwritten_only : (why : FinishFault) → unplaced_files why ≡ place.Folder Unwritten → why ≡ finish.Unwritten
unwritten_only finish.NoMemory is = absurd cc
unwritten_only finish.Unwritten is = refl
unwritten_only finish.Unfinished is = absurd cc

pub unfinished_only : (why : FinishFault) → unplaced_files why ≡ place.Folder Unfinished → why ≡ finish.Unfinished
unfinished_only finish.NoMemory is = absurd cc
unfinished_only finish.Unwritten is = absurd cc
unfinished_only finish.Unfinished is = refl

pub never_unbegun : (why : FinishFault) (said : FolderFault) → IsOfBeginning said → unplaced_files why ≢ place.Folder said
never_unbegun finish.NoMemory said un is = absurd cc
never_unbegun finish.Unwritten said un is = let same : said ≡ Unwritten = cc in absurd (subst IsOfBeginning same un)
never_unbegun finish.Unfinished said un is = let same : said ≡ Unfinished = cc in absurd (subst IsOfBeginning same un)

-- ---- what is said of a folder that was not recovered

pub recovery_said : (why : RecoveryFault) (said : FolderFault) → unrecovered_folder why ≡ place.Folder said → IsOfRecovery said
recovery_said recovery.NoMemory said is = absurd cc
recovery_said recovery.Failed said is = let same : Unrecovered ≡ said = cc in subst IsOfRecovery same tt
recovery_said recovery.BadList said is = let same : BadList ≡ said = cc in subst IsOfRecovery same tt
recovery_said (recovery.Unreplaced name) said is = let same : Unreplaced name ≡ said = cc in subst IsOfRecovery same tt

pub failed_only : (why : RecoveryFault) → unrecovered_folder why ≡ place.Folder Unrecovered → why ≡ recovery.Failed
failed_only recovery.NoMemory is = absurd cc
failed_only recovery.Failed is = refl
failed_only recovery.BadList is = absurd cc
failed_only (recovery.Unreplaced name) is = absurd cc

pub bad_list_only : (why : RecoveryFault) → unrecovered_folder why ≡ place.Folder BadList → why ≡ recovery.BadList
bad_list_only recovery.NoMemory is = absurd cc
bad_list_only recovery.Failed is = absurd cc
bad_list_only recovery.BadList is = refl
bad_list_only (recovery.Unreplaced name) is = absurd cc

pub unreplaced_only : (why : RecoveryFault) (name : Name) → unrecovered_folder why ≡ place.Folder (Unreplaced name) → why ≡ recovery.Unreplaced name
unreplaced_only recovery.NoMemory name is = absurd cc
unreplaced_only recovery.Failed name is = absurd cc
unreplaced_only recovery.BadList name is = absurd cc
unreplaced_only (recovery.Unreplaced other) name is = cc

-- ---- a folder that is recovered before new files begin

free_kept : (folder : Folder) (n : Name) → is_reserved n ≡ false → without_reserved folder n ≡ folder n
free_kept folder n free = rw free refl

recovered_same : (before seen : Folder) → ((n : Name) → seen n ≡ recovered before n) → (n : Name) → without_reserved seen n ≡ recovered before n
recovered_same before seen same n = elim (cases_Bool (is_reserved n)) [
  | inl reserved ↦ rw reserved refl
  | inr free ↦ free_kept seen n free ∙ same n
]

-- what stands for its files stands for what recovery makes of the folder before
old_recovered : (before seen left : Folder) → ((n : Name) → seen n ≡ recovered before n) → HasOldFiles seen left → RecoversTo (recovered before) left
old_recovered before seen left same has n = has.recovers n ∙ recovered_same before seen same n

-- ---- what is seen

module _ {D : Type 0} (m : DiskMeaning D) (promised : m.keeps_promises) (start now : D) where
  -- what is seen is one of the folders that a crash may leave
  pub seen_too : (P : Folder → Type 0) → LeavesOnly m start now P → P (m.seen now)
  seen_too P leaves = leaves.each (m.seen now) (m.counts_now now (m.moment start) (m.seen now) leaves.later (m.seen_may_stay now promised))

  -- so it is where a failure is said to leave such folders alone
  pub seen_at : {T F : Type 0} (other : F → Type 0) (P : Folder → Type 0) (ended : Result T F) → IfErr ended (λ failure. other failure → LeavesOnly m start now P)
      → IfErr ended (λ failure. other failure → P (m.seen now))
  unfolding seen_too
  seen_at other P (Ok count) leaves = tt
  seen_at other P (Err failure) leaves = λ said. seen_too P (leaves said)

-- ---- files that are put in place

-- files of work that came to its end are such, whatever it reports
pub such_of : {R : Type 0} (writes : List NamedFile → R → Type 0) (report : R) (old new : Option (List ℕ)) → IsListedAfter (λ files. writes files report) old new → IsListedAfter (AreFilesOf writes) old new
such_of writes report old new listed = record {
  files = listed.files;
  such = (report, listed.such);
  written = listed.written;
  bytes = listed.bytes;
  told = listed.told;
  distinct = listed.distinct;
}

module _ {D : Type 0} (m : DiskMeaning D) (are_such : List NamedFile → Type 0) (begun written : List ℕ) (none : begun ≡ []) (listed : IsListedAfter are_such (Some begun) (Some written)) where
  -- new files that were written on a disk and may be in place, where it was this when they began
  putting : (origin : Option D) (disk now : D) → origin ≡ Some disk → IfSome origin (λ start. LeavesOnly m start now (IsOldOrPlaced written (m.seen start)))
      → MayPut m are_such (HasOldFiles (m.seen disk)) (m.seen disk) disk now
  unfolding listed_files
  putting origin disk now is since =
      let may_put : List NamedFile → D → Folder → Type 0 = λ fs start left. HasOldFiles (m.seen start) left ⊎ RecoversTo (with_files fs (m.seen start)) left in
      record {
        files = listed.files;
        such = listed.such;
        moments = since_this origin disk (λ start. LeavesOnly m start now (may_put listed.files start)) is
            (subst (λ (fs : List NamedFile). IfSome origin (λ start. LeavesOnly m start now (may_put fs start))) (listed_files are_such begun written none listed) since);
      }

  -- and are in place
  pub put_whole : (origin : Option D) (disk now : D) → origin ≡ Some disk → IfSome origin (λ start. LeavesOnly m start now (IsOldOrPlaced written (m.seen start)))
      → AreUnreserved (files_in written) → IfSome origin (λ start. IsPlaced written (m.seen start) (m.seen now)) → HasPut m are_such (HasOldFiles (m.seen disk)) (m.seen disk) disk now
  unfolding putting
  put_whole origin disk now is since free placed = record {
    put = putting origin disk now is since;
    placed = files_placed are_such begun written (m.seen disk) (m.seen now) none listed free (since_this origin disk (λ start. IsPlaced written (m.seen start) (m.seen now)) is placed);
  }

  -- or only some of them
  pub put_in_part : (origin : Option D) (disk now : D) → origin ≡ Some disk
      → IfSome origin (λ start. LeavesOnly m start now (IsOldOrPlaced written (m.seen start)))
      → IfSome origin (λ start. HasBeenReady m (names_of (files_in written)) (m.moment start) (m.seen start) now)
      → m.keeps_promises
      → WasPutting m are_such (HasOldFiles (m.seen disk)) (m.seen disk) disk now
  unfolding putting listed_files
  put_in_part origin disk now is since ready promised =
      let put = putting origin disk now is since in
      record {
        put = put;
        ready = subst (λ (fs : List NamedFile). HasBeenReady m (names_of fs) (m.moment disk) (m.seen disk) now) (listed_files are_such begun written none listed)
            (since_this origin disk (λ start. HasBeenReady m (names_of (files_in written)) (m.moment start) (m.seen start) now) is ready);
        shown = seen_too m promised disk now _ put.moments;
      }

module _ {D : Type 0} (m : DiskMeaning D) (promised : m.keeps_promises) (start mid : D)
    (first : LeavesOnly m start mid (AfterStep StillRecovers (m.may_leave start))) (same : (n : Name) → m.seen mid n ≡ recovered (m.seen start) n) where
  -- what stands for the files of the recovered folder stands for those of one that might have been left
  as_one : (left : Folder) → HasOldFiles (m.seen mid) left → RecoversAsOneOf (m.may_leave start) left
  as_one left has = (m.seen start, m.seen_may_stay start promised, old_recovered (m.seen start) (m.seen mid) left same has)

  -- so it is since an earlier moment, from which on the disk was recovered
  pub recovered_put : (are_such : List NamedFile → Type 0) (now : D) → MayPut m are_such (HasOldFiles (m.seen mid)) (m.seen mid) mid now
      → MayPut m are_such (RecoversAsOneOf (m.may_leave start)) (recovered (m.seen start)) start now
  recovered_put are_such now put = record {
    files = put.files;
    such = put.such;
    moments = leaves_on m start mid now (AfterStep StillRecovers (m.may_leave start)) (λ left. HasOldFiles (m.seen mid) left ⊎ RecoversTo (with_files put.files (m.seen mid)) left)
        (λ left. RecoversAsOneOf (m.may_leave start) left ⊎ RecoversTo (with_files put.files (recovered (m.seen start))) left) first put.moments
        (λ left from. inl (from.0, from.1, from.2.recovers))
        (λ left either. elim either [
          | inl has ↦ inl (as_one left has)
          | inr will ↦ inr (λ n. will n ∙ with_files_same put.files (recovered (m.seen start)) (m.seen mid) (λ name free. same name) n)
        ]);
  }

  pub recovered_whole : (are_such : List NamedFile → Type 0) (now : D) → HasPut m are_such (HasOldFiles (m.seen mid)) (m.seen mid) mid now
      → HasPut m are_such (RecoversAsOneOf (m.may_leave start)) (recovered (m.seen start)) start now
  unfolding recovered_put
  recovered_whole are_such now has = record {
    put = recovered_put are_such now has.put;
    placed = files_since has.put.files (recovered (m.seen start)) (m.seen mid) (m.seen now) same has.placed;
  }

  pub recovered_in_part : (are_such : List NamedFile → Type 0) (now : D) → WasPutting m are_such (HasOldFiles (m.seen mid)) (m.seen mid) mid now
      → WasPutting m are_such (RecoversAsOneOf (m.may_leave start)) (recovered (m.seen start)) start now
  unfolding recovered_put
  recovered_in_part are_such now was = record {
    put = recovered_put are_such now was.put;
    ready = record {
      earlier = was.ready.earlier;
      since = omega (arith, was.ready.since, first.later);
      later = was.ready.later;
      reached = was.ready.reached;
      ready = was.ready.ready;
      same = λ n free. was.ready.same n free ∙ same n;
    };
    shown = elim was.shown [
      | inl has ↦ inl (as_one (m.seen now) has)
      | inr will ↦ inr (λ n. will n ∙ with_files_same was.put.files (recovered (m.seen start)) (m.seen mid) (λ name free. same name) n)
    ];
  }

  -- and where a failure is said to leave the files before
  pub recovered_old : {T F : Type 0} (other : F → Type 0) (now : D) (ended : Result T F) → IfErr ended (λ failure. other failure → LeavesOnly m mid now (HasOldFiles (m.seen mid)))
      → IfErr ended (λ failure. other failure → LeavesOnly m start now (RecoversAsOneOf (m.may_leave start)))
  recovered_old other now (Ok count) old = tt
  recovered_old other now (Err failure) old = λ said.
      leaves_on m start mid now (AfterStep StillRecovers (m.may_leave start)) (HasOldFiles (m.seen mid)) (RecoversAsOneOf (m.may_leave start)) first (old said) (λ left from. (from.0, from.1, from.2.recovers)) as_one

  -- and where files are in place
  pub recovered_ok : {T F : Type 0} (are_such : T → List NamedFile → Type 0) (now : D) (ended : Result T F) → IfOk ended (λ count. HasPut m (are_such count) (HasOldFiles (m.seen mid)) (m.seen mid) mid now)
      → IfOk ended (λ count. HasPut m (are_such count) (RecoversAsOneOf (m.may_leave start)) (recovered (m.seen start)) start now)
  recovered_ok are_such now (Ok count) has = recovered_whole (are_such count) now has
  recovered_ok are_such now (Err failure) has = tt

-- recovery that was cut off
pub recovering_old : {D : Type 0} (m : DiskMeaning D) (start now : D) → LeavesOnly m start now (AfterStep StillRecovers (m.may_leave start))
    → LeavesOnly m start now (RecoversAsOneOf (m.may_leave start))
recovering_old m start now leaves =
    leaves_as m start now (AfterStep StillRecovers (m.may_leave start)) (RecoversAsOneOf (m.may_leave start)) leaves (λ left from. (from.0, from.1, from.2.recovers))
