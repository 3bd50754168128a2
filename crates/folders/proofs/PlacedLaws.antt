-- New files for a folder of a disk: what is true while they are written, and once they have their places.
use Rattle.std.proofs.Common.{◌≡◌, ◌≢◌, inl, inr, ℕ, List, [], ◌∷◌, ◌++◌, true, false, Option, None, Some, Result, Ok, Err, option_map, if◌then◌else◌, refl, sym, ◌∙◌, ap, subst, append_assoc}
use Rattle.std.specs.Prelude.{Bool, not, ◌&&◌}
use Rattle.std.proofs.lemmas.Bool.{cases_Bool, both_ways}
use Rattle.std.proofs.lemmas.List.{append-nil, map-append}
use Rattle.std.proofs.lemmas.Grind.{flat_map-append}
use Rattle.std.proofs.lemmas.Slice.Eq.{bytes_eq-Decides}
use Rattle.std.specs.List.{AllByRecursion, list_all}
use Rattle.std.specs.Str.{bytes_eq}
use Rattle.byte_io.specs.Sink.{is_byte}
use Rattle.byte_io.specs.Laws.OfBytes.{both_bytes}
use Rattle.files_in_place.proofs.Meaning.{temporary-inj}
use Rattle.files_in_place.specs.Disk.{DiskMeaning, LeavesOnly}
use Rattle.files_in_place.specs.Folder.{Name, Folder, SameBut, is_reserved, temporary, first_of}
use Rattle.files_in_place.specs.Staged.{is_staged, with_staged, is_file_name, IsOldOrNew}
use Rattle.files_in_place.specs.declared.phase.Phase.{Phase}
use Rattle.files_in_place.specs.declared.phase.Phase.TheVariants.{Staging, Failed, Ended}
use Rattle.files_in_place.specs.declared.faults.SetFault.{SetFault}
use Rattle.files_in_place.specs.declared.faults.SetFault.TheVariants as F
use Rattle.folders.specs.declared.named.NamedFile.{NamedFile}
use Rattle.folders.specs.Files.{file_at, files_in, listing, opening, IsOfBytes}
use Rattle.folders.specs.Placed.{with_files, names_of, AreUnreserved, AreTemporary, IsCurrent, AreWritten, IsPlaced, IsOldOrPlaced}
use Rattle.folders.proofs.ListingLaws.{files_again}

some_is : (a b : Name) → Some a ≡ Some b → a ≡ b
some_is a b same = ap (λ (o : Option Name). elim o [ Some m ↦ m | None ↦ a ]) same

abbrev file_with : Name → List ℕ → NamedFile
file_with name bytes = record { name = name; bytes = bytes }

all_append : {X : Type 0} (P : X → Type 0) (xs : List X) (x : X) → AllByRecursion P xs → P x → AllByRecursion P (xs ++ x ∷ [])
all_append P [] x all one = (one, tt)
all_append P (y ∷ xs) x all one = (all.0, all_append P xs x all.1 one)

all_before : {X : Type 0} (P : X → Type 0) (xs : List X) (x : X) → AllByRecursion P (xs ++ x ∷ []) → AllByRecursion P xs × P x
all_before P [] x all = (tt, all.0)
all_before P (y ∷ xs) x all = let rest = all_before P xs x all.1 in ((all.0, rest.0), rest.1)

listing_more : (files : List NamedFile) (file : NamedFile) → listing (files ++ file ∷ []) ≡ listing files ++ (opening file.name ++ file.bytes)
listing_more files file =
    flat_map-append (λ f. opening f.name ++ f.bytes) files (file ∷ []) ∙ ap (λ (w : List ℕ). listing files ++ w) (append-nil (opening file.name ++ file.bytes))

names_more : (files : List NamedFile) (file : NamedFile) → names_of (files ++ file ∷ []) ≡ names_of files ++ file.name ∷ []
names_more files file = map-append (λ f. f.name) files (file ∷ [])

-- the files that were there under their temporary names still are, where another name is written to
still_there : (files : List NamedFile) (name : Name) (old new : Folder) → is_staged (names_of files) name ≡ false → SameBut (temporary name) old new → AreTemporary files old → AreTemporary files new
still_there [] name old new free others there = tt
still_there (f ∷ fs) name old new free others there = elim (cases_Bool (bytes_eq f.name name)) [
  | inl same ↦ absurd (both_ways (is_staged (names_of (f ∷ fs)) name) free (rw same refl))
  | inr other ↦
      let differs : f.name ≢ name = λ is. both_ways (bytes_eq f.name name) other ((bytes_eq-Decides f.name name).1 is) in
      (others (temporary f.name) (λ is. differs (temporary-inj f.name name is)) ∙ there.0, still_there fs name old new (sym (rw other refl) ∙ free) others there.1)
]

-- no new files
pub written_none : (written : List ℕ) (names : List Name) (current : Option Name) (folder : Folder) → written ≡ [] → names ≡ [] → current ≡ None → AreWritten written names current folder
written_none written names current folder none no_names no_file = record {
  files = [];
  listed = none;
  bytes = tt;
  named = no_names;
  free = tt;
  there = tt;
  last = subst (λ (c : Option Name). IsCurrent [] c) (sym no_file) refl;
}

-- an empty file more
pub written_begun : (written : List ℕ) (names : List Name) (current : Option Name) (old new : Folder) (name : Name) (listed : List ℕ) (more : List Name) (begun : Option Name) → AreWritten written names current old → is_staged names name ≡ false → is_reserved name ≡ false
    → list_all is_byte name ≡ true → SameBut (temporary name) old new → new (temporary name) ≡ Some [] → listed ≡ written ++ opening name → more ≡ names ++ name ∷ [] → begun ≡ Some (temporary name)
    → AreWritten listed more begun new
written_begun written names current old new name listed more begun was free unreserved low others empty list_is more_is begun_is =
    let file : NamedFile = file_with name [] in
    let files = was.files ++ file ∷ [] in
    let alone : is_staged (names_of was.files) name ≡ false = ap (λ (l : List Name). is_staged l name) (sym was.named) ∙ free in
    record {
      files = files;
      listed = list_is ∙ (ap (λ (w : List ℕ). w ++ opening name) was.listed ∙ (ap (λ (w : List ℕ). listing was.files ++ w) (sym (append-nil (opening name))) ∙ sym (listing_more was.files file)));
      bytes = all_append IsOfBytes was.files file was.bytes (record { name = low; bytes = refl });
      named = more_is ∙ (ap (λ (l : List Name). l ++ name ∷ []) was.named ∙ sym (names_more was.files file));
      free = all_append (λ f. is_reserved f.name ≡ false) was.files file was.free unreserved;
      there = all_append (λ f. new (temporary f.name) ≡ Some f.bytes) was.files file (still_there was.files name old new alone others was.there) empty;
      last = subst (λ (c : Option Name). IsCurrent files c) (sym begun_is) (record { before = was.files; last = file; order = refl; begun = refl; other = alone });
    }

-- more bytes in the last file
pub written_more : (written : List ℕ) (names : List Name) (lies : Name) (old new : Folder) (bytes listed : List ℕ) → AreWritten written names (Some lies) old → list_all is_byte bytes ≡ true
    → new lies ≡ option_map (λ content. content ++ bytes) (old lies) → ((n : Name) → Some lies ≢ Some n → new n ≡ old n) → listed ≡ written ++ bytes
    → AreWritten listed names (Some lies) new
written_more written names lies old new bytes listed was low grew others list_is =
    let last = was.last in
    let file : NamedFile = last.last in
    let fuller : NamedFile = file_with file.name (file.bytes ++ bytes) in
    let files = last.before ++ fuller ∷ [] in
    let is : lies ≡ temporary file.name = some_is lies (temporary file.name) last.begun in
    let here : SameBut (temporary file.name) old new = λ n other. others n (λ same. other (sym (some_is lies n same) ∙ is)) in
    let all_there = all_before (λ f. old (temporary f.name) ≡ Some f.bytes) last.before file (subst (λ (l : List NamedFile). AreTemporary l old) last.order was.there) in
    let all_free = all_before (λ f. is_reserved f.name ≡ false) last.before file (subst (λ (l : List NamedFile). AreUnreserved l) last.order was.free) in
    let all_bytes = all_before IsOfBytes last.before file (subst (λ (l : List NamedFile). AllByRecursion IsOfBytes l) last.order was.bytes) in
    let now : new (temporary file.name) ≡ Some (file.bytes ++ bytes) =
    ap new (sym is) ∙ (grew ∙ ap (option_map (λ content. content ++ bytes)) (ap old is ∙ all_there.1)) in
    record {
      files = files;
      listed = list_is
          ∙ (ap (λ (w : List ℕ). w ++ bytes) (was.listed ∙ (ap listing last.order ∙ listing_more last.before file))
          ∙ (append_assoc (listing last.before) (opening file.name ++ file.bytes) bytes
          ∙ (ap (λ (w : List ℕ). listing last.before ++ w) (append_assoc (opening file.name) file.bytes bytes) ∙ sym (listing_more last.before fuller))));
      bytes = all_append IsOfBytes last.before fuller all_bytes.0 (record { name = all_bytes.1.name; bytes = both_bytes file.bytes bytes all_bytes.1.bytes low });
      named = was.named ∙ (ap names_of last.order ∙ (names_more last.before file ∙ sym (names_more last.before fuller)));
      free = all_append (λ f. is_reserved f.name ≡ false) last.before fuller all_free.0 all_free.1;
      there = all_append (λ f. new (temporary f.name) ≡ Some f.bytes) last.before fuller (still_there last.before file.name old new last.other here all_there.0) now;
      last = record { before = last.before; last = fuller; order = refl; begun = last.begun; other = last.other };
    }

-- the set's files are those of the list
staged_is : (files : List NamedFile) (folder : Folder) (n : Name) → AreTemporary files folder → (if is_staged (names_of files) n then folder (temporary n) else folder n) ≡ first_of (file_at files n) (folder n)
staged_is [] folder n there = refl
staged_is (f ∷ fs) folder n there = elim (cases_Bool (bytes_eq f.name n)) [
  | inl same ↦ rw (same) (sym (ap (λ (m : Name). folder (temporary m)) ((bytes_eq-Decides f.name n).0 same)) ∙ there.0)
  | inr other ↦ rw other (staged_is fs folder n there.1)
]

with_files_is : (files : List NamedFile) (folder : Folder) (n : Name) → AreTemporary files folder → with_staged (names_of files) folder n ≡ with_files files folder n
with_files_is files folder n there = elim (cases_Bool (is_reserved n)) [
  | inl reserved ↦ rw reserved refl
  | inr free ↦ rw free (staged_is files folder n there)
]

-- the list tells the files
told_files : (written : List ℕ) (names : List Name) (current : Option Name) (old : Folder) (w : AreWritten written names current old) → files_in written ≡ w.files
told_files written names current old w = ap files_in w.listed ∙ files_again w.files w.bytes

-- they are on the disk under their temporary names
pub told_there : (written : List ℕ) (names : List Name) (current : Option Name) (old : Folder) → AreWritten written names current old → AreTemporary (files_in written) old
told_there written names current old w = subst (λ (l : List NamedFile). AreTemporary l old) (sym (told_files written names current old w)) w.there

-- none has a reserved name
pub told_free : (written : List ℕ) (names : List Name) (current : Option Name) (old : Folder) → AreWritten written names current old → AreUnreserved (files_in written)
told_free written names current old w = subst (λ (l : List NamedFile). AreUnreserved l) (sym (told_files written names current old w)) w.free

-- the set's names are those of the files of the list
pub told_names : (written : List ℕ) (names : List Name) (current : Option Name) (old : Folder) → AreWritten written names current old → names ≡ names_of (files_in written)
told_names written names current old w = w.named ∙ ap names_of (sym (told_files written names current old w))

same_with : (written : List ℕ) (names : List Name) (current : Option Name) (old : Folder) (n : Name) → AreWritten written names current old → with_staged names old n ≡ with_files (files_in written) old n
same_with written names current old n w =
    ap (λ (l : List Name). with_staged l old n) w.named ∙ (with_files_is w.files old n w.there ∙ ap (λ (l : List NamedFile). with_files l old n) (sym (told_files written names current old w)))

-- the set is in place, and so are the files of the list
pub placed_by : (written : List ℕ) (names : List Name) (current : Option Name) (old new : Folder) → AreWritten written names current old → ((n : Name) → new n ≡ with_staged names old n) → IsPlaced written old new
placed_by written names current old new w done = λ n. done n ∙ same_with written names current old n w

old_or_placed : (written : List ℕ) (names : List Name) (current : Option Name) (old c : Folder) → AreWritten written names current old → IsOldOrNew names old c → IsOldOrPlaced written old c
old_or_placed written names current old c w either = elim either [
  | inl was ↦ inl was
  | inr will ↦ inr (λ n. will n ∙ same_with written names current old n w)
]

-- so a crash leaves the old files or those of the list
pub leaves_placed : {D : Type 0} (m : DiskMeaning D) (before now : D) (written : List ℕ) (names : List Name) (current : Option Name) (old : Folder) → AreWritten written names current old
    → LeavesOnly m before now (IsOldOrNew names old) → LeavesOnly m before now (IsOldOrPlaced written old)
leaves_placed m before now written names current old w leaves = record {
  later = leaves.later;
  each = λ c since. old_or_placed written names current old c w (leaves.each c since);
  before = λ t c earlier since. elim (leaves.before t c earlier since) [
    | inl was ↦ inl was
    | inr either ↦ inr (old_or_placed written names current old c w either)
  ];
  keeps = leaves.keeps;
}

-- ---- what the calls of a set say

-- the set takes files, since a call of it succeeded
pub staging_by : {T X : Type 0} (phase : Phase) (r : Result T SetFault) (x : T) → r ≡ Ok x → (phase ≢ Staging → (r ≡ Err F.Closed) × X) → phase ≡ Staging
staging_by Staging r x ok closed = refl
staging_by Failed r x ok closed = let refused : r ≡ Err F.Closed = (closed (λ same. absurd cc)).0 in absurd cc
staging_by Ended r x ok closed = let refused : r ≡ Err F.Closed = (closed (λ same. absurd cc)).0 in absurd cc

-- a name that was begun is that of no other file
free_by : {T X Y : Type 0} (names : List Name) (name : Name) (phase : Phase) (r : Result T SetFault) (x : T) → r ≡ Ok x → phase ≡ Staging → (phase ≡ Staging → is_file_name name ≡ false → (r ≡ Err F.BadName) × X)
    → (phase ≡ Staging → is_file_name name ≡ true → is_staged names name ≡ true → (r ≡ Err F.SameName) × Y) → is_staged names name ≡ false
free_by names name phase r x ok is bad same = elim (cases_Bool (is_file_name name)) [
  | inl fits ↦ elim (cases_Bool (is_staged names name)) [
    | inl staged ↦ let refused : r ≡ Err F.SameName = (same is fits staged).0 in absurd cc
    | inr free ↦ free
  ]
  | inr unfit ↦ let refused : r ≡ Err F.BadName = (bad is unfit).0 in absurd cc
]

unreserved_name : (reserved rest : Bool) → (not reserved && rest) ≡ true → reserved ≡ false
unreserved_name true rest fits = absurd cc
unreserved_name false rest fits = refl

-- a name that was begun is not reserved
unreserved_by : {T X : Type 0} (name : Name) (phase : Phase) (r : Result T SetFault) (x : T) → r ≡ Ok x → phase ≡ Staging → (phase ≡ Staging → is_file_name name ≡ false → (r ≡ Err F.BadName) × X) → is_reserved name ≡ false
unreserved_by name phase r x ok is bad = elim (cases_Bool (is_file_name name)) [
  | inl fits ↦ unreserved_name (is_reserved name) _ fits
  | inr unfit ↦ let refused : r ≡ Err F.BadName = (bad is unfit).0 in absurd cc
]

pub begun_by : {T X Y : Type 0} (written : List ℕ) (names : List Name) (current : Option Name) (old new : Folder) (name : Name) (listed : List ℕ) (more : List Name) (begun : Option Name) (phase : Phase) (r : Result T SetFault) (x : T) → r ≡ Ok x → phase ≡ Staging
    → (phase ≡ Staging → is_file_name name ≡ false → (r ≡ Err F.BadName) × X) → (phase ≡ Staging → is_file_name name ≡ true → is_staged names name ≡ true → (r ≡ Err F.SameName) × Y) → AreWritten written names current old → list_all is_byte name ≡ true
    → SameBut (temporary name) old new → new (temporary name) ≡ Some [] → listed ≡ written ++ opening name → more ≡ names ++ name ∷ [] → begun ≡ Some (temporary name) → AreWritten listed more begun new
begun_by written names current old new name listed more begun phase r x ok is bad same was low others empty list_is more_is begun_is =
    written_begun written names current old new name listed more begun was (free_by names name phase r x ok is bad same) (unreserved_by name phase r x ok is bad) low others empty list_is more_is begun_is

more_by : {T X : Type 0} (written : List ℕ) (names : List Name) (current : Option Name) (old new : Folder) (bytes listed : List ℕ) (r : Result T SetFault) (x : T) → r ≡ Ok x → (current ≡ None → (r ≡ Err F.NotBegun) × X)
    → AreWritten written names current old → list_all is_byte bytes ≡ true → ((lies : Name) → current ≡ Some lies → new lies ≡ option_map (λ content. content ++ bytes) (old lies))
    → ((n : Name) → current ≢ Some n → new n ≡ old n) → listed ≡ written ++ bytes → AreWritten listed names current new
more_by written names None old new bytes listed r x ok none was low grew others list_is = let refused : r ≡ Err F.NotBegun = (none refl).0 in absurd cc
more_by written names (Some lies) old new bytes listed r x ok none was low grew others list_is = written_more written names lies old new bytes listed was low (grew lies refl) others list_is

pub written_by : {T X : Type 0} (written : List ℕ) (names : List Name) (current : Option Name) (old new : Folder) (bytes listed : List ℕ) (same : List Name) (kept : Option Name) (r : Result T SetFault) (x : T) → r ≡ Ok x → (current ≡ None → (r ≡ Err F.NotBegun) × X)
    → AreWritten written names current old → list_all is_byte bytes ≡ true → ((lies : Name) → current ≡ Some lies → new lies ≡ option_map (λ content. content ++ bytes) (old lies))
    → ((n : Name) → current ≢ Some n → new n ≡ old n) → listed ≡ written ++ bytes → same ≡ names → kept ≡ current → AreWritten listed same kept new
written_by written names current old new bytes listed same kept r x ok none was low grew others list_is same_is kept_is =
    let now = more_by written names current old new bytes listed r x ok none was low grew others list_is in
    subst (λ (l : List Name). AreWritten listed l kept new) (sym same_is) (subst (λ (c : Option Name). AreWritten listed names c new) (sym kept_is) now)
