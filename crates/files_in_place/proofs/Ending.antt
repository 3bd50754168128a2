-- Lists of names, and what is left when recovery is through with them.
use Rattle.std.proofs.Common.{◌≡◌, inl, inr, ⊎_elim, ◌⊎◌, ℕ, zero, suc, List, [], ◌∷◌, Bool, true, false, Option, None, Some, IsSome, refl, sym, ◌∙◌, ap, subst, arith, ◌||◌}
use Rattle.std.proofs.lemmas.Bool.{cases_Bool, cond-true, cond-false, or_left, or_right}
use Rattle.std.proofs.lemmas.Slice.Eq.{bytes_eq-Decides}
use Rattle.std.specs.List.{list_any, AllByRecursion, Contains}
use Rattle.std.specs.Str.{bytes_eq}
use Rattle.files_in_place.specs.Folder.{Name, Folder, is_reserved, temporary, list_name, names_in, is_listed, recovered, without_reserved}
use Rattle.files_in_place.specs.Disk.{Settles, IsSynced}
use Rattle.files_in_place.specs.Recovery.{IsFinished, SameFree, LosesReserved, CanRename, CanClean, StillRecovers, AreRemoved, AreListed, AreRenamed, IsClean}
use Rattle.files_in_place.proofs.Each.{each_by}
use Rattle.files_in_place.proofs.Meaning.{recovered_by, recovered_by-none, recovered_free, recovered_reserved, recovered_same, same_list}

-- each name of a list is in it
found_more : (names : List Name) (first : Name) (all : List Name) → AllByRecursion (λ name. list_any (λ listed. bytes_eq listed name) all ≡ true) names
    → AllByRecursion (λ name. list_any (λ listed. bytes_eq listed name) (first ∷ all) ≡ true) names
found_more [] first all found = tt
found_more (name ∷ names) first all found =
    (or_right (bytes_eq first name) (list_any (λ listed. bytes_eq listed name) all) found.0, found_more names first all found.1)

found_each : (names : List Name) → AllByRecursion (λ name. list_any (λ listed. bytes_eq listed name) names ≡ true) names
found_each [] = tt
found_each (name ∷ names) = (
  or_left (bytes_eq name name) (list_any (λ listed. bytes_eq listed name) names) ((bytes_eq-Decides name name).1 refl),
  found_more names name names (found_each names),
)

pub listed_each : (names : List Name) (folder : Folder) → names ≡ names_in (folder list_name) → AreListed names folder
listed_each names folder same =
    let P : List Name → Type 0 = λ all. AllByRecursion (λ name. list_any (λ listed. bytes_eq listed name) all ≡ true) names in
    subst P same (found_each names)

-- a name that a list contains is in it
contained_found : (names : List Name) (n : Name) → Contains names n → list_any (λ listed. bytes_eq listed n) names ≡ true
contained_found [] n (k, lt, is) = absurd (omega arith)
contained_found (name ∷ names) n (zero, lt, is) = or_left (bytes_eq name n) (list_any (λ listed. bytes_eq listed n) names) ((bytes_eq-Decides name n).1 is)
contained_found (name ∷ names) n (suc k, lt, is) = or_right (bytes_eq name n) (list_any (λ listed. bytes_eq listed n) names) (contained_found names n (k, omega arith, is))

pub listed_contained : (names : List Name) (folder : Folder) (n : Name) → names ≡ names_in (folder list_name) → Contains names n → is_listed folder n ≡ true
listed_contained names folder n same is =
    let P : List Name → Type 0 = λ all. list_any (λ listed. bytes_eq listed n) all ≡ true in
    subst P same (contained_found names n is)

-- what is true of each name of a list is true of a name that is in it
pub listed_at : (P : Name → Type 0) (names : List Name) (n : Name) → list_any (λ listed. bytes_eq listed n) names ≡ true → AllByRecursion P names → P n
listed_at P [] n found all = absurd (cc found)
listed_at P (name ∷ names) n found all = elim (cases_Bool (bytes_eq name n)) [
  | inl same ↦ subst P ((bytes_eq-Decides name n).0 same) all.0
  | inr other ↦ listed_at P names n (sym (ap (λ (b : Bool). b || list_any (λ listed. bytes_eq listed n) names) other) ∙ found) all.1
]

-- a folder that has nothing where another has nothing has no temporary files either
renamed_too : (names : List Name) (folder c : Folder) → AreRenamed names folder → ((n : Name) → folder n ≡ None → c n ≡ folder n) → AreRenamed names c
renamed_too [] folder c taken none = tt
renamed_too (name ∷ names) folder c taken none = (none (temporary name) taken.0 ∙ taken.0, renamed_too names folder c taken.1 none)

pub taken_finished : (names : List Name) (folder : Folder) → names ≡ names_in (folder list_name) → AreRenamed names folder → IsFinished folder
taken_finished names folder same taken n free = elim (cases_Bool (is_listed folder n)) [
  | inl listed ↦
      let found : list_any (λ listed. bytes_eq listed n) names ≡ true = ap (λ (l : List Name). list_any (λ listed. bytes_eq listed n) l) same ∙ listed in
      recovered_free folder n free
      ∙ ap (λ (x : Option (List ℕ)). recovered_by (is_listed folder n) x (folder n)) (listed_at (λ name. folder (temporary name) ≡ None) names n found taken)
      ∙ recovered_by-none (is_listed folder n) (folder n)
  | inr unlisted ↦ recovered_free folder n free ∙ ap (λ (b : Bool). recovered_by b (folder (temporary n)) (folder n)) unlisted
]

pub unlisted_finished : (folder : Folder) → folder list_name ≡ None → IsFinished folder
unlisted_finished folder none n free =
    let unlisted : is_listed folder n ≡ false = ap (λ (list : Option (List ℕ)). list_any (λ listed. bytes_eq listed n) (names_in list)) none in
    recovered_free folder n free ∙ ap (λ (b : Bool). recovered_by b (folder (temporary n)) (folder n)) unlisted

-- recovery makes the same of folders that have the same
pub recovered_each : (c d : Folder) → ((n : Name) → c n ≡ d n) → (n : Name) → recovered c n ≡ recovered d n
recovered_each c d same n = recovered_same c d n (same list_name) (same (temporary n)) (same n)

pub without_res : (folder : Folder) (n : Name) → is_reserved n ≡ true → without_reserved folder n ≡ None
without_res folder n res = cond-true (is_reserved n) None (folder n) res

pub without_free : (folder : Folder) (n : Name) → is_reserved n ≡ false → without_reserved folder n ≡ folder n
without_free folder n free = cond-false (is_reserved n) None (folder n) free

pub without_same : (old new : Folder) → SameFree old new → (n : Name) → without_reserved new n ≡ without_reserved old n
without_same old new same n = elim (cases_Bool (is_reserved n)) [
  | inl res ↦ without_res new n res ∙ sym (without_res old n res)
  | inr free ↦ without_free new n free ∙ same n free ∙ sym (without_free old n free)
]

-- where recovery has nothing to do, it leaves the names that aren't reserved
pub finished_without : (folder : Folder) → IsFinished folder → (n : Name) → recovered folder n ≡ without_reserved folder n
finished_without folder finished n = elim (cases_Bool (is_reserved n)) [
  | inl res ↦ recovered_reserved folder n res ∙ sym (without_res folder n res)
  | inr free ↦ finished n free ∙ sym (without_free folder n free)
]

module _ (folder : Folder) (outcomes : Folder → Type 0) (only : (c : Folder) → outcomes c → (n : Name) → c n ≡ folder n) where
  pub can_rename : CanRename folder outcomes
  can_rename = record { list = λ c now. only c now list_name; files = λ n listed. inr (λ c now. only c now (temporary n)) }

-- what recovery makes of a folder it makes of one that has the same files
pub still_from : (d f c : Folder) → ((n : Name) → d n ≡ f n) → StillRecovers d c → StillRecovers f c
still_from d f c same still = record {
  recovers = λ n. still.recovers n ∙ recovered_each d f same n;
  unlisted = λ n free unlisted. still.unlisted n free (same_list d f n (same list_name) ∙ unlisted) ∙ same n;
  no_more = λ n unlisted. still.no_more n (same_list d f n (same list_name) ∙ unlisted);
}

-- once all listed files have their names, no outcome of a crash has more to be done than what is seen
pub can_clean : (names : List Name) (folder : Folder) (outcomes : Folder → Type 0) → names ≡ names_in (folder list_name) → AreRenamed names folder → ((c : Folder) → outcomes c → c list_name ≡ folder list_name)
    → ((c : Folder) → outcomes c → (n : Name) → folder n ≡ None → c n ≡ folder n) → CanClean folder outcomes
can_clean names folder outcomes same taken list none = record {
  finished = taken_finished names folder same taken;
  always = λ c now. taken_finished names c (same ∙ ap names_in (sym (list c now))) (renamed_too names folder c taken (none c now));
}

-- a name among those that are gone
gone_at : (names : List Name) (folder : Folder) (n : Name) → is_reserved n ≡ true → AreRemoved names folder → Contains names n → folder n ≡ None
gone_at [] folder n res gone (k, lt, is) = absurd (omega arith)
gone_at (name ∷ names) folder n res gone (zero, lt, is) =
    let P : Name → Type 0 = λ m. is_reserved m ≡ true → folder m ≡ None in
    subst P is gone.0 res
gone_at (name ∷ names) folder n res gone (suc k, lt, is) = gone_at names folder n res gone.1 (k, omega arith, is)

-- what is gone stays so
pub still_removed : (names : List Name) (old new : Folder) → LosesReserved old new → AreRemoved names old → AreRemoved names new
still_removed names old new loses gone =
    each_by (λ name. is_reserved name ≡ true → old name ≡ None) (λ name. is_reserved name ≡ true → new name ≡ None) names
    (λ name was res. ⊎_elim (λ still. still ∙ was res) (λ lost. lost) (loses.lost name)) gone

pub none_or_some : (o : Option (List ℕ)) → (o ≡ None) ⊎ IsSome o
none_or_some None = inl refl
none_or_some (Some bytes) = inr refl

-- no reserved name is left
pub removed_each : (names : List Name) (old new : Folder) → LosesReserved old new → AreRemoved names new → ((n : Name) → IsSome (old n) → Contains names n) → IsClean new
removed_each names old new loses gone all n res =
    ⊎_elim
    (λ still. ⊎_elim (λ was. still ∙ was) (λ there. gone_at names new n res gone (all n there)) (none_or_some (old n)))
    (λ lost. lost) (loses.lost n)

-- and each other name has what it had
pub cleaned : (names : List Name) (old new : Folder) → LosesReserved old new → AreRemoved names new → ((n : Name) → IsSome (old n) → Contains names n) → (n : Name) → new n ≡ without_reserved old n
cleaned names old new loses gone all n = elim (cases_Bool (is_reserved n)) [
  | inr free ↦ loses.same n free ∙ sym (without_free old n free)
  | inl res ↦ removed_each names old new loses gone all n res ∙ sym (without_res old n res)
]

-- what recovery leaves has no reserved name
pub recovered_clean : (folder new : Folder) → ((n : Name) → new n ≡ recovered folder n) → IsClean new
recovered_clean folder new is n res = is n ∙ recovered_reserved folder n res

-- after a sync of the folder
pub settled : (folder : Folder) (is_whole still_whole : Name → Type 0) (outcomes : Folder → Type 0) → ((n : Name) → is_whole n) → ((n : Name) → is_whole n → still_whole n) → Settles folder is_whole outcomes → IsSynced folder still_whole outcomes
settled folder is_whole still_whole outcomes all still settles = record { only = λ c now n. settles c now n (all n); whole = λ n. still n (all n) }
