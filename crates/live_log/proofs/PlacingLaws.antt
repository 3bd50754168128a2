-- What a crash leaves while a set takes its place with one file more.
use Rattle.std.proofs.Common.{◌≡◌, ◌≢◌, ◌++◌, inl, inr, ⊎_elim, List, [], ◌∷◌, true, false, Bool, None, Some, ℕ, refl, sym, ◌∙◌, ap, cond}
use Rattle.std.proofs.lemmas.Bool.{cases_Bool, both_ways}
use Rattle.files_in_place.specs.Folder.{Name, Folder, SameBut, is_reserved, temporary, recovered}
use Rattle.files_in_place.specs.Recovery.{HasOldFiles, SameFree, IsClean}
use Rattle.files_in_place.specs.Staged.{is_staged, is_file_name, with_staged, IsOldOrNew}
use Rattle.files_in_place.proofs.Meaning.{free_other, temporary-inj}
use Rattle.files_in_place.proofs.Sets.{more_staged, unstaged_before, unstaged_other}
use Rattle.live_log.specs.Placing.{HasPlaced, IsOldOrPlacedWith}

-- what has a folder's old files recovers to them
pub old_files : (old now : Folder) → SameFree old now → (c : Folder) → HasOldFiles now c → SameFree old (recovered c)
old_files old now same c has n free = has.recovers n ∙ (ap (λ (b : Bool). cond b None (now n)) free ∙ same n free)

free_name : (name : Name) → is_file_name name ≡ true → is_reserved name ≡ false
free_name name fits = elim (cases_Bool (is_reserved name)) [
  | inl reserved ↦ absurd (both_ways false refl (sym (rw reserved refl) ∙ fits))
  | inr free ↦ free
]

still : (names : List Name) (name n : Name) → is_staged names n ≡ true → is_staged (names ++ name ∷ []) n ≡ true
still names name n is = elim (cases_Bool (is_staged (names ++ name ∷ []) n)) [
  | inl staged ↦ staged
  | inr unstaged ↦ absurd (both_ways (is_staged names n) (unstaged_before names name n unstaged) is)
]

itself : (names : List Name) (name : Name) → is_staged (names ++ name ∷ []) name ≡ true
itself names name = elim (cases_Bool (is_staged (names ++ name ∷ []) name)) [
  | inl staged ↦ staged
  | inr unstaged ↦ absurd (unstaged_other names name name unstaged refl)
]

-- what takes its place leaves no reserved name
pub placed_clean : (names : List Name) (now new : Folder) → ((n : Name) → new n ≡ with_staged names now n) → IsClean new
placed_clean names now new is n reserved = is n ∙ (rw reserved refl)

module _ (name : Name) (bytes : List ℕ) (names : List Name) (old now : Folder) (fits : is_file_name name ≡ true) (others : SameBut (temporary name) old now) (lies : now (temporary name) ≡ Some bytes) where
  abbrev all : List Name
  all = names ++ name ∷ []

  same_free : SameFree old now
  same_free n free = others n (free_other n (temporary name) free refl)

  -- what is staged under each other name
  staged_is : (n : Name) → is_reserved n ≡ false → n ≢ name → with_staged all now n ≡ with_staged names old n
  staged_is n free other = elim (cases_Bool (is_staged names n)) [
    | inl staged ↦
        let more = still names name n staged in
        rw (free, staged, more) (others (temporary n) (λ same. other (temporary-inj n name same)))
    | inr unstaged ↦
        let more : is_staged all n ≡ false = elim (cases_Bool (is_staged all n)) [
          | inl is ↦ absurd (⊎_elim (λ was. both_ways (is_staged names n) unstaged was) (λ same. other (sym same)) (more_staged names name n is))
          | inr none ↦ none
        ] in
        rw (free, unstaged, more) (same_free n free)
  ]

  file_staged : with_staged all now name ≡ Some bytes
  file_staged = let free = free_name name fits in let is = itself names name in rw (free, is) lies

  pub has_placed : (new : Folder) → ((n : Name) → new n ≡ with_staged all now n) → HasPlaced name bytes names old new
  has_placed new is = record { file = is name ∙ file_staged; others = λ n free other. is n ∙ staged_is n free other }

  pub old_or_placed : (c : Folder) → IsOldOrNew all now c → IsOldOrPlacedWith name bytes names old c
  old_or_placed c (inl has) = inl (old_files old now same_free c has)
  old_or_placed c (inr to) = inr (has_placed (recovered c) to)
