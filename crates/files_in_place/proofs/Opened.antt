-- Files of a folder of the system that are open to be synced.
use Rattle.std.proofs.Common.{◌≡◌, ◌<◌, ◌∙◌, ◌⊎◌, ⊎_elim, inl, inr, sym, ℕ, List, length, get_or}
use Rattle.std.specs.List.{All, Contains}
use Rattle.std.proofs.lemmas.List.{get_or_default}
use Rattle.files_in_place.specs.System.{SystemAnswers, IsNoEntry, OneIsNoEntry, IsRefused, HasNoBytes, HasSynced, IsOpenAmong}
use Rattle.files_in_place.proofs.Each.{from_all}

module _ {F N : Type 0} (said : SystemAnswers F N) where
  -- with more files beside it
  pub open_kept : (old new : List F) (path : List ℕ) → ((file : F) → Contains old file → Contains new file) → IsOpenAmong said old path → IsOpenAmong said new path
  open_kept old new path kept is_open = ⊎_elim (λ is. inl (is.0, is.1, kept is.0 is.2)) (λ none. inr none) is_open

  -- after all of them are synced
  pub open_synced : (files : List F) (path : List ℕ) → All said.syncs files → IsOpenAmong said files path → HasSynced said path ⊎ HasNoBytes said path
  open_synced files path all is_open = ⊎_elim (λ is. inl (is.0, is.1, from_all said.syncs files is.0 all is.2)) (λ none. inr none) is_open

  -- no file has the name that is at this place of the list
  pub no_entry_at : (names : List (List ℕ)) (i : ℕ) (name : List ℕ) → i < length names → name ≡ get_or names i name → IsNoEntry name ⊎ IsRefused said → OneIsNoEntry names ⊎ IsRefused said
  no_entry_at names i name lt is why = ⊎_elim (λ none. inl (name, (i, lt, sym (get_or_default names i name name lt) ∙ sym is), none)) (λ refused. inr refused) why
