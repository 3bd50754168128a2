-- Recovery that ends after any number of starts.
use Rattle.std.proofs.Common.{◌⊎◌, inl, inr, List, [], ◌∷◌, ◌∙◌}
use Rattle.files_in_place.specs.Folder.{Name, Folder, without_reserved}
use Rattle.files_in_place.specs.Disk.{DiskMeaning}
use Rattle.files_in_place.specs.Recovery.{RecoversTo}
use Rattle.files_in_place.specs.Staged.{IsOldOrNew, with_staged}
use Rattle.files_in_place.specs.History.{AreAlike, EndsAfter}

-- what recovery makes of the folder are the old files or the new ones
abbrev EitherWay : List Name → Folder → Folder → Type 0
EitherWay names old folder = RecoversTo (without_reserved old) folder ⊎ RecoversTo (with_staged names old) folder

module _ {D : Type 0} (m : DiskMeaning D) (promised : m.keeps_promises) (names : List Name) (old : Folder) where
  either_ends : (others : List D) (first : D) (last : Folder) → ((c : Folder) → m.may_leave first c → EitherWay names old c) → EndsAfter m others first last
      → AreAlike last (without_reserved old) ⊎ AreAlike last (with_staged names old)
  either_ends [] first last either ends = elim (either (m.seen first) (m.seen_may_stay first promised)) [
    | inl before ↦ inl (λ n. ends n ∙ before n)
    | inr after ↦ inr (λ n. ends n ∙ after n)
  ]
  either_ends (next ∷ others) first last either ends = either_ends others next last (λ c may.
      let from = ends.0 c may in
      elim (either from.0 from.1) [
        | inl before ↦ inl (λ n. from.2.recovers n ∙ before n)
        | inr after ↦ inr (λ n. from.2.recovers n ∙ after n)
      ]) ends.1

  pub old_or_new_ends : (others : List D) (first : D) (last : Folder) → ((c : Folder) → m.may_leave first c → IsOldOrNew names old c) → EndsAfter m others first last
      → AreAlike last (without_reserved old) ⊎ AreAlike last (with_staged names old)
  old_or_new_ends others first last either ends = either_ends others first last (λ c may. elim (either c may) [
    | inl has ↦ inl has.recovers
    | inr new ↦ inr new
  ]) ends
