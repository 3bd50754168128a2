-- What the sink of a writer has in the end.
use Rattle.std.specs.Prelude.{◌≡◌, ℕ, ◌+◌, List, Option, Some, None, Bool, true, false, ◌++◌}
use Rattle.std.specs.Coded.{Coded-set, coded_list, coded_option, coded_ℕ, ×_prop, Unit-prop}
use Rattle.std.proofs.Common.{sym, ◌∙◌}
use Rattle.std.proofs.lemmas.List.{append_cancel_left}
use mathlib.Core.HLevel.{Σ_prop_path}
use Rattle.byte_io.specs.Sink.{grown, IsFront, Rises}

-- what the sink had at first, what was put into the writer since, and how often the sink had failed before
pub record Wanted : Type 0 where
  pub begun : Option (List ℕ)
  pub put : List ℕ
  pub failures : Option ℕ

-- what was wanted, and these bytes put into the writer too
abbrev pub more : Wanted → List ℕ → Wanted
more w bytes = record { begun = w.begun; put = w.put ++ bytes; failures = w.failures }

-- all that the sink has in the end
abbrev pub due : Wanted → Option (List ℕ)
due w = grown w.begun w.put

-- Where a writer stands. Its sink has still what it had at first. What the sink has and what waits is all that was put into the
-- writer; or the sink has failed, and has a front part of it.
abbrev pub Stands : Bool → Option (List ℕ) → Option ℕ → List ℕ → Wanted → Type 0
Stands false written failures waiting w = IsFront w.begun written × ((grown written waiting ≡ due w) × (failures ≡ w.failures))
Stands true written failures waiting w = IsFront w.begun written × (IsFront written (due w) × Rises w.failures failures)

IsFront-prop : (w p : Option (List ℕ)) → IsProp (IsFront w p)
unfolding IsFront
IsFront-prop None None = Unit-prop
IsFront-prop None (Some ys) = λ a b. absurd a
IsFront-prop (Some xs) None = λ a b. absurd a
IsFront-prop (Some xs) (Some ys) = λ a b. Σ_prop_path (λ (rest : List ℕ). Coded-set (coded_list coded_ℕ) ys (xs ++ rest)) (append_cancel_left xs a.0 b.0 (sym a.1 ∙ b.1))

Rises-prop : (n m : Option ℕ) → IsProp (Rises n m)
Rises-prop None None = Unit-prop
Rises-prop None (Some m) = λ a b. absurd a
Rises-prop (Some n) None = λ a b. absurd a
Rises-prop (Some n) (Some m) = Coded-set coded_ℕ m (n + 1)

pub Stands-prop : (failed : Bool) (written : Option (List ℕ)) (failures : Option ℕ) (waiting : List ℕ) (w : Wanted) → IsProp (Stands failed written failures waiting w)
Stands-prop false written failures waiting w = ×_prop (IsFront-prop w.begun written) (×_prop (Coded-set (coded_option (coded_list coded_ℕ)) (grown written waiting) (due w)) (Coded-set (coded_option coded_ℕ) failures w.failures))
Stands-prop true written failures waiting w = ×_prop (IsFront-prop w.begun written) (×_prop (IsFront-prop written (due w)) (Rises-prop w.failures failures))
