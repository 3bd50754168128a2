-- What calls have answered that were made for each of some things.
use Rattle.std.proofs.Common.{◌≡◌, refl, sym, subst, arith, List, [], ◌∷◌, length, Bor, Result, Ok, Err, OnOk, IfErr}
use denote.Param.Members.{Shared}
use Rattle.std.specs.Result.{result_and}
use Rattle.std.specs.Fn.{FnReturnsAt}
use Rattle.std.specs.List.{AllByRecursion, Contains}
use Rattle.std.proofs.lemmas.List.Elements.{Contains-append_right}
use Rattle.std.proofs.lemmas.Fn.{says_at}

all_one : {X : Type 0} (P : X → Type 0) (rest : List X) (x : X) → length rest ≡ 0 → P x → AllByRecursion P (x ∷ rest)
all_one P [] x none here = (here, tt)
all_one P (y ∷ rest) x none here = absurd (omega arith)

module _ {F T E : Type 0} (g : Shared F (Bor T × Unit {0}) (Result (Unit {0}) E)) (f : F) where
  -- each of the things was answered `Ok`
  abbrev AllMade : List T → Type 0
  AllMade things = AllByRecursion (λ thing. FnReturnsAt g f thing (Ok tt)) things

  -- one of the things was answered the error
  abbrev HasRefused : List T → E → Type 0
  HasRefused things e = (thing : T) × Contains things thing × FnReturnsAt g f thing (Err e)

  -- of the first thing
  pub first_refused : (things others : List T) (first : Bor T) (answer : Result (Unit {0}) E) → things ≡ first.now ∷ others → g.post f (first, tt) answer → IfErr answer (HasRefused things)
  first_refused things others first (Ok v) is met = tt
  first_refused things others first (Err e) is met = (first.now, subst (λ (l : List T). Contains l first.now) (sym is) (0, omega arith, refl), says_at g met refl)

  -- of the only thing
  pub only_made : (things others : List T) (first : Bor T) (answer : Result (Unit {0}) E) → things ≡ first.now ∷ others → length others ≡ 0 → g.post f (first, tt) answer → OnOk answer (AllMade things)
  only_made things others first (Ok v) is none met = subst AllMade (sym is) (all_one (λ thing. FnReturnsAt g f thing (Ok tt)) others first.now none (says_at g met refl))
  only_made things others first (Err e) is none met = tt

  -- of the first thing and of the others
  pub all_made : (things others : List T) (first : Bor T) (one later : Result (Unit {0}) E) → things ≡ first.now ∷ others → g.post f (first, tt) one → OnOk later (AllMade others) → OnOk (result_and one later) (AllMade things)
  all_made things others first (Ok v) (Ok w) is met made = subst AllMade (sym is) (says_at g met refl, made)
  all_made things others first (Ok v) (Err e) is met made = tt
  all_made things others first (Err e) later is met made = tt

  pub one_refused : (things others : List T) (first : Bor T) (one later : Result (Unit {0}) E) → things ≡ first.now ∷ others → g.post f (first, tt) one → IfErr later (HasRefused others) → IfErr (result_and one later) (HasRefused things)
  one_refused things others first (Ok v) (Ok w) is met refused = tt
  one_refused things others first (Ok v) (Err e) is met refused = (refused.0, subst (λ (l : List T). Contains l refused.0) (sym is) (Contains-append_right (first.now ∷ []) others refused.0 refused.1), refused.2)
  one_refused things others first (Err e) later is met refused = first_refused things others first (Err e) is met
