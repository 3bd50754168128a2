-- Bytes that are written one after the other.
use Rattle.std.proofs.Common.{◌≡◌, ℕ, List, [], ◌++◌, Option, Some, None, Result, Ok, Err, Bool, false, refl, sym, ap, ◌∙◌, append_assoc}
use Rattle.std.proofs.lemmas.Grind.{common_steps}
use Rattle.std.proofs.lemmas.List.{append-nil}
use Rattle.std.specs.Prelude.{OnErr, is_ok}
use Rattle.byte_io.specs.Sink.{grown, IsFront}

pub grown_then : (o : Option (List ℕ)) (xs ys : List ℕ) → grown (grown o xs) ys ≡ grown o (xs ++ ys)
unfolding grown
grown_then None xs ys = refl
grown_then (Some zs) xs ys = ap (λ (w : List ℕ). Some w) (append_assoc zs xs ys)

pub grown_nil : (o : Option (List ℕ)) → grown o [] ≡ o
unfolding grown
grown_nil None = refl
grown_nil (Some zs) = ap (λ (w : List ℕ). Some w) (append-nil zs)

-- what is written is a front part of itself,
pub front_same : (o : Option (List ℕ)) → IsFront o o
unfolding IsFront
front_same None = tt
front_same (Some xs) = ([], sym (append-nil xs))

-- of itself and more,
pub front_grown : (o : Option (List ℕ)) (xs : List ℕ) → IsFront o (grown o xs)
unfolding grown IsFront
front_grown None xs = tt
front_grown (Some zs) xs = (xs, refl)

-- and of what that is a front part of
pub front_then : (o p q : Option (List ℕ)) → IsFront o p → IsFront p q → IsFront o q
unfolding IsFront
front_then None None q h k = k
front_then None (Some ys) q h k = absurd h
front_then (Some xs) None q h k = absurd h
front_then (Some xs) (Some ys) None h k = absurd k
front_then (Some xs) (Some ys) (Some zs) h k = (h.0 ++ k.0, k.1 ∙ (ap (λ (w : List ℕ). w ++ k.0) h.1 ∙ append_assoc xs h.0 k.0))

pub front_more : (o p : Option (List ℕ)) (xs : List ℕ) → IsFront o p → IsFront o (grown p xs)
front_more o p xs h = front_then o p (grown p xs) h (front_grown p xs)

-- what was written before more was
pub front_by : (o p : Option (List ℕ)) (xs : List ℕ) → p ≡ grown o xs → IsFront o p
front_by o p xs more = rw more (front_grown o xs)

-- what is written is a front part of the whole
pub front_from : (o p w : Option (List ℕ)) (rest : List ℕ) → w ≡ o → grown o rest ≡ p → IsFront w p
front_from o p w rest same given = rw (same, ← given) (front_grown o rest)

-- what a call that did not succeed says
pub on_failure : {T E P : Type 0} (r : Result T E) (b : Bool) → b ≡ is_ok r → b ≡ false → OnErr r P → P
on_failure (Ok x) b is no_success p = absurd cc
on_failure (Err e) b is no_success p = p

-- a fact about what a failed call leaves
pub on_err : {T E P : Type 0} (r : Result T E) → P → OnErr r P
on_err (Ok x) p = tt
on_err (Err e) p = p

-- the steps of a writer's loop
pub ruleset sinks = (grown_then, grown_nil, front_same, front_then, common_steps)
