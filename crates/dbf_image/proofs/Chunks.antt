-- Steps of the loops that read one chunk after the other.
use Rattle.std.proofs.Common.{◌≡◌, ℕ, suc, ◌+◌, ◌-◌, ◌*◌, ◌<◌, ◌≤◌, Bool, false, List, [], ◌∷◌, ◌++◌, map, take, drop, refl, sym, append_assoc, arith}
use Rattle.std.proofs.lemmas.Bool.{cond-false}
use Rattle.std.specs.Prelude.{flat_map}
use Rattle.dbf_image.specs.DbfText.{chunks}
use Rattle.dbf_image.specs.Reading.{first_passing}

pub first_passing-next : (test : ℕ → Bool) (i n : ℕ) → i < n → test i ≡ false → first_passing test (i + 1) (n - (i + 1)) ≡ first_passing test i (n - i)
first_passing-next test i n lt fails =
    let k : n - i ≡ suc (n - (i + 1)) = omega arith in
    rw k (sym (cond-false (test i) _ _ fails))

pub chunks-next : {X : Type 0} (f : List ℕ → X) (size n i : ℕ) (bytes : List ℕ) (front : List X) → i < n
    → (front ++ f (take size bytes) ∷ []) ++ map f (chunks size (n - (i + 1)) (drop size bytes)) ≡ front ++ map f (chunks size (n - i) bytes)
chunks-next f size n i bytes front lt =
    let k : n - i ≡ suc (n - (i + 1)) = omega arith in
    rw (k, append_assoc) refl

pub room-next : (size n i now later : ℕ) → i < n → (n - i) * size ≤ now → later + size ≡ now → (n - (i + 1)) * size ≤ later
room-next size n i now later lt room left =
    let k : n - i ≡ (n - (i + 1)) + 1 = omega arith in
    let wide : ((n - (i + 1)) + 1) * size ≤ now = rw k at room in
    omega (arith, wide)

pub chunks-more : {X : Type 0} (f : List ℕ → List X) (size n i : ℕ) (bytes : List ℕ) → i < n
    → flat_map f (chunks size (n - i) bytes) ≡ f (take size bytes) ++ flat_map f (chunks size (n - (i + 1)) (drop size bytes))
chunks-more f size n i bytes lt =
    let k : n - i ≡ suc (n - (i + 1)) = omega arith in
    rw k refl
