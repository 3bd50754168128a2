-- Beginnings of one list, and lists of rows.
use Rattle.std.proofs.Common.{◌≡◌, ℕ, ◌+◌, ◌<◌, ◌≤◌, Bool, List, [], ◌∷◌, ◌++◌, length, refl, ap, sym, ◌∙◌, arith, append_assoc, length-append, zero-le}
use Rattle.std.specs.Prelude.{◌==◌, cond, count_by}
use Rattle.std.proofs.lemmas.Bool.{eq-eqb}
use Rattle.std.proofs.lemmas.List.Sums.{sum_by-append, sum_by-cons}
use mathlib.Core.List.{IsPrefix}
use Rattle.catalogue_core.specs.declared.status.StatusRow.{StatusRow}
use Rattle.shared_catalogue.specs.StatusRows.{opening_row, last_after, last_row, NumberedFrom, IsNumbered, calls_of}

-- each list begins with itself
pub prefix_self : {A : Type 0} (xs : List A) → IsPrefix xs xs
prefix_self [] = ([], refl)
prefix_self (x ∷ xs) = (let r = prefix_self xs in r.0, ap (λ ys. x ∷ ys) (prefix_self xs).1)

pub prefix_none : {A : Type 0} (xs : List A) → IsPrefix [] xs
prefix_none xs = (xs, refl)

pub prefix_trans : {A : Type 0} (xs ys zs : List A) → IsPrefix xs ys → IsPrefix ys zs → IsPrefix xs zs
prefix_trans xs ys zs p q = (p.0 ++ q.0, sym (append_assoc xs p.0 q.0) ∙ (ap (λ w. w ++ q.0) p.1 ∙ q.1))

pub prefix_more : {A : Type 0} (xs ys zs : List A) → IsPrefix xs ys → IsPrefix xs (ys ++ zs)
prefix_more xs ys zs p = prefix_trans xs ys (ys ++ zs) p (zs, refl)

-- a beginning as long as the whole is the whole
pub prefix_whole : {A : Type 0} (xs ys : List A) → IsPrefix xs ys → length ys ≤ length xs → xs ≡ ys
prefix_whole [] [] p le = refl
prefix_whole [] (y ∷ ys) p le = absurd (omega arith)
prefix_whole (x ∷ xs) [] p le = absurd (cc (p.1))
prefix_whole (x ∷ xs) (y ∷ ys) p le =
    let rest = prefix_whole xs ys (p.0, cc (p.1)) (omega arith) in cc (p.1, rest)

pub prefix_length : {A : Type 0} (xs ys : List A) → IsPrefix xs ys → length xs ≤ length ys
prefix_length xs ys p = omega (arith, sym (ap length p.1) ∙ length-append xs p.0)

last_after-push : (x : StatusRow) (xs : List StatusRow) (r : StatusRow) → last_after x (xs ++ r ∷ []) ≡ r
last_after-push x [] r = refl
last_after-push x (y ∷ ys) r = last_after-push y ys r

pub last_row-push : (xs : List StatusRow) (r : StatusRow) → last_row (xs ++ r ∷ []) ≡ r
last_row-push xs r = last_after-push opening_row xs r

numbered_from-push : (n : ℕ) (xs : List StatusRow) (r : StatusRow) → NumberedFrom n xs → r.journal_length ≡ n + length xs → NumberedFrom n (xs ++ r ∷ [])
numbered_from-push n [] r h e = (omega arith, tt)
numbered_from-push n (x ∷ xs) r h e = (h.0, numbered_from-push (n + 1) xs r h.1 (omega arith))

pub numbered-push : (xs : List StatusRow) (r : StatusRow) → IsNumbered xs → r.journal_length ≡ length xs → IsNumbered (xs ++ r ∷ [])
numbered-push xs r h e = numbered_from-push 0 xs r h (omega arith)

-- one more row is one more call where it names the station
pub calls-one : (xs : List StatusRow) (r : StatusRow) (station : ℕ) → 0 < length xs → calls_of (xs ++ r ∷ []) station ≡ calls_of xs station + cond (r.last_station == station) 1 0
calls-one [] r station some = absurd (omega arith)
calls-one (x ∷ xs) r station some =
    let calls : StatusRow → ℕ = λ (row : StatusRow). cond (row.last_station == station) 1 0 in
    omega (arith, sum_by-append calls xs (r ∷ []), sum_by-cons calls r [])

-- one more row of the station is one more call
pub calls-push : (xs : List StatusRow) (r : StatusRow) (station : ℕ) → 0 < length xs → r.last_station ≡ station → calls_of (xs ++ r ∷ []) station ≡ calls_of xs station + 1
calls-push xs r station some e =
    let one : ◌≡◌ {A = ℕ} (cond (r.last_station == station) 1 0) 1 = ap (λ (b : Bool). cond b 1 0) (eq-eqb (r.last_station) station e) in
    omega (arith, calls-one xs r station some, one)

-- a list that begins with another has at least its calls
pub calls-prefix : (xs ys : List StatusRow) (station : ℕ) → IsPrefix xs ys → calls_of xs station ≤ calls_of ys station
calls-prefix [] ys station p = zero-le
calls-prefix (x ∷ xs) [] station p = absurd (cc (p.1))
calls-prefix (x ∷ xs) (y ∷ ys) station p =
    let e : xs ++ p.0 ≡ ys = cc (p.1) in
    omega (arith, sum_by-append (λ (row : StatusRow). cond (row.last_station == station) 1 0) xs p.0, ap (count_by (λ (row : StatusRow). row.last_station == station)) e)
