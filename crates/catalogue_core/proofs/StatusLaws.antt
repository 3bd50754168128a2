-- The numbers of a status row, table by table.
use Rattle.std.proofs.Common.{◌≡◌, ℕ, suc, ◌+◌, ◌*◌, ◌-◌, ◌<◌, List, [], ◌∷◌, ◌++◌, length, map, take, replicate, set, get_or, refl, ap, sym, subst, ◌∙◌, arith, length-append}
use Rattle.std.proofs.Math.Seq.{set-append_seam}
use Rattle.std.proofs.lemmas.List.{append_assoc, length-map, length-take-le, map-append, take_more}
use Rattle.ndx_index.specs.Laws.Counting.{length-counted, counted-push}
use Rattle.ndx_index.specs.Places.{counted}
use Rattle.catalogue_core.specs.declared.status.TableStatus.{TableStatus}
use Rattle.catalogue_core.specs.Status.{words_of}

words_of-append : (xs ys : List TableStatus) → words_of (xs ++ ys) ≡ words_of xs ++ words_of ys
words_of-append [] ys = refl
words_of-append (x ∷ xs) ys = ap (λ (l : List ℕ). x.holder ∷ x.record_locks ∷ l) (words_of-append xs ys)

length-words_of : (xs : List TableStatus) → length (words_of xs) ≡ 2 * length xs
length-words_of [] = refl
length-words_of (x ∷ xs) = let h = length-words_of xs in omega arith

-- two zeros after the front become two numbers
put_two : (front : List ℕ) (rest i : ℕ) (a b : ℕ) → length front ≡ i
    → set (set (front ++ replicate (suc (suc rest)) 0) i a) (i + 1) b ≡ (front ++ (a ∷ b ∷ [])) ++ replicate rest 0
put_two front rest i a b e =
    let first : set (front ++ replicate (suc (suc rest)) 0) i a ≡ front ++ a ∷ replicate (suc rest) 0 =
    subst (λ n. set (front ++ replicate (suc (suc rest)) 0) n a ≡ front ++ a ∷ replicate (suc rest) 0) e (set-append_seam front 0 (replicate (suc rest) 0) a) in
    let joined : front ++ a ∷ replicate (suc rest) 0 ≡ (front ++ a ∷ []) ++ replicate (suc rest) 0 = sym (append_assoc front (a ∷ []) (replicate (suc rest) 0)) in
    let long : length (front ++ a ∷ []) ≡ i + 1 = omega (arith, e, length-append front (a ∷ [])) in
    let second : set ((front ++ a ∷ []) ++ replicate (suc rest) 0) (i + 1) b ≡ (front ++ a ∷ []) ++ b ∷ replicate rest 0 =
    subst (λ n. set ((front ++ a ∷ []) ++ replicate (suc rest) 0) n b ≡ (front ++ a ∷ []) ++ b ∷ replicate rest 0) long (set-append_seam (front ++ a ∷ []) 0 (replicate rest 0) b) in
    ap (λ (l : List ℕ). set l (i + 1) b) (first ∙ joined) ∙ second ∙ append_assoc front (a ∷ []) (b ∷ replicate rest 0) ∙ sym (append_assoc front (a ∷ b ∷ []) (replicate rest 0))

-- one table more
pub row_more : (x y z : ℕ) (ts : List TableStatus) (i : ℕ) (d : TableStatus) (row : List ℕ) → length ts ≡ 10 → i < 10
    → row ≡ (x ∷ y ∷ z ∷ words_of (take i ts)) ++ replicate (20 - 2 * i) 0
    → set (set row (3 + 2 * i) (get_or ts i d).holder) (4 + 2 * i) (get_or ts i d).record_locks ≡ (x ∷ y ∷ z ∷ words_of (take (i + 1) ts)) ++ replicate (20 - 2 * (i + 1)) 0
row_more x y z ts i d row ten low is =
    let t = get_or ts i d in
    let front = x ∷ y ∷ z ∷ words_of (take i ts) in
    let rest = 20 - 2 * (i + 1) in
    let many : length (take i ts) ≡ i = length-take-le i ts (omega arith) in
    let long : length front ≡ 3 + 2 * i = omega (arith, length-words_of (take i ts), many) in
    let zeros : 20 - 2 * i ≡ suc (suc rest) = omega arith in
    let next : 3 + 2 * i + 1 ≡ 4 + 2 * i = omega arith in
    let more : words_of (take (i + 1) ts) ≡ words_of (take i ts) ++ (t.holder ∷ t.record_locks ∷ []) = ap words_of (take_more ts i d (omega arith)) ∙ words_of-append (take i ts) (t ∷ []) in
    ap (λ (l : List ℕ). set (set l (3 + 2 * i) t.holder) (4 + 2 * i) t.record_locks) (is ∙ ap (λ n. front ++ replicate n 0) zeros)
    ∙ subst (λ n. set (set (front ++ replicate (suc (suc rest)) 0) (3 + 2 * i) t.holder) n t.record_locks ≡ (front ++ (t.holder ∷ t.record_locks ∷ [])) ++ replicate rest 0) next (put_two front rest (3 + 2 * i) t.holder t.record_locks long)
    ∙ ap (λ (l : List ℕ). (x ∷ y ∷ z ∷ l) ++ replicate rest 0) (sym more)

-- the status of one table more
pub statuses_more : (f : ℕ → TableStatus) (i : ℕ) (none : TableStatus) (statuses : List TableStatus) → i < 10
    → statuses ≡ map f (counted 1 i) ++ replicate (10 - i) none → set statuses i (f (i + 1)) ≡ map f (counted 1 (i + 1)) ++ replicate (10 - (i + 1)) none
statuses_more f i none statuses low is =
    let front = map f (counted 1 i) in
    let rest = 10 - (i + 1) in
    let long : length front ≡ i = length-map (counted 1 i) f ∙ length-counted i 1 in
    let zeros : 10 - i ≡ suc rest = omega arith in
    let next : 1 + i ≡ i + 1 = omega arith in
    let same : i + 1 ≡ suc i = omega arith in
    let more : map f (counted 1 (i + 1)) ≡ front ++ f (i + 1) ∷ [] = ap (λ n. map f (counted 1 n)) same ∙ ap (map f) (counted-push i 1) ∙ map-append f (counted 1 i) ((1 + i) ∷ []) ∙ ap (λ n. front ++ f n ∷ []) next in
    ap (λ (l : List TableStatus). set l i (f (i + 1))) (is ∙ ap (λ n. front ++ replicate n none) zeros)
    ∙ subst (λ n. set (front ++ replicate (suc rest) none) n (f (i + 1)) ≡ front ++ f (i + 1) ∷ replicate rest none) long (set-append_seam front none (replicate rest none) (f (i + 1)))
    ∙ sym (append_assoc front (f (i + 1) ∷ []) (replicate rest none))
    ∙ ap (λ (l : List TableStatus). l ++ replicate rest none) (sym more)
