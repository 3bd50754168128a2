-- Where texts end.
use Rattle.std.proofs.Common.{◌≡◌, ℕ, suc, ◌+◌, ◌-◌, ◌<◌, ◌≤◌, Bool, true, false, cond, eqb, Option, Some, None, List, [], ◌∷◌, length, take, drop, refl, sym, ap, ◌∙◌, arith, inl, inr}
use Rattle.std.specs.Prelude.{not, unwrap_or}
use Rattle.std.specs.List.{position_or_len, prefix_len, list_all}
use Rattle.std.proofs.lemmas.Bool.{cond-true, cond-false, eq-eqb, ne_eqb, false_from_ne_true, cases_Bool}
use Rattle.std.proofs.lemmas.List.{take-append-drop, drop-take, drop-drop, length-take-le, length-drop}
use Rattle.std.proofs.lemmas.List.Folds.{prefix_len-append}
use Rattle.std.proofs.lemmas.List.Sums.{prefix_len-le-length, position_or_len_is}
use Rattle.memchr.specs.Find.{IsFirstByte}
use Rattle.dbf_image.specs.Spans.{end_at}
use Rattle.dbf_image.specs.declared.format.TheConstants.{MEMO_END}

abbrev ends_text : ℕ → Bool
ends_text b = eqb b MEMO_END

-- the first end by a search
pub end_is : (xs : List ℕ) (r : Option ℕ) → IsFirstByte ends_text xs r → position_or_len ends_text xs ≡ unwrap_or r (length xs)
end_is xs None h = position_or_len_is ends_text xs (length xs) 0 (omega arith) (λ k lt. false_from_ne_true _ (h k (omega arith) lt)) (λ lt. absurd (omega (arith, lt)))
end_is xs (Some k) h = position_or_len_is ends_text xs k 0 (omega (arith, h.0.high)) (λ i lt. false_from_ne_true _ (h.0.before i (omega arith) lt)) (λ lt. h.1)

pub end_inside : (xs : List ℕ) → position_or_len ends_text xs ≤ length xs
end_inside xs = prefix_len-le-length (λ b. not (ends_text b)) xs

-- the first end in a front part, or else after it
end_split : (k : ℕ) (xs : List ℕ)
    → position_or_len ends_text xs ≡ cond (eqb (position_or_len ends_text (take k xs)) (length (take k xs))) (length (take k xs) + position_or_len ends_text (drop k xs)) (position_or_len ends_text (take k xs))
end_split k xs = ap (position_or_len ends_text) (sym (take-append-drop k xs)) ∙ prefix_len-append (λ b. not (ends_text b)) (take k xs) (drop k xs)

part_is : (dbt : List ℕ) (from to : ℕ) → from ≤ to → drop from (take to dbt) ≡ take (to - from) (drop from dbt)
part_is dbt from to order =
    let e : to ≡ from + (to - from) = omega arith in
    ap (λ (n : ℕ). drop from (take n dbt)) e ∙ drop-take from (to - from) dbt

pub end_found : (dbt : List ℕ) (from to : ℕ) → from ≤ to → position_or_len ends_text (drop from (take to dbt)) < length (drop from (take to dbt))
    → from + position_or_len ends_text (drop from (take to dbt)) ≡ end_at dbt from
end_found dbt from to order lt =
    let xs : List ℕ = drop from dbt in
    let part = part_is dbt from to order in
    let lt' : position_or_len ends_text (take (to - from) xs) < length (take (to - from) xs) = rw part at lt in
    let other : eqb (position_or_len ends_text (take (to - from) xs)) (length (take (to - from) xs)) ≡ false = ne_eqb _ _ (λ e. absurd (omega (arith, e, lt'))) in
    rw part (ap (λ (n : ℕ). from + n) (sym (end_split (to - from) xs ∙ cond-false _ _ _ other)))

pub end_after : (dbt : List ℕ) (from to end : ℕ) → from ≤ to → to ≤ length dbt → end ≡ end_at dbt to
    → position_or_len ends_text (drop from (take to dbt)) ≡ length (drop from (take to dbt)) → end ≡ end_at dbt from
end_after dbt from to end order inside known all =
    let xs : List ℕ = drop from dbt in
    let k : ℕ = to - from in
    let part = part_is dbt from to order in
    let all' : position_or_len ends_text (take k xs) ≡ length (take k xs) = rw part at all in
    let long : length (take k xs) ≡ k = length-take-le k xs (omega (arith, length-drop from dbt)) in
    let e : from + k ≡ to = omega arith in
    let rest : drop k xs ≡ drop to dbt = drop-drop k from dbt ∙ ap (λ (n : ℕ). drop n dbt) e in
    let here : position_or_len ends_text xs ≡ k + position_or_len ends_text (drop to dbt) =
    end_split k xs ∙ cond-true _ _ _ (eq-eqb _ _ all') ∙ ap (λ (n : ℕ). n + position_or_len ends_text (drop k xs)) long ∙ ap (λ (ys : List ℕ). k + position_or_len ends_text ys) rest in
    omega (arith, known, here)

pub prefix_all : (q : ℕ → Bool) (xs : List ℕ) → list_all q (take (prefix_len q xs) xs) ≡ true
prefix_all q [] = refl
prefix_all q (x ∷ xs) =
    let s : 1 + prefix_len q xs ≡ suc (prefix_len q xs) = omega arith in
    elim (cases_Bool (q x)) [ inl e ↦ rw e (rw (s, e) (prefix_all q xs)) | inr e ↦ rw e refl ]
