-- Texts between quotes are found in words, and what is found is a text.
use Rattle.std.proofs.Common.{◌≡◌, ℕ, suc, zero, List, [], ◌∷◌, ◌++◌, Bool, true, false, not, cond, ◌==◌, ◌+◌, ◌<◌, ◌≤◌, length, take, drop, Option, Some, None, refl, ap, ◌∙◌, sym, subst, arith}
use Rattle.std.specs.Prelude.{nat_lt}
use Rattle.std.specs.List.{list_all, position_or_len, position}
use Rattle.std.proofs.lemmas.Bool.{false≢true, eqb-true, and_parts, and_from}
use Rattle.std.proofs.lemmas.Bool.Decides.{nat_tests}
use Rattle.std.proofs.lemmas.List.{length-append}
use Rattle.station_lines.specs.Script.Parts.{is_quote, IsText}
use Rattle.station_lines.specs.Script.Reading.{text_before, text_in}
use Rattle.station_lines.proofs.ScriptLaws.WordLaws.{take_front, same_byte}
use Rattle.station_lines.proofs.ScriptLaws.PartLaws.{tested}

other_byte : (q b n : ℕ) → not (b == q) ≡ true → cond (not (b == q)) (1 + n) 0 ≡ suc n
other_byte q b n h = rw h (omega arith)

quote_place : (q : ℕ) (text : List ℕ) → list_all (λ b. not (b == q)) text ≡ true → position_or_len (λ b. b == q) (text ++ (q ∷ [])) ≡ length text
quote_place q [] h = rw (same_byte q) refl
quote_place q (b ∷ text) h =
    let p = and_parts (not (b == q)) (list_all (λ b. not (b == q)) text) h in
    other_byte q b (position_or_len (λ b. b == q) (text ++ (q ∷ []))) p.0 ∙ ap suc (quote_place q text p.1)

pub chosen : {X : Type 0} (b : Bool) (x y : X) → b ≡ true → cond b x y ≡ x
chosen true x y e = refl
chosen false x y e = absurd (false≢true e)

pub passed : {X : Type 0} (b : Bool) (x y : X) → b ≡ false → cond b x y ≡ y
passed true x y e = absurd (false≢true (sym e))
passed false x y e = refl

quote_found : (q : ℕ) (text : List ℕ) → list_all (λ b. not (b == q)) text ≡ true → position (λ b. b == q) (text ++ (q ∷ [])) ≡ Some (length text)
quote_found q text h =
    let place = quote_place q text h in
    let long : length (text ++ (q ∷ [])) ≡ length text + 1 = length-append text (q ∷ []) in
    chosen (nat_lt (position_or_len (λ b. b == q) (text ++ (q ∷ []))) (length (text ++ (q ∷ [])))) _ None (grind (arith, nat_tests, place, long))
    ∙ ap Some place

before_last : (q : ℕ) (text : List ℕ) → text_before (Some (length text)) (text ++ (q ∷ [])) ≡ Some text
before_last q text =
    let long : length (text ++ (q ∷ [])) ≡ length text + 1 = length-append text (q ∷ []) in
    chosen (length text + 1 == length (text ++ (q ∷ []))) _ None (grind (arith, nat_tests, long))
    ∙ ap Some (take_front text (q ∷ []))

text_of : (q : ℕ) (text : List ℕ) → is_quote q ≡ true → list_all (λ b. not (b == q)) text ≡ true → text_in (q ∷ (text ++ (q ∷ []))) ≡ Some text
text_of q text is h =
    chosen (is_quote q) _ None is
    ∙ (ap (λ (o : Option ℕ). text_before o (text ++ (q ∷ []))) (quote_found q text h) ∙ before_last q text)

-- a text is found
pub text_found : (word text : List ℕ) → IsText word text → text_in word ≡ Some text
text_found word text t = ap text_in t.2 ∙ text_of t.0 text t.1 t.3

-- what stands before a byte, the byte and what stands after it
pub record CutAt (q : ℕ) (bs : List ℕ) (end : ℕ) : Type 0 where
  pub whole : bs ≡ take end bs ++ (q ∷ drop (suc end) bs)
  pub before : list_all (λ b. not (b == q)) (take end bs) ≡ true

later : (q b : ℕ) (bs : List ℕ) (end : ℕ) → (b == q) ≡ false → CutAt q bs end → CutAt q (b ∷ bs) (suc end)
later q b bs end e c = record {
  whole = ap (λ (xs : List ℕ). b ∷ xs) c.whole;
  before = and_from (not (b == q)) (list_all (λ b. not (b == q)) (take end bs)) (ap not e) c.before;
}

cut_at : (q : ℕ) (is : Bool) (b : ℕ) (bs : List ℕ) → (b == q) ≡ is
    → (position_or_len (λ b. b == q) bs < length bs → CutAt q bs (position_or_len (λ b. b == q) bs))
    → cond (not is) (1 + position_or_len (λ b. b == q) bs) 0 < suc (length bs) → CutAt q (b ∷ bs) (cond (not is) (1 + position_or_len (λ b. b == q) bs) 0)
cut_at q true b bs e others h = record { whole = ap (λ (c : ℕ). c ∷ bs) (eqb-true b q e); before = refl }
cut_at q false b bs e others h =
    let next : suc (position_or_len (λ b. b == q) bs) ≡ 1 + position_or_len (λ b. b == q) bs = omega arith in
    subst (λ (n : ℕ). CutAt q (b ∷ bs) n) next (later q b bs (position_or_len (λ b. b == q) bs) e (others (omega (arith, h))))

pub cut_first : (q : ℕ) (bs : List ℕ) → position_or_len (λ b. b == q) bs < length bs → CutAt q bs (position_or_len (λ b. b == q) bs)
cut_first q [] h = absurd (omega (arith, h))
cut_first q (b ∷ bs) h = cut_at q (b == q) b bs refl (cut_first q bs) h

none_left : (n : ℕ) (bs : List ℕ) → length bs ≤ n → drop n bs ≡ []
none_left zero [] h = refl
none_left zero (b ∷ bs) h = absurd (omega (arith, h))
none_left (suc n) [] h = refl
none_left (suc n) (b ∷ bs) h = none_left n bs (omega (arith, h))

quote_ends : (q : ℕ) (rest text : List ℕ) (o : Option ℕ) → position (λ b. b == q) rest ≡ o → text_before o rest ≡ Some text
    → (rest ≡ text ++ (q ∷ [])) × (list_all (λ b. not (b == q)) text ≡ true)
quote_ends q rest text None e h = absurd cc
quote_ends q rest text (Some end) e h =
    let at = tested (nat_lt (position_or_len (λ b. b == q) rest) (length rest)) (position_or_len (λ b. b == q) rest) end e in
    let c : CutAt q rest end = subst (λ (n : ℕ). CutAt q rest n) at.1 (cut_first q rest (grind (arith, nat_tests, at.0))) in
    let last = tested (end + 1 == length rest) (take end rest) text h in
    let long = eqb-true (end + 1) (length rest) last.0 in
    let none = none_left (suc end) rest (omega (arith, long)) in (
      c.whole ∙ (ap (λ (xs : List ℕ). take end rest ++ (q ∷ xs)) none ∙ ap (λ (xs : List ℕ). xs ++ (q ∷ [])) last.1),
      subst (λ (xs : List ℕ). list_all (λ b. not (b == q)) xs ≡ true) last.1 c.before,
    )

pub guarded : {X : Type 0} (b : Bool) (o : Option X) (x : X) → cond b o None ≡ Some x → (b ≡ true) × (o ≡ Some x)
guarded true o x e = (refl, e)
guarded false o x e = absurd cc

-- what is found is a text
pub text_is : (word text : List ℕ) → text_in word ≡ Some text → IsText word text
text_is [] text e = absurd cc
text_is (q ∷ rest) text e =
    let g = guarded (is_quote q) (text_before (position (λ b. b == q) rest) rest) text e in
    let r = quote_ends q rest text (position (λ b. b == q) rest) refl g.1 in
    (q, g.0, ap (λ (xs : List ℕ). q ∷ xs) r.0, r.1)
