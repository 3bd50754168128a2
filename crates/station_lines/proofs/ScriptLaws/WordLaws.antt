-- How a line is cut into words.
use Rattle.std.proofs.Common.{◌≡◌, ℕ, suc, List, [], ◌∷◌, ◌++◌, Bool, true, false, not, cond, ◌==◌, ◌&&◌, ◌+◌, length, take, drop, refl, ap, ◌∙◌, sym, arith, append_assoc}
use Rattle.std.specs.List.{list_all}
use Rattle.std.specs.Prelude.{◌⊎◌}
use mathlib.Core.Logic.{inl, inr}
use Rattle.std.proofs.lemmas.Bool.{false≢true, eqb-true, and_parts}
use Rattle.std.proofs.lemmas.Bool.Decides.{nat_tests}
use Rattle.std.proofs.lemmas.List.{append-nil, length-append, take-append-drop}
use Rattle.station_lines.specs.Script.Words.{is_gap, are_gaps, begins_word, ends_word}
use Rattle.station_lines.specs.Script.Parts.{is_quote, IsText}
use Rattle.station_lines.specs.Script.Reading.{without_gaps, quote_after, word_length, first_word, after_word, is_empty}

-- neither a blank, a tab nor a quote
abbrev pub is_solid : ℕ → Bool
is_solid b = not (is_gap b) && not (is_quote b)

-- the word is cut off whole, whatever is after it
abbrev pub Whole : List ℕ → Type 0
Whole word = (ys : List ℕ) → word_length 0 (word ++ ys) ≡ length word + word_length 0 ys

pub record IsCutWord (word : List ℕ) : Type 0 where
  pub whole : Whole word
  pub start : begins_word word ≡ true

pub not_true : (b : Bool) → not b ≡ true → b ≡ false
not_true true e = absurd (false≢true e)
not_true false e = refl

pub solid_whole : (word : List ℕ) → list_all is_solid word ≡ true → Whole word
solid_whole [] h ys = omega arith
solid_whole (b ∷ bs) h ys =
    let p = and_parts (is_solid b) (list_all is_solid bs) h in
    let q = and_parts (not (is_gap b)) (not (is_quote b)) p.0 in
    let gap : is_gap b ≡ false = not_true (is_gap b) q.0 in
    let quote : is_quote b ≡ false = not_true (is_quote b) q.1 in
    let more = solid_whole bs p.1 ys in
    rw (gap, quote) (omega (arith, more))

pub solid_starts : (b : ℕ) (bs : List ℕ) → list_all is_solid (b ∷ bs) ≡ true → begins_word (b ∷ bs) ≡ true
solid_starts b bs h =
    let p = and_parts (is_solid b) (list_all is_solid bs) h in
    (and_parts (not (is_gap b)) (not (is_quote b)) p.0).0

pub solid_word : (b : ℕ) (bs : List ℕ) → list_all is_solid (b ∷ bs) ≡ true → IsCutWord (b ∷ bs)
solid_word b bs h = record { whole = solid_whole (b ∷ bs) h; start = solid_starts b bs h }

pub whole_append : (a b : List ℕ) → Whole a → Whole b → Whole (a ++ b)
whole_append a b wa wb ys =
    let one = wa (b ++ ys) in
    let two = wb ys in
    let both : length (a ++ b) ≡ length a + length b = length-append a b in
    ap (word_length 0) (append_assoc a b ys) ∙ omega (arith, one, two, both)

quote_is : (q : ℕ) → is_quote q ≡ true → (is_gap q ≡ false) × ((q == 0) ≡ false)
quote_is q h = (grind (arith, nat_tests, h), grind (arith, nat_tests, h))

pub same_byte : (q : ℕ) → (q == q) ≡ true
same_byte q = grind (arith, nat_tests)

quoted : (q : ℕ) (text ys : List ℕ) → (q == 0) ≡ false → list_all (λ b. not (b == q)) text ≡ true
    → word_length q (text ++ (q ∷ ys)) ≡ length text + suc (word_length 0 ys)
quoted q [] ys none h = rw (none, same_byte q) (omega arith)
quoted q (b ∷ text) ys none h =
    let p = and_parts (not (b == q)) (list_all (λ b. not (b == q)) text) h in
    let other : (b == q) ≡ false = not_true (b == q) p.0 in
    let more = quoted q text ys none p.1 in
    rw (none, other) (omega (arith, more))

pub text_whole : (word text : List ℕ) → IsText word text → IsCutWord word
text_whole word text t =
    let q = t.0 in
    let is = quote_is q t.1 in
    let all : (ys : List ℕ) → word_length 0 ((q ∷ (text ++ (q ∷ []))) ++ ys) ≡ length (q ∷ (text ++ (q ∷ []))) + word_length 0 ys
    = λ ys. rw (is.0, t.1, append_assoc text (q ∷ []) ys, quoted q text ys is.1 t.3, length-append text (q ∷ [])) (omega arith) in
    rw t.2 (record { whole = all; start = rw is.0 refl })

-- ---- the words of a line are cut off one after another

pub past_gaps : (gap xs : List ℕ) → are_gaps gap ≡ true → without_gaps (gap ++ xs) ≡ without_gaps xs
past_gaps [] xs h = refl
past_gaps (b ∷ gap) xs h = let p = and_parts (is_gap b) (are_gaps gap) h in rw p.0 (past_gaps gap xs p.1)

pub no_gaps : (word ys : List ℕ) → begins_word word ≡ true → without_gaps (word ++ ys) ≡ word ++ ys
no_gaps [] ys h = absurd (false≢true h)
no_gaps (b ∷ bs) ys h = rw (not_true (is_gap b) h) refl

ended : (rest : List ℕ) → ends_word rest ≡ true → word_length 0 rest ≡ 0
ended [] h = refl
ended (b ∷ bs) h = rw h refl

pub take_front : (xs ys : List ℕ) → take (length xs) (xs ++ ys) ≡ xs
take_front [] ys = refl
take_front (x ∷ xs) ys = ap (λ (zs : List ℕ). x ∷ zs) (take_front xs ys)

pub drop_front : (xs ys : List ℕ) → drop (length xs) (xs ++ ys) ≡ ys
drop_front [] ys = refl
drop_front (x ∷ xs) ys = drop_front xs ys

-- the first word of a line that has words, and what stands after it
pub record IsCutAt (line word rest : List ℕ) : Type 0 where
  pub first : first_word line ≡ word
  pub after : after_word line ≡ rest

pub cut_off : (line gap word rest : List ℕ) → line ≡ gap ++ (word ++ rest) → are_gaps gap ≡ true → ends_word rest ≡ true → IsCutWord word → IsCutAt line word rest
cut_off line gap word rest is gaps ends w =
    let left : without_gaps line ≡ word ++ rest = ap without_gaps is ∙ past_gaps gap (word ++ rest) gaps ∙ no_gaps word rest w.start in
    let zero_more = ended rest ends in
    let long : word_length 0 (word ++ rest) ≡ length word = let n = w.whole rest in omega (arith, n, zero_more) in
    record {
      first = rw (left, long) (take_front word rest);
      after = rw (left, long) (drop_front word rest);
    }

pub no_word : (line : List ℕ) → are_gaps line ≡ true → without_gaps line ≡ []
no_word [] h = refl
no_word (b ∷ bs) h = let p = and_parts (is_gap b) (are_gaps bs) h in rw p.0 (no_word bs p.1)

pub no_first : (line : List ℕ) → are_gaps line ≡ true → first_word line ≡ []
no_first line h = rw (no_word line h) refl

-- ---- what is cut off stands in the line

pub record IsCut (line : List ℕ) : Type 0 where
  pub gap : List ℕ
  pub whole : line ≡ gap ++ (first_word line ++ after_word line)
  pub gaps : are_gaps gap ≡ true
  pub ends : ends_word (after_word line) ≡ true

pub record IsGapSplitOf (line left : List ℕ) : Type 0 where
  pub gap : List ℕ
  pub whole : line ≡ gap ++ left
  pub gaps : are_gaps gap ≡ true

abbrev pub IsGapSplit : List ℕ → Type 0
IsGapSplit line = IsGapSplitOf line (without_gaps line)

gap_or : (b : ℕ) (bs : List ℕ) (q : Bool) → is_gap b ≡ q → IsGapSplit bs → IsGapSplitOf (b ∷ bs) (cond q (without_gaps bs) (b ∷ bs))
gap_or b bs true e s = record { gap = b ∷ s.gap; whole = ap (λ (xs : List ℕ). b ∷ xs) s.whole; gaps = rw e s.gaps }
gap_or b bs false e s = record { gap = []; whole = refl; gaps = refl }

pub gap_split : (line : List ℕ) → IsGapSplit line
gap_split [] = record { gap = []; whole = refl; gaps = refl }
gap_split (b ∷ bs) = gap_or b bs (is_gap b) refl (gap_split bs)

ends_or : (quote b : ℕ) (bs : List ℕ) (q : Bool) → (quote == 0 && is_gap b) ≡ q
    → ends_word (drop (word_length (quote_after quote b) bs) bs) ≡ true
    → ends_word (drop (cond q 0 (suc (word_length (quote_after quote b) bs))) (b ∷ bs)) ≡ true
ends_or quote b bs true e h = (and_parts (quote == 0) (is_gap b) e).1
ends_or quote b bs false e h = h

word_ends : (quote : ℕ) (text : List ℕ) → ends_word (drop (word_length quote text) text) ≡ true
word_ends quote [] = refl
word_ends quote (b ∷ bs) = ends_or quote b bs (quote == 0 && is_gap b) refl (word_ends (quote_after quote b) bs)

pub is_cut : (line : List ℕ) → IsCut line
is_cut line =
    let s = gap_split line in
    record {
      gap = s.gap;
      whole = s.whole ∙ ap (λ (xs : List ℕ). s.gap ++ xs) (sym (take-append-drop (word_length 0 (without_gaps line)) (without_gaps line)));
      gaps = s.gaps;
      ends = word_ends 0 (without_gaps line);
    }

-- what is left begins with no blank
left_or : (b : ℕ) (bs : List ℕ) (q : Bool) → is_gap b ≡ q → (without_gaps bs ≡ []) ⊎ (begins_word (without_gaps bs) ≡ true)
    → (cond q (without_gaps bs) (b ∷ bs) ≡ []) ⊎ (begins_word (cond q (without_gaps bs) (b ∷ bs)) ≡ true)
left_or b bs true e others = others
left_or b bs false e others = inr (rw e refl)

pub left_starts : (line : List ℕ) → (without_gaps line ≡ []) ⊎ (begins_word (without_gaps line) ≡ true)
left_starts [] = inl refl
left_starts (b ∷ bs) = left_or b bs (is_gap b) refl (left_starts bs)

no_more : (xs : List ℕ) → begins_word xs ≡ true → length (take (word_length 0 xs) xs) ≡ 0 → ⊥
no_more [] h e = false≢true h
no_more (b ∷ bs) h e = let out : is_gap b ≡ false = not_true (is_gap b) h in let f = rw out at e in absurd (omega (arith, f))

left_empty : (line : List ℕ) → (without_gaps line ≡ []) ⊎ (begins_word (without_gaps line) ≡ true) → length (first_word line) ≡ 0 → without_gaps line ≡ []
left_empty line (inl e) n = e
left_empty line (inr h) n = absurd (no_more (without_gaps line) h n)

pub no_words : (line : List ℕ) → is_empty (first_word line) ≡ true → are_gaps line ≡ true
no_words line e =
    let s = gap_split line in
    let none : without_gaps line ≡ [] = left_empty line (left_starts line) (eqb-true (length (first_word line)) 0 e) in
    let all : line ≡ s.gap = s.whole ∙ ap (λ (xs : List ℕ). s.gap ++ xs) none ∙ append-nil s.gap in
    rw all s.gaps
