-- How words are cut off the end of a line.
use Rattle.std.proofs.Common.{◌≡◌, ℕ, List, [], ◌∷◌, ◌++◌, Bool, true, false, not, cond, ◌≤◌, ◌+◌, length, reverse, drop, refl, ap, ◌∙◌, sym, subst, arith, append_assoc}
use Rattle.std.specs.Prelude.{◌⊎◌}
use mathlib.Core.Logic.{inl, inr}
use Rattle.std.specs.List.{list_all}
use Rattle.std.proofs.lemmas.Bool.{false≢true, and_parts, and_from}
use Rattle.std.proofs.lemmas.List.{append-nil, length-append, length-reverse, reverse-append, reverse-reverse}
use Rattle.station_lines.specs.Script.Words.{is_gap, are_gaps, begins_word, ends_word, HasWords}
use Rattle.station_lines.specs.Script.Parts.{is_quote, is_phrase}
use Rattle.station_lines.specs.Script.Reading.{without_gaps, without_end_gaps, from_gap, before_last, last_word, index_line, after_on}
use Rattle.station_lines.proofs.ScriptLaws.WordLaws.{is_solid, not_true, solid_starts, past_gaps, drop_front, gap_split, left_starts}
use Rattle.station_lines.proofs.ScriptLaws.PartLaws.{all_both}

-- ---- texts from their end

all_reverse : (p : ℕ → Bool) (xs : List ℕ) → list_all p xs ≡ true → list_all p (reverse xs) ≡ true
all_reverse p [] h = refl
all_reverse p (x ∷ xs) h =
    let q = and_parts (p x) (list_all p xs) h in
    let last : list_all p (x ∷ []) ≡ true = and_from (p x) true q.0 refl in
    subst (λ (ys : List ℕ). list_all p ys ≡ true) (sym (reverse-append (x ∷ []) xs)) (all_both p (reverse xs) (x ∷ []) (all_reverse p xs q.1) last)

pub word_some : (xs : List ℕ) → begins_word xs ≡ true → 1 ≤ length xs
word_some [] h = absurd (false≢true h)
word_some (b ∷ bs) h = omega arith

solid_begins : (xs : List ℕ) → 1 ≤ length xs → list_all is_solid xs ≡ true → begins_word xs ≡ true
solid_begins [] some h = absurd (omega (arith, some))
solid_begins (b ∷ bs) some h = solid_starts b bs h

solid_ends : (word : List ℕ) → begins_word word ≡ true → list_all is_solid word ≡ true → begins_word (reverse word) ≡ true
solid_ends word begins solid =
    let some = word_some word begins in
    let long = length-reverse word in
    solid_begins (reverse word) (omega (arith, some, long)) (all_reverse is_solid word solid)

begins_both : (xs ys : List ℕ) → begins_word xs ≡ true → begins_word (xs ++ ys) ≡ true
begins_both [] ys h = absurd (false≢true h)
begins_both (b ∷ bs) ys h = h

begins_front : (xs ys : List ℕ) → 1 ≤ length xs → begins_word (xs ++ ys) ≡ true → begins_word xs ≡ true
begins_front [] ys some h = absurd (omega (arith, some))
begins_front (b ∷ bs) ys some h = h

-- a byte is a blank or a tab, or none
not_both : (xs : List ℕ) → begins_word xs ≡ true → ends_word xs ≡ true → ⊥
not_both [] begins ends = false≢true begins
not_both (b ∷ bs) begins ends = false≢true (sym (ap not ends) ∙ begins)

-- ---- what is made of a line's end

past_word : (word xs : List ℕ) → list_all is_solid word ≡ true → from_gap (word ++ xs) ≡ from_gap xs
past_word [] xs h = refl
past_word (b ∷ bs) xs h =
    let p = and_parts (is_solid b) (list_all is_solid bs) h in
    let solid : is_gap b ≡ false = not_true (is_gap b) (and_parts (not (is_gap b)) (not (is_quote b)) p.0).0 in
    rw solid (past_word bs xs p.1)

at_gap : (xs : List ℕ) → ends_word xs ≡ true → from_gap xs ≡ xs
at_gap [] h = refl
at_gap (b ∷ bs) h = rw h refl

trimmed_front : (xs : List ℕ) → begins_word xs ≡ true → without_gaps xs ≡ xs
trimmed_front [] h = absurd (false≢true h)
trimmed_front (b ∷ bs) h = rw (not_true (is_gap b) h) refl

trimmed_end : (xs gap : List ℕ) → are_gaps gap ≡ true → begins_word (reverse xs) ≡ true → without_end_gaps (xs ++ gap) ≡ xs
trimmed_end xs gap gaps begins =
    let left : without_gaps (reverse (xs ++ gap)) ≡ reverse xs =
    ap without_gaps (reverse-append xs gap) ∙ past_gaps (reverse gap) (reverse xs) (all_reverse is_gap gap gaps) ∙ trimmed_front (reverse xs) begins in
    ap reverse left ∙ reverse-reverse xs

-- the last word of a line that has one, and what stands before it
record IsEndCutAt (line before word : List ℕ) : Type 0 where
  before_is : before_last line ≡ before
  word_is : last_word line ≡ word

cut_end : (line before word gap : List ℕ) → line ≡ before ++ (word ++ gap) → list_all is_solid word ≡ true → begins_word word ≡ true
    → are_gaps gap ≡ true → ends_word (reverse before) ≡ true → IsEndCutAt line before word
cut_end line before word gap is solid begins gaps ends =
    let back : reverse (before ++ word) ≡ reverse word ++ reverse before = reverse-append before word in
    let last : begins_word (reverse (before ++ word)) ≡ true =
    subst (λ (xs : List ℕ). begins_word xs ≡ true) (sym back) (begins_both (reverse word) (reverse before) (solid_ends word begins solid)) in
    let left : without_end_gaps line ≡ before ++ word =
    ap without_end_gaps (is ∙ sym (append_assoc before word gap)) ∙ trimmed_end (before ++ word) gap gaps last in
    let front : before_last line ≡ before =
    ap (λ (xs : List ℕ). reverse (from_gap (reverse xs))) left
    ∙ ap (λ (xs : List ℕ). reverse (from_gap xs)) back
    ∙ ap reverse (past_word (reverse word) (reverse before) (all_reverse is_solid word solid) ∙ at_gap (reverse before) ends)
    ∙ reverse-reverse before in
    record {
      before_is = front;
      word_is = ap (λ (xs : List ℕ). drop (length xs) (without_end_gaps line)) front ∙ ap (drop (length before)) left ∙ drop_front before word;
    }

-- where a word is next, a blank or a tab stands before it
gap_some : (gap word rest : List ℕ) → ends_word (gap ++ (word ++ rest)) ≡ true → begins_word word ≡ true → 1 ≤ length gap
gap_some [] word rest ends begins = absurd (not_both (word ++ rest) (begins_both word rest begins) ends)
gap_some (b ∷ gap) word rest ends begins = omega arith

ends_front : (gap xs : List ℕ) → 1 ≤ length gap → are_gaps gap ≡ true → ends_word (gap ++ xs) ≡ true
ends_front [] xs some gaps = absurd (omega (arith, some))
ends_front (b ∷ gap) xs some gaps = (and_parts (is_gap b) (are_gaps gap) gaps).0

ends_back : (xs gap : List ℕ) → 1 ≤ length gap → are_gaps gap ≡ true → ends_word (reverse (xs ++ gap)) ≡ true
ends_back xs gap some gaps =
    let long = length-reverse gap in
    subst (λ (ys : List ℕ). ends_word ys ≡ true) (sym (reverse-append xs gap)) (ends_front (reverse gap) (reverse xs) (omega (arith, some, long)) (all_reverse is_gap gap gaps))

parts_joined : (g e h t i xs : List ℕ) → g ++ (e ++ (h ++ (t ++ (i ++ xs)))) ≡ (((g ++ e) ++ h) ++ (t ++ i)) ++ xs
parts_joined g e h t i xs =
    sym (append_assoc ((g ++ e) ++ h) (t ++ i) xs
    ∙ ap (λ (ys : List ℕ). ((g ++ e) ++ h) ++ ys) (append_assoc t i xs)
    ∙ append_assoc (g ++ e) h (t ++ (i ++ xs))
    ∙ append_assoc g e (h ++ (t ++ (i ++ xs))))

-- a phrase and two words are cut off the end
pub after_on_is : (text e t n : List ℕ) → HasWords (e ∷ t ∷ n ∷ []) text → is_phrase e ≡ true
    → list_all is_solid t ≡ true → begins_word t ≡ true → list_all is_solid n ≡ true → begins_word n ≡ true → after_on text ≡ index_line e t n
after_on_is text e t n (g, r, i, gaps, ends, (g2, r2, i2, gaps2, ends2, (g3, r3, i3, gaps3, ends3, last))) phrase t_solid t_begins n_solid n_begins =
    let p = and_parts (begins_word e) (begins_word (reverse e)) phrase in
    let some2 : 1 ≤ length g2 = gap_some g2 t r2 (subst (λ (xs : List ℕ). ends_word xs ≡ true) i2 ends) t_begins in
    let some3 : 1 ≤ length g3 = gap_some g3 n r3 (subst (λ (xs : List ℕ). ends_word xs ≡ true) i3 ends2) n_begins in
    let b : List ℕ = (g ++ e) ++ g2 in
    let c : List ℕ = b ++ (t ++ g3) in
    let whole : text ≡ c ++ (n ++ r3) =
    i ∙ ap (λ (xs : List ℕ). g ++ (e ++ xs)) (i2 ∙ ap (λ (xs : List ℕ). g2 ++ (t ++ xs)) i3) ∙ parts_joined g e g2 t g3 (n ++ r3) in
    let one : IsEndCutAt text c n = cut_end text c n r3 whole n_solid n_begins last (subst (λ (xs : List ℕ). ends_word (reverse xs) ≡ true) (append_assoc b t g3) (ends_back (b ++ t) g3 some3 gaps3)) in
    let two : IsEndCutAt c b t = cut_end c b t g3 refl t_solid t_begins gaps3 (ends_back (g ++ e) g2 some2 gaps2) in
    let back : begins_word (reverse (g ++ e)) ≡ true = subst (λ (xs : List ℕ). begins_word xs ≡ true) (sym (reverse-append g e)) (begins_both (reverse e) (reverse g) p.1) in
    let left : without_gaps (without_end_gaps b) ≡ e = ap without_gaps (trimmed_end (g ++ e) g2 gaps2 back) ∙ past_gaps g e gaps ∙ trimmed_front e p.0 in
    let before : before_last (before_last text) ≡ b = ap before_last one.before_is ∙ two.before_is in
    let to : last_word (before_last text) ≡ t = ap last_word one.before_is ∙ two.word_is in
    let expr : without_gaps (without_end_gaps (before_last (before_last text))) ≡ e = ap (λ (xs : List ℕ). without_gaps (without_end_gaps xs)) before ∙ left in
    ap (λ (xs : List ℕ). index_line xs (last_word (before_last text)) (last_word text)) expr
    ∙ ap (λ (xs : List ℕ). index_line e xs (last_word text)) to
    ∙ ap (λ (xs : List ℕ). index_line e t xs) one.word_is

-- ---- what is cut off stands in the line

word_or : (b : ℕ) (bs : List ℕ) (q : Bool) → is_gap b ≡ q → (word : List ℕ) × (bs ≡ word ++ from_gap bs) → (word : List ℕ) × (b ∷ bs ≡ word ++ cond q (b ∷ bs) (from_gap bs))
word_or b bs true e s = ([], refl)
word_or b bs false e s = (b ∷ s.0, ap (λ (xs : List ℕ). b ∷ xs) s.1)

word_split : (xs : List ℕ) → (word : List ℕ) × (xs ≡ word ++ from_gap xs)
word_split [] = ([], refl)
word_split (b ∷ bs) = word_or b bs (is_gap b) refl (word_split bs)

from_or : (b : ℕ) (bs : List ℕ) (q : Bool) → is_gap b ≡ q → ends_word (from_gap bs) ≡ true → ends_word (cond q (b ∷ bs) (from_gap bs)) ≡ true
from_or b bs true e h = e
from_or b bs false e h = h

from_gap_ends : (xs : List ℕ) → ends_word (from_gap xs) ≡ true
from_gap_ends [] = refl
from_gap_ends (b ∷ bs) = from_or b bs (is_gap b) refl (from_gap_ends bs)

record IsEndSplit (text : List ℕ) : Type 0 where
  gap : List ℕ
  whole : text ≡ without_end_gaps text ++ gap
  gaps : are_gaps gap ≡ true

end_split : (text : List ℕ) → IsEndSplit text
end_split text =
    let s = gap_split (reverse text) in
    record {
      gap = reverse s.gap;
      whole = sym (reverse-reverse text) ∙ ap reverse s.whole ∙ reverse-append s.gap (without_gaps (reverse text));
      gaps = all_reverse is_gap s.gap s.gaps;
    }

record IsEndCut (line : List ℕ) : Type 0 where
  split : IsEndSplit line
  joined : without_end_gaps line ≡ before_last line ++ last_word line
  whole : line ≡ before_last line ++ (last_word line ++ split.gap)
  ends : ends_word (reverse (before_last line)) ≡ true

end_cut : (line : List ℕ) → IsEndCut line
end_cut line =
    let s = end_split line in
    let text : List ℕ = without_end_gaps line in
    let w = word_split (reverse text) in
    let front : text ≡ before_last line ++ reverse w.0 = sym (reverse-reverse text) ∙ ap reverse w.1 ∙ reverse-append w.0 (from_gap (reverse text)) in
    let word : last_word line ≡ reverse w.0 = ap (drop (length (before_last line))) front ∙ drop_front (before_last line) (reverse w.0) in
    let joined : text ≡ before_last line ++ last_word line = front ∙ ap (λ (xs : List ℕ). before_last line ++ xs) (sym word) in
    record {
      split = s;
      joined = joined;
      whole = s.whole ∙ ap (λ (xs : List ℕ). xs ++ s.gap) joined ∙ append_assoc (before_last line) (last_word line) s.gap;
      ends = subst (λ (xs : List ℕ). ends_word xs ≡ true) (sym (reverse-reverse (from_gap (reverse text)))) (from_gap_ends (reverse text));
    }

-- what is left ends with a word, or is nothing
left_ends : (text : List ℕ) → 1 ≤ length (without_end_gaps text) → (without_gaps (reverse text) ≡ []) ⊎ (begins_word (without_gaps (reverse text)) ≡ true) → begins_word (reverse (without_end_gaps text)) ≡ true
left_ends text some (inl none) =
    let long = length-reverse (without_gaps (reverse text)) in
    let nothing : length (without_gaps (reverse text)) ≡ 0 = ap length none in
    absurd (omega (arith, some, long, nothing))
left_ends text some (inr begins) = subst (λ (xs : List ℕ). begins_word xs ≡ true) (sym (reverse-reverse (without_gaps (reverse text)))) begins

-- where a text ends with a blank or a tab, one is next after what is left of it
gap_next : (text gap rest : List ℕ) → ends_word (reverse text) ≡ true → text ≡ without_end_gaps text ++ gap → are_gaps gap ≡ true
    → 1 ≤ length (without_end_gaps text) → ends_word (gap ++ rest) ≡ true
gap_next text (b ∷ gap) rest ends whole gaps some = (and_parts (is_gap b) (are_gaps gap) gaps).0
gap_next text [] rest ends whole gaps some =
    let begins = left_ends text some (left_starts (reverse text)) in
    let same : reverse text ≡ reverse (without_end_gaps text) = ap reverse (whole ∙ append-nil (without_end_gaps text)) in
    absurd (not_both (reverse (without_end_gaps text)) begins (subst (λ (xs : List ℕ). ends_word xs ≡ true) same ends))

all_gaps_end : (gap : List ℕ) → are_gaps gap ≡ true → ends_word gap ≡ true
all_gaps_end [] h = refl
all_gaps_end (b ∷ gap) h = (and_parts (is_gap b) (are_gaps gap) h).0

left_begins : (text : List ℕ) → 1 ≤ length (without_gaps text) → (without_gaps text ≡ []) ⊎ (begins_word (without_gaps text) ≡ true) → begins_word (without_gaps text) ≡ true
left_begins text some (inl none) = let nothing : length (without_gaps text) ≡ 0 = ap length none in absurd (omega (arith, some, nothing))
left_begins text some (inr begins) = begins

-- the last two words of a text, and what stands before them
abbrev pub to_in : List ℕ → List ℕ
to_in text = last_word (before_last text)

abbrev pub expr_in : List ℕ → List ℕ
expr_in text = without_gaps (without_end_gaps (before_last (before_last text)))

pub record IsThreeAtEnd (text : List ℕ) : Type 0 where
  pub words : HasWords (expr_in text ∷ to_in text ∷ last_word text ∷ []) text
  pub phrase : is_phrase (expr_in text) ≡ true

pub three_at_end : (text : List ℕ) → 1 ≤ length (expr_in text) → 1 ≤ length (to_in text) → IsThreeAtEnd text
three_at_end text some to_some =
    let c : List ℕ = before_last text in
    let b : List ℕ = before_last c in
    let e : List ℕ = expr_in text in
    let r : IsEndCut text = end_cut text in
    let q : IsEndCut c = end_cut c in
    let s : IsEndSplit b = end_split b in
    let g = gap_split (without_end_gaps b) in
    let n : List ℕ = last_word text ++ r.split.gap in
    let t : List ℕ = to_in text ++ (q.split.gap ++ n) in
    let long_b : length (without_end_gaps b) ≡ length g.gap + length e = ap length g.whole ∙ length-append g.gap e in
    let long_c : length (without_end_gaps c) ≡ length b + length (to_in text) = ap length q.joined ∙ length-append b (to_in text) in
    let some_b : 1 ≤ length (without_end_gaps b) = omega (arith, long_b, some) in
    let some_c : 1 ≤ length (without_end_gaps c) = omega (arith, long_c, to_some) in
    let whole : text ≡ g.gap ++ (e ++ (s.gap ++ t)) =
    r.whole
    ∙ ap (λ (xs : List ℕ). xs ++ n) q.whole
    ∙ append_assoc b (to_in text ++ q.split.gap) n
    ∙ ap (λ (xs : List ℕ). b ++ xs) (append_assoc (to_in text) q.split.gap n)
    ∙ ap (λ (xs : List ℕ). xs ++ t) s.whole
    ∙ append_assoc (without_end_gaps b) s.gap t
    ∙ ap (λ (xs : List ℕ). xs ++ (s.gap ++ t)) g.whole
    ∙ append_assoc g.gap e (s.gap ++ t) in
    let back : begins_word (reverse e ++ reverse g.gap) ≡ true =
    subst (λ (xs : List ℕ). begins_word xs ≡ true) (ap reverse g.whole ∙ reverse-append g.gap e) (left_ends b some_b (left_starts (reverse b))) in
    let long_e = length-reverse e in
    record {
      words = (
        g.gap,
        s.gap ++ t,
        whole,
        g.gaps,
        gap_next b s.gap t q.ends s.whole s.gaps some_b,
        (
          s.gap,
          q.split.gap ++ n,
          refl,
          s.gaps,
          gap_next c q.split.gap n r.ends q.split.whole q.split.gaps some_c,
          (q.split.gap, r.split.gap, refl, q.split.gaps, all_gaps_end r.split.gap r.split.gaps, r.split.gaps),
        ),
      );
      phrase = and_from (begins_word e) (begins_word (reverse e)) (left_begins (without_end_gaps b) some (left_starts (without_end_gaps b)))
          (begins_front (reverse e) (reverse g.gap) (omega (arith, some, long_e)) back);
    }
