-- How a line of a setup is cut into words, and that it has no others.
use Rattle.std.proofs.Common.{◌≡◌, ℕ, zero, suc, List, [], ◌∷◌, ◌++◌, Bool, true, false, not, cond, ◌+◌, ◌<◌, ◌≤◌, length, take, drop, Some, None, refl, ap, ◌∙◌, sym, subst, arith, ltb}
use Rattle.std.specs.List.{list_all, position, position_or_len}
use Rattle.std.specs.Prelude.{◌⊎◌}
use mathlib.Core.Logic.{inl, inr}
use Rattle.std.proofs.lemmas.Bool.{false≢true, and_parts, and_from}
use Rattle.std.proofs.lemmas.Bool.Decides.{nat_tests}
use Rattle.std.proofs.lemmas.List.{append-nil, length-append, take-append-drop}
use Rattle.std.proofs.lemmas.List.Sums.{prefix_len-le-length}
use Rattle.station_lines.specs.Script.Words.{begins_word, is_gap, are_gaps, ends_word, HasWords}
use Rattle.station_lines.specs.Script.Reading.{without_gaps}
use Rattle.station_lines.specs.Setup.{has_no_gap, is_word, AreWords}
use Rattle.station_lines.proofs.ScriptLaws.WordLaws.{past_gaps, no_gaps, no_word, gap_split, left_starts}

not_below : (b : Bool) (n : ℕ) → cond b (Some n) None ≡ None → b ≡ false
not_below true n e = absurd cc
not_below false n e = refl

-- where nothing passes, all the list stands before
pub position_none : {X : Type 0} (p : X → Bool) (xs : List X) → position p xs ≡ None → length xs ≡ position_or_len p xs
position_none p xs e =
    let none : ltb (position_or_len p xs) (length xs) ≡ false = not_below (ltb (position_or_len p xs) (length xs)) (position_or_len p xs) e in
    let most : position_or_len p xs ≤ length xs = prefix_len-le-length (λ x. not (p x)) xs in
    grind (arith, nat_tests, none, most)

abbrev gap_at : List ℕ → ℕ
gap_at text = position_or_len (λ b. is_gap b) text

before_or : (b : ℕ) (bs : List ℕ) (q : Bool) → is_gap b ≡ q → has_no_gap (take (gap_at bs) bs) ≡ true
    → has_no_gap (take (cond (not q) (1 + gap_at bs) 0) (b ∷ bs)) ≡ true
before_or b bs true e h = refl
before_or b bs false e h =
    let next : 1 + gap_at bs ≡ suc (gap_at bs) = omega arith in
    rw next (and_from (not (is_gap b)) (has_no_gap (take (gap_at bs) bs)) (ap not e) h)

before_gap : (text : List ℕ) → has_no_gap (take (gap_at text) text) ≡ true
before_gap [] = refl
before_gap (b ∷ bs) = before_or b bs (is_gap b) refl (before_gap bs)

ends_or : (b : ℕ) (bs : List ℕ) (q : Bool) → is_gap b ≡ q → ends_word (drop (gap_at bs) bs) ≡ true
    → ends_word (drop (cond (not q) (1 + gap_at bs) 0) (b ∷ bs)) ≡ true
ends_or b bs true e h = e
ends_or b bs false e h =
    let next : 1 + gap_at bs ≡ suc (gap_at bs) = omega arith in
    rw next h

ends_there : (text : List ℕ) → ends_word (drop (gap_at text) text) ≡ true
ends_there [] = refl
ends_there (b ∷ bs) = ends_or b bs (is_gap b) refl (ends_there bs)

word_or : (b : ℕ) (bs : List ℕ) (q : Bool) → is_gap b ≡ q → not q ≡ true → is_word (take (cond (not q) (1 + gap_at bs) 0) (b ∷ bs)) ≡ true
word_or b bs true e h = absurd (false≢true h)
word_or b bs false e h =
    let next : 1 + gap_at bs ≡ suc (gap_at bs) = omega arith in
    rw next (and_from (not (is_gap b)) (has_no_gap (take (gap_at bs) bs)) (ap not e) (before_gap bs))

-- what stands before the first blank or tab is a word, where none stands at the front
word_there : (text : List ℕ) → begins_word text ≡ true → is_word (take (gap_at text) text) ≡ true
word_there [] h = absurd (false≢true h)
word_there (b ∷ bs) h = word_or b bs (is_gap b) refl h

some_start : (text : List ℕ) → (text ≡ []) ⊎ (begins_word text ≡ true) → 0 < length text → begins_word text ≡ true
some_start text (inl e) h = absurd (let none : length text ≡ 0 = ap length e in omega (arith, none, h))
some_start text (inr s) h = s

-- the first word of a line, and the words of what stands after it
pub first_of_words : (line text : List ℕ) (n : ℕ) → text ≡ without_gaps line → 0 < length text → n ≡ gap_at text
    → (others : List (List ℕ)) → AreWords others (drop n text) → AreWords (take n text ∷ others) line
first_of_words line text n is some at others are =
    let s = gap_split line in
    let start : begins_word text ≡ true = some_start text (subst (λ (x : List ℕ). (x ≡ []) ⊎ (begins_word x ≡ true)) (sym is) (left_starts line)) some in
    let whole : line ≡ s.gap ++ (take n text ++ drop n text) =
    s.whole ∙ ap (λ (x : List ℕ). s.gap ++ x) (sym is ∙ sym (take-append-drop n text)) in
    let ends : ends_word (drop n text) ≡ true = rw at (ends_there text) in
    let word : is_word (take n text) ≡ true = rw at (word_there text start) in
    ((s.gap, drop n text, whole, s.gaps, ends, are.0), and_from (is_word (take n text)) (list_all is_word others) word are.1)

gap_some : (b : ℕ) (bs : List ℕ) (q : Bool) → is_gap b ≡ q → not q ≡ true → 0 < cond (not q) (1 + gap_at bs) 0
gap_some b bs true e h = absurd (false≢true h)
gap_some b bs false e h = omega arith

gap_after : (text : List ℕ) → begins_word text ≡ true → 0 < gap_at text
gap_after [] h = absurd (false≢true h)
gap_after (b ∷ bs) h = gap_some b bs (is_gap b) refl h

drop_short : (n : ℕ) (xs : List ℕ) → length (drop n xs) ≤ length xs
drop_short zero xs = omega arith
drop_short (suc n) [] = omega arith
drop_short (suc n) (x ∷ xs) = let e = drop_short n xs in omega (arith, e)

less_left : (n : ℕ) (text : List ℕ) → 0 < n → 0 < length text → length (drop n text) < length text
less_left n [] h k = absurd (omega (arith, k))
less_left zero (b ∷ bs) h k = absurd (omega (arith, h))
less_left (suc n) (b ∷ bs) h k = let e = drop_short n bs in omega (arith, e)

-- what stands after the first word is shorter than the line
pub shorter_after : (line text : List ℕ) (n : ℕ) → text ≡ without_gaps line → 0 < length text → n ≡ gap_at text
    → length (drop n text) < length line
shorter_after line text n is some at =
    let s = gap_split line in
    let start : begins_word text ≡ true = some_start text (subst (λ (x : List ℕ). (x ≡ []) ⊎ (begins_word x ≡ true)) (sym is) (left_starts line)) some in
    let more : 0 < n = rw at (gap_after text start) in
    let less = less_left n text more some in
    let long : length line ≡ length s.gap + length text = ap length (s.whole ∙ ap (λ (x : List ℕ). s.gap ++ x) (sym is)) ∙ length-append s.gap text in
    omega (arith, less, long)

only_gaps : (line gap text : List ℕ) → line ≡ gap ++ text → are_gaps gap ≡ true → length text ≡ 0 → are_gaps line ≡ true
only_gaps line gap [] e g n = subst (λ (x : List ℕ). are_gaps x ≡ true) (sym (e ∙ append-nil gap)) g
only_gaps line gap (b ∷ bs) e g n = absurd (omega (arith, n))

-- a line of blanks and tabs has no words
pub without_words : (line text : List ℕ) → text ≡ without_gaps line → length text ≡ 0 → AreWords [] line
without_words line text is none =
    let s = gap_split line in
    (only_gaps line s.gap text (s.whole ∙ ap (λ (x : List ℕ). s.gap ++ x) (sym is)) s.gaps none, refl)

cut_more : (n : ℕ) (line text : List ℕ) → text ≡ without_gaps line → length line ≤ suc n
    → ((rest : List ℕ) → length rest ≤ n → (words : List (List ℕ)) × AreWords words rest) → (words : List (List ℕ)) × AreWords words line
cut_more n line [] is short more = ([], without_words line [] is refl)
cut_more n line (b ∷ bs) is short more =
    let end : ℕ = gap_at (b ∷ bs) in
    let some : 0 < length (b ∷ bs) = omega arith in
    let less : length (drop end (b ∷ bs)) < length line = shorter_after line (b ∷ bs) end is some refl in
    let others = more (drop end (b ∷ bs)) (omega (arith, less, short)) in
    (take end (b ∷ bs) ∷ others.0, first_of_words line (b ∷ bs) end is some refl others.0 others.1)

words_within : (n : ℕ) (line : List ℕ) → length line ≤ n → (words : List (List ℕ)) × AreWords words line
words_within n [] h = ([], (refl, refl))
words_within zero (b ∷ bs) h = absurd (omega (arith, h))
words_within (suc n) (b ∷ bs) h = cut_more n (b ∷ bs) (without_gaps (b ∷ bs)) refl h (words_within n)

-- a line has words
pub some_words : (line : List ℕ) → (words : List (List ℕ)) × AreWords words line
some_words line = words_within (length line) line (omega arith)

-- ---- the words of a line are one list

not_both : (b : Bool) → b ≡ true → not b ≡ true → ⊥
not_both true e h = false≢true h
not_both false e h = false≢true e

apart : (b : ℕ) (bs r : List ℕ) → r ≡ b ∷ bs → ends_word r ≡ true → not (is_gap b) ≡ true → ⊥
apart b bs r e h out = not_both (is_gap b) (subst (λ (x : List ℕ). ends_word x ≡ true) e h) out

one_word : (v w r s : List ℕ) → has_no_gap v ≡ true → has_no_gap w ≡ true → ends_word r ≡ true → ends_word s ≡ true → v ++ r ≡ w ++ s → (v ≡ w) × (r ≡ s)
one_word [] [] r s hv hw er es e = (refl, e)
one_word [] (y ∷ w) r s hv hw er es e = absurd (apart y (w ++ s) r e er (and_parts (not (is_gap y)) (has_no_gap w) hw).0)
one_word (x ∷ v) [] r s hv hw er es e = absurd (apart x (v ++ r) s (sym e) es (and_parts (not (is_gap x)) (has_no_gap v) hv).0)
one_word (x ∷ v) (y ∷ w) r s hv hw er es e =
    let same : x ≡ y = cc in
    let p = and_parts (not (is_gap x)) (has_no_gap v) hv in
    let q = and_parts (not (is_gap y)) (has_no_gap w) hw in
    let h = one_word v w r s p.1 q.1 er es cc in
    (ap (λ (z : ℕ). z ∷ v) same ∙ ap (λ (zs : List ℕ). y ∷ zs) h.0, h.1)

word_starts : (word : List ℕ) → is_word word ≡ true → begins_word word ≡ true
word_starts [] h = absurd (false≢true h)
word_starts (b ∷ bs) h = (and_parts (not (is_gap b)) (has_no_gap bs) h).0

word_whole : (word : List ℕ) → is_word word ≡ true → has_no_gap word ≡ true
word_whole [] h = refl
word_whole (b ∷ bs) h = h

word_left : (line gap word rest : List ℕ) → line ≡ gap ++ (word ++ rest) → are_gaps gap ≡ true → is_word word ≡ true → without_gaps line ≡ word ++ rest
word_left line gap word rest is gaps w = ap without_gaps is ∙ past_gaps gap (word ++ rest) gaps ∙ no_gaps word rest (word_starts word w)

nothing_left : (word rest : List ℕ) → is_word word ≡ true → [] ≡ word ++ rest → ⊥
nothing_left [] rest h e = false≢true h
nothing_left (b ∷ bs) rest h e = absurd cc

-- a line has one list of words
pub one_words : (a b : List (List ℕ)) (line : List ℕ) → AreWords a line → AreWords b line → a ≡ b
one_words [] [] line x y = refl
one_words [] (w ∷ ws) line x y =
    let q = and_parts (is_word w) (list_all is_word ws) y.1 in
    absurd (nothing_left w y.0.1 q.0 (sym (no_word line x.0) ∙ word_left line y.0.0 w y.0.1 y.0.2 y.0.3 q.0))
one_words (v ∷ vs) [] line x y =
    let p = and_parts (is_word v) (list_all is_word vs) x.1 in
    absurd (nothing_left v x.0.1 p.0 (sym (no_word line y.0) ∙ word_left line x.0.0 v x.0.1 x.0.2 x.0.3 p.0))
one_words (v ∷ vs) (w ∷ ws) line x y =
    let p = and_parts (is_word v) (list_all is_word vs) x.1 in
    let q = and_parts (is_word w) (list_all is_word ws) y.1 in
    let h = one_word v w x.0.1 y.0.1 (word_whole v p.0) (word_whole w q.0) x.0.4 y.0.4
    (sym (word_left line x.0.0 v x.0.1 x.0.2 x.0.3 p.0) ∙ word_left line y.0.0 w y.0.1 y.0.2 y.0.3 q.0) in
    let others = one_words vs ws x.0.1 (x.0.5, p.1) (subst (λ (r : List ℕ). HasWords ws r) (sym h.1) y.0.5, q.1) in
    ap (λ (z : List ℕ). z ∷ vs) h.0 ∙ ap (λ (zs : List (List ℕ)). w ∷ zs) others

-- where a line begins with a word, its words are that and those of what stands after it
pub words_after : (line word rest : List ℕ) → ((others : List (List ℕ)) → AreWords others rest → AreWords (word ∷ others) line)
    → (words : List (List ℕ)) → AreWords words line → (others : List (List ℕ)) × AreWords others rest × (words ≡ word ∷ others)
words_after line word rest joins words are =
    let others = some_words rest in
    (others.0, others.1, one_words words (word ∷ others.0) line are (joins others.0 others.1))
