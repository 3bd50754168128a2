-- What is made of a line is readable, or Bad.
use Rattle.std.proofs.Common.{◌≡◌, ℕ, List, [], ◌∷◌, ◌++◌, Bool, true, false, not, cond, ◌||◌, ◌≤◌, length, Option, Some, None, refl, sym, arith}
use Rattle.std.specs.Prelude.{◌⊎◌, codes}
use mathlib.Core.Logic.{inl, inr}
use Rattle.std.proofs.lemmas.List.{append-nil}
use Rattle.std.proofs.lemmas.Bool.{false≢true}
use Rattle.station_lines.specs.declared.script.line.Line.{Line}
use Rattle.station_lines.specs.declared.script.line.Line.TheVariants.{Run, Status, Blank}
use Rattle.station_lines.specs.declared.script.verb.Verb.{Verb}
use Rattle.station_lines.specs.Script.Words.{HasWords, begins_with_asterisk, IsBlankLine}
use Rattle.station_lines.specs.Script.Parts.{is_keyword, name_in}
use Rattle.station_lines.specs.Script.Meaning.{IsPart, Says, IsReadable}
use Rattle.station_lines.specs.Script.Reading.{first_word, after_word, bad, verb_in, with_, one, two, three, four, is_empty, after_verb, after_one, after_two, last_word, after_on, after_index, read}
use Rattle.station_lines.proofs.ScriptLaws.WordLaws.{is_cut, no_words}
use Rattle.station_lines.proofs.ScriptLaws.PartLaws.{keyword_word}
use Rattle.station_lines.proofs.ScriptLaws.EndLaws.{word_some, expr_in, to_in, three_at_end}
use Rattle.station_lines.proofs.ScriptLaws.VerbLaws.{spelling, verb_is}
use Rattle.station_lines.proofs.ScriptLaws.SoundLaws.{IsSaid, of_value, one_said, two_said, three_said, four_said}

abbrev pub IsRead : List ℕ → Line → Type 0
IsRead line l = (l ≡ bad) ⊎ IsReadable line l

-- what the words of a line say
said : (line : List ℕ) (words : List (List ℕ)) (l : Line) → HasWords words line → Says words l → IsReadable line l
said line words (Run c) w h = (words, w, h)
said line words Status w h = (words, w, h)
said line words Blank w h = absurd h

read_said : (line : List ℕ) (words : List (List ℕ)) (l : Line) → HasWords words line → IsSaid words l → IsRead line l
read_said line words l w (inl e) = inl e
read_said line words l w (inr h) = inr (said line words l w h)

-- the first word before other words
front_word : (line : List ℕ) (words : List (List ℕ)) → HasWords words (after_word line) → HasWords (first_word line ∷ words) line
front_word line words w = let c = is_cut line in (c.gap, after_word line, c.whole, c.gaps, c.ends, w)

by_empty : (line : List ℕ) (q : Bool) (x y : Line) → (q ≡ true → IsRead line x) → (q ≡ false → IsRead line y) → IsRead line (cond q x y)
by_empty line true x y f g = f refl
by_empty line false x y f g = g refl

read_three : (line : List ℕ) (v : Verb) (a b c rest : List ℕ) → IsPart (spelling v) a
    → ((words : List (List ℕ)) → HasWords words rest → HasWords (a ∷ b ∷ c ∷ words) line) → IsRead line (after_two v b c rest)
read_three line v a b c rest h front =
    by_empty line (is_empty (first_word rest)) (three v b c) _
    (λ e. read_said line (a ∷ b ∷ c ∷ []) (three v b c) (front [] (no_words rest e)) (three_said v a b c h))
    (λ e. by_empty line (is_empty (first_word (after_word rest))) (four v b c (first_word rest)) bad
    (λ f. read_said line (a ∷ b ∷ c ∷ first_word rest ∷ []) (four v b c (first_word rest)) (front (first_word rest ∷ []) (front_word rest [] (no_words (after_word rest) f))) (four_said v a b c (first_word rest) h))
    (λ f. inl refl))

read_two : (line : List ℕ) (v : Verb) (a b rest : List ℕ) → IsPart (spelling v) a
    → ((words : List (List ℕ)) → HasWords words rest → HasWords (a ∷ b ∷ words) line) → IsRead line (after_one v b rest)
read_two line v a b rest h front =
    by_empty line (is_empty (first_word rest)) (two v b) _
    (λ e. read_said line (a ∷ b ∷ []) (two v b) (front [] (no_words rest e)) (two_said v a b h))
    (λ e. read_three line v a b (first_word rest) (after_word rest) h (λ words w. front (first_word rest ∷ words) (front_word rest words w)))

read_one : (line : List ℕ) (v : Verb) (a rest : List ℕ) → IsPart (spelling v) a
    → ((words : List (List ℕ)) → HasWords words rest → HasWords (a ∷ words) line) → IsRead line (after_verb v rest)
read_one line v a rest h front =
    by_empty line (is_empty (first_word rest)) (one v) _
    (λ e. read_said line (a ∷ []) (one v) (front [] (no_words rest e)) (one_said v a h))
    (λ e. read_two line v a (first_word rest) (after_word rest) h (λ words w. front (first_word rest ∷ words) (front_word rest words w)))

by_verb : (line : List ℕ) (o : Option Verb) → verb_in (first_word line) ≡ o → IsRead line (with_ o (λ v. after_verb v (after_word line)))
by_verb line None e = inl refl
by_verb line (Some v) e = read_one line v (first_word line) (after_word line) (verb_is (first_word line) v e) (λ words w. front_word line words w)

star_front : (word rest : List ℕ) → begins_with_asterisk word ≡ true → begins_with_asterisk (word ++ rest) ≡ true
star_front [] rest h = absurd (false≢true h)
star_front (b ∷ bs) rest h = h

remark : (line : List ℕ) (p q : Bool) → is_empty (first_word line) ≡ p → begins_with_asterisk (first_word line) ≡ q → (p || q) ≡ true → IsBlankLine line
remark line true q e f h = (line, [], sym (append-nil line), no_words line e, inl refl)
remark line false true e f h = let c = is_cut line in (c.gap, first_word line ++ after_word line, c.whole, c.gaps, inr (star_front (first_word line) (after_word line) f))
remark line false false e f h = absurd (false≢true h)

-- what stands after INDEX
no_phrase : (e to : List ℕ) → (p q : Bool) → is_empty e ≡ p → is_keyword (codes "TO") to ≡ q → (p || not q) ≡ false → (is_empty e ≡ false) × (is_keyword (codes "TO") to ≡ true)
no_phrase e to true q f g h = absurd (false≢true (sym h))
no_phrase e to false true f g h = (f, g)
no_phrase e to false false f g h = absurd (false≢true (sym h))

not_empty : (xs : List ℕ) → is_empty xs ≡ false → 1 ≤ length xs
not_empty [] h = absurd (false≢true (sym h))
not_empty (b ∷ bs) h = omega arith

read_on : (line rest : List ℕ) (a b : List ℕ) → is_keyword (codes "INDEX") a ≡ true → is_keyword (codes "ON") b ≡ true
    → ((words : List (List ℕ)) → HasWords words rest → HasWords (a ∷ b ∷ words) line) → IsRead line (after_on rest)
read_on line rest a b index on front =
    by_empty line (is_empty (expr_in rest) || not (is_keyword (codes "TO") (to_in rest))) bad _
    (λ f. inl refl)
    (λ f. let p = no_phrase (expr_in rest) (to_in rest) (is_empty (expr_in rest)) (is_keyword (codes "TO") (to_in rest)) refl refl f in
    let to_word = keyword_word (codes "TO") (to_in rest) (omega arith) refl refl p.1 in
    let three = three_at_end rest (not_empty (expr_in rest) p.0) (word_some (to_in rest) to_word.start) in
    let words : List (List ℕ) = a ∷ b ∷ expr_in rest ∷ to_in rest ∷ last_word rest ∷ [] in
    read_said line words _ (front (expr_in rest ∷ to_in rest ∷ last_word rest ∷ []) three.words)
    (of_value words (name_in (last_word rest)) _ (λ n g. inr (index, (on, ((refl, three.phrase), (p.1, (g, tt))))))))

read_index : (line a rest : List ℕ) → is_keyword (codes "INDEX") a ≡ true
    → ((words : List (List ℕ)) → HasWords words rest → HasWords (a ∷ words) line) → IsRead line (after_index rest)
read_index line a rest index front =
    by_empty line (is_keyword (codes "ON") (first_word rest)) _ bad
    (λ on. read_on line (after_word rest) a (first_word rest) index on (λ words w. front (first_word rest ∷ words) (front_word rest words w)))
    (λ on. inl refl)

pub is_read : (line : List ℕ) → IsRead line (read line)
is_read line =
    by_empty line (is_empty (first_word line) || begins_with_asterisk (first_word line)) Blank _
    (λ e. inr (remark line (is_empty (first_word line)) (begins_with_asterisk (first_word line)) refl refl e))
    (λ e. by_empty line (is_keyword (codes "INDEX") (first_word line)) _ _
    (λ index. read_index line (first_word line) (after_word line) index (λ words w. front_word line words w))
    (λ index. by_verb line (verb_in (first_word line)) refl))
