-- What the words of a line say is what the reader makes of it.
use Rattle.std.proofs.Common.{◌≡◌, ℕ, suc, List, [], ◌∷◌, Bool, true, false, not, cond, ◌==◌, ◌||◌, ◌≤◌, length, take, drop, Option, refl, ap, ◌∙◌, arith}
use Rattle.std.specs.Prelude.{codes, bytes_eq}
use mathlib.Core.Logic.{inl, inr}
use Rattle.std.specs.List.{list_all}
use Rattle.std.specs.Char.{to_ascii_lowercase}
use Rattle.std.specs.Str.{str_eq_ignore_ascii_case}
use Rattle.std.proofs.lemmas.Bool.{false≢true, and_parts}
use Rattle.std.proofs.lemmas.Bool.Decides.{nat_tests}
use Rattle.dbf_fields.specs.declared.format.TheConstants.{ASTERISK}
use Rattle.station_lines.specs.declared.script.format.TheConstants.{KEYWORD_LETTERS}
use Rattle.station_lines.specs.declared.script.line.Line.{Line}
use Rattle.station_lines.specs.declared.script.line.Line.TheVariants.{Blank}
use Rattle.station_lines.specs.declared.script.verb.Verb.{Verb}
use Rattle.station_lines.specs.declared.script.verb.Verb.TheVariants as verb
use Rattle.station_lines.specs.Script.Words.{begins_word, are_gaps, HasWords, begins_with_asterisk}
use Rattle.station_lines.specs.Script.Parts.{is_keyword}
use Rattle.station_lines.specs.Script.Meaning.{Part, IsPart, Are}
use Rattle.station_lines.specs.Script.Reading.{first_word, verb_in, with_, one, two, three, four, is_empty, after_verb, after_one, after_two, after_three, after_index, read}
use Rattle.station_lines.proofs.ScriptLaws.WordLaws.{is_solid, IsCutWord, IsCutAt, cut_off, no_first}
use Rattle.station_lines.proofs.ScriptLaws.PartLaws.{lower, like, other_keyword, keyword_word}
use Rattle.station_lines.proofs.ScriptLaws.TextLaws.{chosen, passed}
use Rattle.station_lines.proofs.ScriptLaws.VerbLaws.{spelling, verb_found}

-- ---- the first word

not_it : (q : Bool) → not q ≡ true → q ≡ false
not_it true e = absurd (false≢true e)
not_it false e = refl

-- each keyword is cut off whole, and is no remark
pub record IsFirstWord (word : List ℕ) : Type 0 where
  pub cut : IsCutWord word
  pub no_remark : (is_empty word || begins_with_asterisk word) ≡ false

-- that of a verb is not INDEX
record IsVerbWord (word : List ℕ) : Type 0 where
  first : IsFirstWord word
  no_index : is_keyword (codes "INDEX") word ≡ false

never_zero : (n : ℕ) → (suc n == 0) ≡ false
never_zero n = grind (arith, nat_tests)

starts_word : (word : List ℕ) → begins_word word ≡ true → list_all (λ b. not (b == ASTERISK)) (take KEYWORD_LETTERS word) ≡ true → (is_empty word || begins_with_asterisk word) ≡ false
starts_word [] h g = absurd (false≢true h)
starts_word (b ∷ bs) h g = let p = (and_parts (not (b == ASTERISK)) _ g).0 in
    ap (λ (q : Bool). q || (b == ASTERISK)) (never_zero (length bs)) ∙ not_it (b == ASTERISK) p

asterisk_lower : (c : ℕ) → not (to_ascii_lowercase c == ASTERISK) ≡ not (c == ASTERISK)
asterisk_lower c = grind (arith, nat_tests)

pub first_keyword : (k word : List ℕ) → 1 ≤ length (take KEYWORD_LETTERS k) → list_all is_solid (take KEYWORD_LETTERS k) ≡ true → list_all is_solid (drop KEYWORD_LETTERS k) ≡ true
    → list_all (λ b. not (b == ASTERISK)) (take KEYWORD_LETTERS k) ≡ true → is_keyword k word ≡ true → IsFirstWord word
first_keyword k word some first others stars e =
    let w = keyword_word k word some first others e in
    let p = and_parts (str_eq_ignore_ascii_case (take KEYWORD_LETTERS word) (take KEYWORD_LETTERS k)) _ e in
    record {
      cut = w;
      no_remark = starts_word word w.start (like (λ b. not (b == ASTERISK)) asterisk_lower (take KEYWORD_LETTERS word) (take KEYWORD_LETTERS k) p.0 stars);
    }

verb_keyword : (k word : List ℕ) → 1 ≤ length (take KEYWORD_LETTERS k) → list_all is_solid (take KEYWORD_LETTERS k) ≡ true → list_all is_solid (drop KEYWORD_LETTERS k) ≡ true
    → list_all (λ b. not (b == ASTERISK)) (take KEYWORD_LETTERS k) ≡ true
    → bytes_eq (lower (take KEYWORD_LETTERS k)) (lower (take KEYWORD_LETTERS (codes "INDEX"))) ≡ false → is_keyword k word ≡ true → IsVerbWord word
verb_keyword k word some first others stars differ e = record {
  first = first_keyword k word some first others stars e;
  no_index = other_keyword k (codes "INDEX") word differ e;
}

verb_word : (v : Verb) (word : List ℕ) → IsPart (spelling v) word → IsVerbWord word
verb_word verb.Select word h = verb_keyword (codes "SELECT") word (omega arith) refl refl refl refl h
verb_word verb.Use word h = verb_keyword (codes "USE") word (omega arith) refl refl refl refl h
verb_word verb.Go word (inl h) = verb_keyword (codes "GO") word (omega arith) refl refl refl refl h
verb_word verb.Go word (inr h) = verb_keyword (codes "GOTO") word (omega arith) refl refl refl refl h
verb_word verb.Skip word h = verb_keyword (codes "SKIP") word (omega arith) refl refl refl refl h
verb_word verb.Seek word h = verb_keyword (codes "SEEK") word (omega arith) refl refl refl refl h
verb_word verb.Set word h = verb_keyword (codes "SET") word (omega arith) refl refl refl refl h
verb_word verb.Append word h = verb_keyword (codes "APPEND") word (omega arith) refl refl refl refl h
verb_word verb.Replace word h = verb_keyword (codes "REPLACE") word (omega arith) refl refl refl refl h
verb_word verb.Memo word h = verb_keyword (codes "MEMO") word (omega arith) refl refl refl refl h
verb_word verb.Delete word h = verb_keyword (codes "DELETE") word (omega arith) refl refl refl refl h
verb_word verb.Recall word h = verb_keyword (codes "RECALL") word (omega arith) refl refl refl refl h
verb_word verb.Pack word h = verb_keyword (codes "PACK") word (omega arith) refl refl refl refl h
verb_word verb.Unlock word h = verb_keyword (codes "UNLOCK") word (omega arith) refl refl refl refl h
verb_word verb.Ask word h = verb_keyword (codes "?") word (omega arith) refl refl refl refl h
verb_word verb.Display word h = verb_keyword (codes "DISPLAY") word (omega arith) refl refl refl refl h

-- ---- word by word

pub some_word : (word : List ℕ) → begins_word word ≡ true → is_empty word ≡ false
some_word [] h = absurd (false≢true h)
some_word (b ∷ bs) h = never_zero (length bs)

nothing : (rest : List ℕ) → are_gaps rest ≡ true → is_empty (first_word rest) ≡ true
nothing rest h = ap is_empty (no_first rest h)

abbrev pub read_from : List ℕ → List ℕ → Line
read_from first rest =
    cond (is_empty first || begins_with_asterisk first) Blank
    (cond (is_keyword (codes "INDEX") first) (after_index rest) (with_ (verb_in first) (λ v. after_verb v rest)))

read_verb : (line a rest : List ℕ) (v : Verb) → IsCutAt line a rest → IsPart (spelling v) a → read line ≡ after_verb v rest
read_verb line a rest v c h =
    let w = verb_word v a h in
    (λ i. read_from (c.first i) (c.after i))
    ∙ (passed (is_empty a || begins_with_asterisk a) Blank _ w.first.no_remark
    ∙ passed (is_keyword (codes "INDEX") a) (after_index rest) (with_ (verb_in a) (λ v. after_verb v rest)) w.no_index
    ∙ ap (λ (o : Option Verb). with_ o (λ v. after_verb v rest)) (verb_found a v h))

verb_alone : (v : Verb) (rest : List ℕ) → are_gaps rest ≡ true → after_verb v rest ≡ one v
verb_alone v rest h = chosen (is_empty (first_word rest)) (one v) _ (nothing rest h)

verb_more : (v : Verb) (line b rest : List ℕ) → IsCutAt line b rest → begins_word b ≡ true → after_verb v line ≡ after_one v b rest
verb_more v line b rest c h =
    (λ i. cond (is_empty (c.first i)) (one v) (after_one v (c.first i) (c.after i)))
    ∙ passed (is_empty b) (one v) (after_one v b rest) (some_word b h)

two_alone : (v : Verb) (b rest : List ℕ) → are_gaps rest ≡ true → after_one v b rest ≡ two v b
two_alone v b rest h = chosen (is_empty (first_word rest)) (two v b) _ (nothing rest h)

two_more : (v : Verb) (b line c rest : List ℕ) → IsCutAt line c rest → begins_word c ≡ true → after_one v b line ≡ after_two v b c rest
two_more v b line c rest cut h =
    (λ i. cond (is_empty (cut.first i)) (two v b) (after_two v b (cut.first i) (cut.after i)))
    ∙ passed (is_empty c) (two v b) (after_two v b c rest) (some_word c h)

three_alone : (v : Verb) (b c rest : List ℕ) → are_gaps rest ≡ true → after_two v b c rest ≡ three v b c
three_alone v b c rest h = chosen (is_empty (first_word rest)) (three v b c) _ (nothing rest h)

three_more : (v : Verb) (b c line d rest : List ℕ) → IsCutAt line d rest → begins_word d ≡ true → after_two v b c line ≡ after_three v b c d rest
three_more v b c line d rest cut h =
    (λ i. cond (is_empty (cut.first i)) (three v b c) (after_three v b c (cut.first i) (cut.after i)))
    ∙ passed (is_empty d) (three v b c) (after_three v b c d rest) (some_word d h)

four_alone : (v : Verb) (b c d rest : List ℕ) → are_gaps rest ≡ true → after_three v b c d rest ≡ four v b c d
four_alone v b c d rest h = chosen (is_empty (first_word rest)) (four v b c d) _ (nothing rest h)

-- a part whose words are cut off whole
abbrev IsCutPart : Part → Type 0
IsCutPart p = (word : List ℕ) → IsPart p word → IsCutWord word

-- ---- line after line, word by word

-- a line is read as what is made of what follows its first words, which has the other words
record IsReadTo (line : List ℕ) (made : List ℕ → Line) (words : List (List ℕ)) : Type 0 where
  after : List ℕ
  others : HasWords words after
  reading : read line ≡ made after

to_verb : (line a : List ℕ) (words : List (List ℕ)) (v : Verb) → HasWords (a ∷ words) line → IsPart (spelling v) a → IsReadTo line (λ rest. after_verb v rest) words
to_verb line a words v w h = record {
  after = w.1;
  others = w.5;
  reading = read_verb line a w.1 v (cut_off line w.0 a w.1 w.2 w.3 w.4 (verb_word v a h).first.cut) h;
}

to_second : (line b : List ℕ) (words : List (List ℕ)) (v : Verb) → IsReadTo line (λ rest. after_verb v rest) (b ∷ words) → IsCutWord b → IsReadTo line (λ rest. after_one v b rest) words
to_second line b words v x cut = let w = x.others in record {
  after = w.1;
  others = w.5;
  reading = x.reading ∙ verb_more v x.after b w.1 (cut_off x.after w.0 b w.1 w.2 w.3 w.4 cut) cut.start;
}

to_third : (line b c : List ℕ) (words : List (List ℕ)) (v : Verb) → IsReadTo line (λ rest. after_one v b rest) (c ∷ words) → IsCutWord c → IsReadTo line (λ rest. after_two v b c rest) words
to_third line b c words v x cut = let w = x.others in record {
  after = w.1;
  others = w.5;
  reading = x.reading ∙ two_more v b x.after c w.1 (cut_off x.after w.0 c w.1 w.2 w.3 w.4 cut) cut.start;
}

to_fourth : (line b c d : List ℕ) (words : List (List ℕ)) (v : Verb) → IsReadTo line (λ rest. after_two v b c rest) (d ∷ words) → IsCutWord d → IsReadTo line (λ rest. after_three v b c d rest) words
to_fourth line b c d words v x cut = let w = x.others in record {
  after = w.1;
  others = w.5;
  reading = x.reading ∙ three_more v b c x.after d w.1 (cut_off x.after w.0 d w.1 w.2 w.3 w.4 cut) cut.start;
}

-- ---- lines of one to four words

pub line_one : (line : List ℕ) (words : List (List ℕ)) (v : Verb) → HasWords words line → Are (spelling v ∷ []) words → read line ≡ one v
line_one line [] v w h = absurd h
line_one line (a ∷ b ∷ ws) v w h = absurd h.1
line_one line (a ∷ []) v w h =
    let x = to_verb line a [] v w h.0 in
    x.reading ∙ verb_alone v x.after x.others

pub record IsTwo (line : List ℕ) (v : Verb) (p : Part) : Type 0 where
  pub second : List ℕ
  pub is : IsPart p second
  pub as_two : read line ≡ two v second

pub line_two : (line : List ℕ) (words : List (List ℕ)) (v : Verb) (p : Part) → IsCutPart p → HasWords words line → Are (spelling v ∷ p ∷ []) words → IsTwo line v p
line_two line [] v p cut w h = absurd h
line_two line (a ∷ []) v p cut w h = absurd h.1
line_two line (a ∷ b ∷ c ∷ ws) v p cut w h = absurd h.1.1
line_two line (a ∷ b ∷ []) v p cut w h =
    let x = to_second line b [] v (to_verb line a (b ∷ []) v w h.0) (cut b h.1.0) in
    record { second = b; is = h.1.0; as_two = x.reading ∙ two_alone v b x.after x.others }

pub record IsThree (line : List ℕ) (v : Verb) (p q : Part) : Type 0 where
  pub second : List ℕ
  pub third : List ℕ
  pub is_second : IsPart p second
  pub is_third : IsPart q third
  pub as_three : read line ≡ three v second third

pub line_three : (line : List ℕ) (words : List (List ℕ)) (v : Verb) (p q : Part) → IsCutPart p → IsCutPart q → HasWords words line
    → Are (spelling v ∷ p ∷ q ∷ []) words → IsThree line v p q
line_three line [] v p q cp cq w h = absurd h
line_three line (a ∷ []) v p q cp cq w h = absurd h.1
line_three line (a ∷ b ∷ []) v p q cp cq w h = absurd h.1.1
line_three line (a ∷ b ∷ c ∷ d ∷ ws) v p q cp cq w h = absurd h.1.1.1
line_three line (a ∷ b ∷ c ∷ []) v p q cp cq w h =
    let x = to_second line b (c ∷ []) v (to_verb line a (b ∷ c ∷ []) v w h.0) (cp b h.1.0) in
    let y = to_third line b c [] v x (cq c h.1.1.0) in
    record { second = b; third = c; is_second = h.1.0; is_third = h.1.1.0; as_three = y.reading ∙ three_alone v b c y.after y.others }

pub record IsFour (line : List ℕ) (v : Verb) (p q r : Part) : Type 0 where
  pub second : List ℕ
  pub third : List ℕ
  pub fourth : List ℕ
  pub is_second : IsPart p second
  pub is_third : IsPart q third
  pub is_fourth : IsPart r fourth
  pub as_four : read line ≡ four v second third fourth

pub line_four : (line : List ℕ) (words : List (List ℕ)) (v : Verb) (p q r : Part) → IsCutPart p → IsCutPart q → IsCutPart r → HasWords words line
    → Are (spelling v ∷ p ∷ q ∷ r ∷ []) words → IsFour line v p q r
line_four line [] v p q r cp cq cr w h = absurd h
line_four line (a ∷ []) v p q r cp cq cr w h = absurd h.1
line_four line (a ∷ b ∷ []) v p q r cp cq cr w h = absurd h.1.1
line_four line (a ∷ b ∷ c ∷ []) v p q r cp cq cr w h = absurd h.1.1.1
line_four line (a ∷ b ∷ c ∷ d ∷ e ∷ ws) v p q r cp cq cr w h = absurd h.1.1.1.1
line_four line (a ∷ b ∷ c ∷ d ∷ []) v p q r cp cq cr w h =
    let x = to_second line b (c ∷ d ∷ []) v (to_verb line a (b ∷ c ∷ d ∷ []) v w h.0) (cp b h.1.0) in
    let y = to_third line b c (d ∷ []) v x (cq c h.1.1.0) in
    let z = to_fourth line b c d [] v y (cr d h.1.1.1.0) in
    record {
      second = b;
      third = c;
      fourth = d;
      is_second = h.1.0;
      is_third = h.1.1.0;
      is_fourth = h.1.1.1.0;
      as_four = z.reading ∙ four_alone v b c d z.after z.others;
    }
