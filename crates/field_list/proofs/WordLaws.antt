-- The words of a line that is printed of a field.
use Rattle.std.proofs.Common.{◌≡◌, ℕ, suc, List, [], ◌∷◌, ◌++◌, Bool, true, false, not, cond, ◌==◌, ◌&&◌, ◌||◌, ◌+◌, length, Option, Some, None, refl, ap, ◌∙◌, sym, subst, arith}
use Rattle.std.specs.Prelude.{bytes_eq, codes, is_some, unwrap_or}
use Rattle.std.specs.List.{list_all, position_or_len}
use Rattle.std.proofs.lemmas.Bool.{false≢true, and_parts}
use Rattle.std.proofs.lemmas.Bool.Decides.{nat_tests}
use Rattle.dbf_fields.specs.declared.field.Field.{Field}
use Rattle.dbf_fields.specs.declared.format.TheConstants.{NUMBER}
use Rattle.station_lines.specs.Script.Parts.{count_in}
use Rattle.station_lines.specs.Script.Words.{is_gap, begins_word, ends_word, HasWords}
use Rattle.station_lines.specs.Script.Reading.{without_gaps, is_empty}
use Rattle.station_lines.specs.Setup.{has_no_gap, is_word, AreWords}
use Rattle.station_lines.specs.BadSetupLines.{plain_word, after_plain_word, second_plain_word, third_plain_word}
use Rattle.station_lines.proofs.ScriptLaws.PartLaws.{same_text}
use Rattle.station_lines.proofs.ScriptLaws.WordLaws.{past_gaps, no_gaps, no_word, take_front, drop_front}
use Rattle.field_list.specs.FieldLine.{says_nothing, kind_named, byte_in, decimals_in, extra_word, after_number, after_width, line_name, line_kind, line_width, line_decimals, line_extra, parts_fault, line_fault, line_field}

-- ---- the first word of words

word_starts : (word : List ℕ) → is_word word ≡ true → begins_word word ≡ true
word_starts [] h = absurd (false≢true h)
word_starts (b ∷ bs) h = (and_parts (not (is_gap b)) (has_no_gap bs) h).0

word_whole : (word : List ℕ) → is_word word ≡ true → has_no_gap word ≡ true
word_whole [] h = refl
word_whole (b ∷ bs) h = h

abbrev gap_at : List ℕ → ℕ
gap_at text = position_or_len (λ b. is_gap b) text

step : (b n : ℕ) → not (is_gap b) ≡ true → cond (not (is_gap b)) (1 + n) 0 ≡ suc n
step b n h = rw h (omega arith)

stop : (b n : ℕ) → is_gap b ≡ true → cond (not (is_gap b)) (1 + n) 0 ≡ 0
stop b n h = rw h refl

word_end : (word rest : List ℕ) → has_no_gap word ≡ true → ends_word rest ≡ true → gap_at (word ++ rest) ≡ length word
word_end [] [] h ends = refl
word_end [] (b ∷ bs) h ends = stop b (gap_at bs) ends
word_end (b ∷ bs) rest h ends =
    let p = and_parts (not (is_gap b)) (has_no_gap bs) h in
    step b (gap_at (bs ++ rest)) p.0 ∙ ap suc (word_end bs rest p.1 ends)

-- a line's first word, and the words of what stands after it
pub record IsFirst (line word : List ℕ) (others : List (List ℕ)) : Type 0 where
  pub first : plain_word line ≡ word
  pub after : AreWords others (after_plain_word line)

pub first_word_of : (line word : List ℕ) (others : List (List ℕ)) → AreWords (word ∷ others) line → IsFirst line word others
first_word_of line word others are =
    let h = are.0 in
    let p = and_parts (is_word word) (list_all is_word others) are.1 in
    let left : without_gaps line ≡ word ++ h.1 = ap without_gaps h.2 ∙ (past_gaps h.0 (word ++ h.1) h.3 ∙ no_gaps word h.1 (word_starts word p.0)) in
    let at : gap_at (word ++ h.1) ≡ length word = word_end word h.1 (word_whole word p.0) h.4 in
    let cut : after_plain_word line ≡ h.1 = rw (left, at) (drop_front word h.1) in
    record {
      first = rw (left, at) (take_front word h.1);
      after = (subst (λ (rest : List ℕ). HasWords others rest) (sym cut) h.5, p.1);
    }

-- a line without words has no first one
pub no_first_word : (line : List ℕ) → AreWords [] line → plain_word line ≡ []
no_first_word line are = rw (no_word line are.0) refl

-- ---- what the words of a field's line say

some_none : {X : Type 0} (x : X) → None ≡ Some x → ⊥
some_none x e = absurd cc

-- a number is no word that isn't one
not_text : (q : Bool) (d w : List ℕ) (n : ℕ) → bytes_eq d w ≡ q → count_in d ≡ Some n → count_in w ≡ None → q ≡ false
not_text false d w n e is none = refl
not_text true d w n e is none = absurd (some_none n (sym none ∙ (ap (λ (x : List ℕ). count_in x) (sym (same_text d w e)) ∙ is)))

not_empty : (d : List ℕ) (n : ℕ) → count_in d ≡ Some n → is_empty d ≡ false
not_empty [] n is = absurd (some_none n is)
not_empty (b ∷ bs) n is = grind (arith, nat_tests)

none_of : (a b c d x y : Bool) → a ≡ false → b ≡ false → c ≡ false → d ≡ false → (a || (b || ((c && x) || (d && y)))) ≡ false
none_of a b c d x y ea eb ec ed = rw (ea, eb, ec, ed) refl

-- a line that begins with a number says a field
pub number_says : (line d : List ℕ) (n : ℕ) → plain_word line ≡ d → count_in d ≡ Some n → says_nothing line ≡ false
number_says line d n first is =
    let word = plain_word line in
    let number : count_in word ≡ Some n = ap (λ (w : List ℕ). count_in w) first ∙ is in
    none_of (is_empty word) (bytes_eq word (codes "Records:")) (bytes_eq word (codes "Last")) (bytes_eq word (codes "Field"))
    (bytes_eq (second_plain_word line) (codes "change:")) (bytes_eq (second_plain_word line) (codes "Name"))
    (not_empty word n number) (not_text _ word (codes "Records:") n refl number refl) (not_text _ word (codes "Last") n refl number refl) (not_text _ word (codes "Field") n refl number refl)

past_number : (o : Option ℕ) (n : ℕ) (line rest : List ℕ) → o ≡ Some n → cond (is_some o) rest line ≡ rest
past_number (Some m) n line rest e = refl
past_number None n line rest e = absurd (some_none n e)

pub after_that : (line d : List ℕ) (n : ℕ) → plain_word line ≡ d → count_in d ≡ Some n → after_number line ≡ after_plain_word line
after_that line d n first is = past_number (count_in (plain_word line)) n line (after_plain_word line) (ap (λ (w : List ℕ). count_in w) first ∙ is)

no_fault : (kind width decimals : Option ℕ) (extra : List ℕ) (k w d : ℕ) → kind ≡ Some k → width ≡ Some w → decimals ≡ Some d → extra ≡ []
    → parts_fault kind width decimals extra ≡ None
no_fault kind width decimals extra k w d ek ew ed ex = rw (ek, ew, ed, ex) refl

-- the decimals, and no word too many
pub record HaveDecimals (kind : ℕ) (rest : List ℕ) (decimals : ℕ) : Type 0 where
  pub told : decimals_in (Some kind) (plain_word rest) ≡ Some decimals
  pub end : extra_word (Some kind) rest ≡ []

-- the words after the width
abbrev pub decimals_words : Bool → List ℕ → List (List ℕ)
decimals_words number word = cond number (word ∷ []) []

told_by : (q : Bool) (word : List ℕ) (d : ℕ) → is_empty word ≡ false → byte_in word ≡ Some d → cond (true && not (is_empty word)) (byte_in word) (Some 0) ≡ Some d
told_by q word d some is = rw some is

pub decimals_read : (q : Bool) (kind : ℕ) (rest word : List ℕ) (n d : ℕ) → (kind == NUMBER) ≡ q → AreWords (decimals_words q word) rest → count_in word ≡ Some n
    → byte_in word ≡ Some d → (q ≡ false → d ≡ 0) → HaveDecimals kind rest d
decimals_read true kind rest word n d is are number byte none =
    let f = first_word_of rest word [] are in
    let told : cond (true && not (is_empty (plain_word rest))) (byte_in (plain_word rest)) (Some 0) ≡ Some d =
    told_by true (plain_word rest) d (ap (λ (w : List ℕ). is_empty w) f.first ∙ not_empty word n number) (ap (λ (w : List ℕ). byte_in w) f.first ∙ byte) in
    record {
      told = ap (λ (b : Bool). cond (b && not (is_empty (plain_word rest))) (byte_in (plain_word rest)) (Some 0)) is ∙ told;
      end = ap (λ (b : Bool). cond b (second_plain_word rest) (plain_word rest)) is ∙ no_first_word (after_plain_word rest) f.after;
    }
decimals_read false kind rest word n d is are number byte none = record {
  told = ap (λ (b : Bool). cond (b && not (is_empty (plain_word rest))) (byte_in (plain_word rest)) (Some 0)) is ∙ ap Some (sym (none refl));
  end = ap (λ (b : Bool). cond b (second_plain_word rest) (plain_word rest)) is ∙ no_first_word rest are;
}

-- what a line says that is printed of a field
pub record IsRead (line : List ℕ) (f : Field) : Type 0 where
  pub silent : says_nothing line ≡ false
  pub good : line_fault line ≡ None
  pub field : line_field line ≡ f

-- a line of these words says the field
pub field_read : (line number name kind width : List ℕ) (others : List (List ℕ)) (f : Field) (n : ℕ) → AreWords (number ∷ name ∷ kind ∷ width ∷ others) line
    → count_in number ≡ Some n → name ≡ f.name → kind_named kind ≡ Some f.kind → byte_in width ≡ Some f.width
    → ((rest : List ℕ) → AreWords others rest → HaveDecimals f.kind rest f.decimals) → IsRead line f
field_read line number name kind width others f n are is named kinds wide ends =
    let one = first_word_of line number (name ∷ kind ∷ width ∷ others) are in
    let rest = after_plain_word line in
    let two = first_word_of rest name (kind ∷ width ∷ others) one.after in
    let three = first_word_of (after_plain_word rest) kind (width ∷ others) two.after in
    let four = first_word_of (after_plain_word (after_plain_word rest)) width others three.after in
    let end = ends (after_plain_word (after_plain_word (after_plain_word rest))) four.after in
    let at : after_number line ≡ rest = after_that line number n one.first is in
    let name_is : line_name line ≡ f.name = ap (λ (r : List ℕ). plain_word r) at ∙ (two.first ∙ named) in
    let kind_is : line_kind line ≡ Some f.kind = ap (λ (r : List ℕ). kind_named (second_plain_word r)) at ∙ (ap (λ (w : List ℕ). kind_named w) three.first ∙ kinds) in
    let width_is : line_width line ≡ Some f.width = ap (λ (r : List ℕ). byte_in (third_plain_word r)) at ∙ (ap (λ (w : List ℕ). byte_in w) four.first ∙ wide) in
    let behind : after_width line ≡ after_plain_word (after_plain_word (after_plain_word rest)) = ap (λ (r : List ℕ). after_plain_word (after_plain_word (after_plain_word r))) at in
    let decimals_is : line_decimals line ≡ Some f.decimals =
    ap (λ (k : Option ℕ). decimals_in k (plain_word (after_width line))) kind_is ∙ (ap (λ (r : List ℕ). decimals_in (Some f.kind) (plain_word r)) behind ∙ end.told) in
    let extra_is : line_extra line ≡ [] =
    ap (λ (k : Option ℕ). extra_word k (after_width line)) kind_is ∙ (ap (λ (r : List ℕ). extra_word (Some f.kind) r) behind ∙ end.end) in
    record {
      silent = number_says line number n one.first is;
      good = no_fault (line_kind line) (line_width line) (line_decimals line) (line_extra line) f.kind f.width f.decimals kind_is width_is decimals_is extra_is;
      field = λ i. record {
        name = name_is i;
        kind = unwrap_or (kind_is i) 0;
        width = unwrap_or (width_is i) 0;
        decimals = unwrap_or (decimals_is i) 0;
      };
    }
