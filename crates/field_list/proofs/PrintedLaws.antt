-- What is printed of the fields of a table is read as these fields.
use Rattle.std.proofs.Common.{◌≡◌, ℕ, zero, suc, List, [], ◌∷◌, ◌++◌, Bool, true, false, not, cond, ◌==◌, ◌+◌, ◌-◌, ◌<◌, ◌≤◌, ◌^◌, length, map, Option, Some, None, Ok, refl, ap, ◌∙◌, sym, arith, append_assoc, slice_index}
use Rattle.std.specs.Prelude.{codes}
use Rattle.std.specs.List.{list_all}
use Rattle.std.specs.Char.{is_ascii_digit}
use Rattle.std.specs.Int.{is_in_range}
use Rattle.std.specs.Fmt.{decimal}
use Rattle.std.proofs.lemmas.Bool.{and_parts}
use Rattle.std.proofs.lemmas.Bool.Decides.{nat_tests}
use Rattle.dbf_fields.specs.declared.day.Day.{Day}
use Rattle.dbf_fields.specs.declared.field.Field.{Field}
use Rattle.dbf_fields.specs.declared.format.TheConstants.{MAX_FIELDS, NUMBER, SLASH}
use Rattle.dbf_fields.specs.Digits.{last_digits}
use Rattle.dbf_fields.specs.Faults.{first_fault}
use Rattle.dbf_fields.specs.Field.{folded, has_name, has_width, is_kind}
use Rattle.dbf_fields.specs.Name.{is_name}
use Rattle.dbf_fields.specs.Schema.{tests_from, IsSchema}
use Rattle.dbf_fields.proofs.ReadBack.{last_digits_digits}
use Rattle.dbf_fields.proofs.SchemaLaws.{passed, schema_count}
use Rattle.dbf_image.specs.Table.{Table, IsTable}
use Rattle.table_text.specs.Structure.{kind_word, date_words, date_line, field_line, field_lines, fields_text, kind_and_width, numbered_name, structure_heading}
use Rattle.station_lines.specs.declared.script.format.TheConstants.{LF}
use Rattle.station_lines.specs.Script.Lines.{lf, AreLines, BeginsWithLine}
use Rattle.station_lines.proofs.ScriptLaws.PartLaws.{all_both, weaker}
use Rattle.station_lines.proofs.CommandLaws.NumberLaws.{count_again}
use Rattle.field_list.specs.declared.fault.FieldLineFault.{FieldLineFault}
use Rattle.field_list.specs.FieldLine.{says_nothing, line_fault, line_field}
use Rattle.field_list.specs.FieldList.{line_refusal, this_or_later, first_bad_line, listed_fields, field_line_numbers, IsFieldList}
use Rattle.field_list.proofs.LayoutLaws.{is_shown, number_word, number_shown, name_word, name_shown, kind_again, byte_again, line_words, line_shown}
use Rattle.field_list.proofs.ReadLaws.{said_by_good}
use Rattle.field_list.proofs.WordLaws.{IsRead, decimals_words, field_read, decimals_read}

-- ---- lines without control bytes

no_lf : (b : ℕ) → is_shown b ≡ true → not (b == LF) ≡ true
no_lf b h = grind (arith, nat_tests)

no_cr : (bs : List ℕ) (i : ℕ) → list_all is_shown bs ≡ true → slice_index bs i ≡ 13 → ⊥
no_cr [] i h e = absurd (omega (arith, e))
no_cr (b ∷ bs) zero h e = let p = and_parts (is_shown b) (list_all is_shown bs) h in absurd (grind (arith, nat_tests, p.0, e))
no_cr (b ∷ bs) (suc i) h e = no_cr bs i (and_parts (is_shown b) (list_all is_shown bs) h).1 e

line_first : (text line rest : List ℕ) → text ≡ line ++ (LF ∷ rest) → list_all is_shown line ≡ true → BeginsWithLine text line rest
line_first text line rest is shown = record {
  ending = lf;
  joined = is;
  one_line = weaker is_shown (λ b. not (b == LF)) no_lf line shown;
  ended = no_cr line (length line - 1) shown;
}

line_joined : (a b rest : List ℕ) → (a ++ (b ++ LF ∷ [])) ++ rest ≡ (a ++ b) ++ (LF ∷ rest)
line_joined a b rest = simp append_assoc

-- ---- the fields of a schema

-- what is true of each field of a schema
pub record IsGoodField (f : Field) : Type 0 where
  pub name : is_name f.name ≡ true
  pub kind : is_kind f.kind ≡ true
  pub width : has_width f ≡ true
  pub decimals : cond (f.kind == NUMBER) f.decimals 0 ≡ f.decimals

abbrev AreGoodFields : List Field → Type 0
AreGoodFields [] = Unit {0}
AreGoodFields (f ∷ fs) = IsGoodField f × AreGoodFields fs

good_fields : (earlier fs : List Field) → first_fault (tests_from earlier fs) ≡ None → map folded fs ≡ fs → AreGoodFields fs
good_fields earlier [] h kept = tt
good_fields earlier (f ∷ fs) h kept =
    let a = passed (is_name f.name) _ _ h in
    let b = passed (not (has_name earlier (folded f).name)) _ _ a.1 in
    let k = passed (is_kind f.kind) _ _ b.1 in
    let w = passed (has_width f) _ _ k.1 in
    let same : folded f ≡ f = cc in
    let others : map folded fs ≡ fs = cc in
    (record { name = a.0; kind = k.0; width = w.0; decimals = ap (λ (g : Field). g.decimals) same }, good_fields (earlier ++ folded f ∷ []) fs w.1 others)

schema_fields : (fs : List Field) → IsSchema fs → AreGoodFields fs
schema_fields fs s = good_fields [] fs (passed (is_in_range 1 MAX_FIELDS (length fs)) _ _ s.accepted).1 s.kept

narrow : (f : Field) → has_width f ≡ true → f.width ≤ 255
narrow f h = grind (arith, nat_tests)

few_decimals : (f : Field) → has_width f ≡ true → cond (f.kind == NUMBER) f.decimals 0 ≡ f.decimals → f.decimals ≤ 255
few_decimals f h e = grind (arith, nat_tests)

no_decimals : (q : Bool) (d : ℕ) → cond q d 0 ≡ d → q ≡ false → d ≡ 0
no_decimals q d e none = sym e ∙ ap (λ (b : Bool). cond b d 0) none

-- ---- the lines of the fields

abbrev bare_line : ℕ → Field → List ℕ
bare_line number f = numbered_name number f ++ kind_and_width f

abbrev bare_lines : ℕ → List Field → List (List ℕ)
bare_lines number [] = []
bare_lines number (f ∷ fs) = bare_line number f ∷ bare_lines (number + 1) fs

abbrev AreRead : ℕ → List Field → Type 0
AreRead number [] = Unit {0}
AreRead number (f ∷ fs) = IsRead (bare_line number f) f × (list_all is_shown (bare_line number f) ≡ true) × AreRead (number + 1) fs

one_read : (number : ℕ) (f : Field) → number < 2 ^ 32 → IsGoodField f → IsRead (bare_line number f) f
one_read number f small good =
    let wide = narrow f good.width in
    let few = few_decimals f good.width good.decimals in
    let words = line_words number f (number_word number (omega arith)) (name_word f.name good.name) (number_word f.width (omega (arith, wide))) (number_word f.decimals (omega (arith, few))) in
    field_read (bare_line number f) (decimal number) f.name (kind_word f.kind) (decimal f.width) (decimals_words (f.kind == NUMBER) (decimal f.decimals)) f number words (count_again number (omega arith)) refl (kind_again f.kind good.kind) (byte_again f.width wide)
    (λ rest are. decimals_read (f.kind == NUMBER) f.kind rest (decimal f.decimals) f.decimals f.decimals refl are (count_again f.decimals (omega (arith, few))) (byte_again f.decimals few)
    (no_decimals (f.kind == NUMBER) f.decimals good.decimals))

one_shown : (number : ℕ) (f : Field) → number < 2 ^ 32 → IsGoodField f → list_all is_shown (bare_line number f) ≡ true
one_shown number f small good =
    let wide = narrow f good.width in
    let few = few_decimals f good.width good.decimals in
    line_shown number f (number_shown number (omega arith)) (name_shown f.name good.name) (number_shown f.width (omega (arith, wide))) (number_shown f.decimals (omega (arith, few)))

all_read : (number : ℕ) (fs : List Field) → number + length fs < 2 ^ 32 → AreGoodFields fs → AreRead number fs
all_read number [] small good = tt
all_read number (f ∷ fs) small good =
    (one_read number f (omega arith) good.0, one_shown number f (omega arith) good.0, all_read (number + 1) fs (omega arith) good.1)

fields_lines : (number : ℕ) (fs : List Field) → AreRead number fs → AreLines (bare_lines number fs) (field_lines number fs)
fields_lines number [] read = refl
fields_lines number (f ∷ fs) read = (
  field_lines (number + 1) fs,
  line_first (field_line number f ++ field_lines (number + 1) fs) (bare_line number f) (field_lines (number + 1) fs) (line_joined (numbered_name number f) (kind_and_width f) (field_lines (number + 1) fs)) read.1,
  fields_lines (number + 1) fs read.2,
)

fields_listed : (number : ℕ) (fs : List Field) → AreRead number fs → listed_fields (bare_lines number fs) ≡ fs
fields_listed number [] read = refl
fields_listed number (f ∷ fs) read =
    let line = bare_line number f in
    let others = listed_fields (bare_lines (number + 1) fs) in
    ap (λ (q : Bool). cond q others (line_field line ∷ others)) read.0.silent
    ∙ (ap (λ (g : Field). g ∷ others) read.0.field ∙ ap (λ (gs : List Field). f ∷ gs) (fields_listed (number + 1) fs read.2))

fine_line : (line : List ℕ) (f : Field) → IsRead line f → line_refusal line ≡ None
fine_line line f read = ap (λ (q : Bool). cond q None (line_fault line)) read.silent ∙ read.good

none_refused : (n number : ℕ) (fs : List Field) → AreRead number fs → first_bad_line n (bare_lines number fs) ≡ None
none_refused n number [] read = refl
none_refused n number (f ∷ fs) read =
    ap (λ (why : Option FieldLineFault). this_or_later n why (first_bad_line (n + 1) (bare_lines (number + 1) fs))) (fine_line (bare_line number f) f read.0)
    ∙ none_refused (n + 1) (number + 1) fs read.2

-- ---- the lines before them

silent_fine : (n : ℕ) (line : List ℕ) (lines : List (List ℕ)) → says_nothing line ≡ true → first_bad_line n (line ∷ lines) ≡ first_bad_line (n + 1) lines
silent_fine n line lines silent =
    ap (λ (q : Bool). this_or_later n (cond q None (line_fault line)) (first_bad_line (n + 1) lines)) silent

silent_unlisted : (line : List ℕ) (lines : List (List ℕ)) → says_nothing line ≡ true → listed_fields (line ∷ lines) ≡ listed_fields lines
silent_unlisted line lines silent = ap (λ (q : Bool). cond q (listed_fields lines) (line_field line ∷ listed_fields lines)) silent

digits_shown : (k n : ℕ) → list_all is_shown (last_digits k n) ≡ true
digits_shown k n = weaker is_ascii_digit is_shown (λ d h. grind (arith, nat_tests)) (last_digits k n) (last_digits_digits k n)

date_shown : (date : Option Day) → list_all is_shown (date_words date) ≡ true
date_shown None = refl
date_shown (Some day) =
    all_both is_shown (last_digits 2 day.month) (SLASH ∷ (last_digits 2 day.day ++ (SLASH ∷ last_digits 2 day.year))) (digits_shown 2 day.month)
    (all_both is_shown (last_digits 2 day.day) (SLASH ∷ last_digits 2 day.year) (digits_shown 2 day.day) (digits_shown 2 day.year))

abbrev count_words : ℕ → List ℕ
count_words count = codes "Records: " ++ decimal count

abbrev date_told : Option Day → List ℕ
date_told date = codes "Last change: " ++ date_words date

count_silent : (count : ℕ) → says_nothing (count_words count) ≡ true
count_silent count = refl

date_silent : (date : Option Day) → says_nothing (date_told date) ≡ true
date_silent date = refl

heading_silent : says_nothing structure_heading ≡ true
heading_silent = refl

-- ---- all of them

abbrev all_lines : Table → Option Day → List (List ℕ)
all_lines table date = count_words (length table.rows) ∷ date_told date ∷ structure_heading ∷ bare_lines 1 table.schema

text_lines : (table : Table) (date : Option Day) → length table.rows < 2 ^ 64 → AreRead 1 table.schema → AreLines (all_lines table date) (fields_text table date)
text_lines table date few read =
    let fields = field_lines 1 table.schema in
    let third = structure_heading ++ (LF ∷ fields) in
    let second = date_line date ++ third in (
      second,
      line_first (fields_text table date) (count_words (length table.rows)) second (line_joined (codes "Records: ") (decimal (length table.rows)) second)
          (all_both is_shown (codes "Records: ") (decimal (length table.rows)) refl (number_shown (length table.rows) few)),
      (
        third,
        line_first second (date_told date) third (line_joined (codes "Last change: ") (date_words date) third) (all_both is_shown (codes "Last change: ") (date_words date) refl (date_shown date)),
        (fields, line_first third structure_heading fields refl refl, fields_lines 1 table.schema read),
      ),
    )

text_fields : (table : Table) (date : Option Day) → AreRead 1 table.schema → listed_fields (all_lines table date) ≡ table.schema
text_fields table date read =
    let third = structure_heading ∷ bare_lines 1 table.schema in
    let second = date_told date ∷ third in
    silent_unlisted (count_words (length table.rows)) second (count_silent (length table.rows))
    ∙ (silent_unlisted (date_told date) third (date_silent date)
    ∙ (silent_unlisted structure_heading (bare_lines 1 table.schema) heading_silent ∙ fields_listed 1 table.schema read))

text_fine : (table : Table) (date : Option Day) → AreRead 1 table.schema → first_bad_line 1 (all_lines table date) ≡ None
text_fine table date read =
    let third = structure_heading ∷ bare_lines 1 table.schema in
    let second = date_told date ∷ third in
    silent_fine 1 (count_words (length table.rows)) second (count_silent (length table.rows))
    ∙ (silent_fine 2 (date_told date) third (date_silent date)
    ∙ (silent_fine 3 structure_heading (bare_lines 1 table.schema) heading_silent ∙ none_refused 4 1 table.schema read))

-- what is printed of the fields of a table is a list of these fields
pub printed_read : (table : Table) (date : Option Day) → IsTable table → IsFieldList (fields_text table date) (Ok table.schema)
printed_read table date is =
    let fs = table.schema in
    let most = schema_count fs is.fields in
    let rows = is.count_bounded in
    let read = all_read 1 fs (omega (arith, most)) (schema_fields fs is.fields) in
    let lines = all_lines table date in
    let said = said_by_good lines fs (field_line_numbers 1 lines) None (sym (text_fine table date read)) (sym (text_fields table date read)) refl is.fields.accepted in
    (lines, text_lines table date (omega (arith, rows)) read, ap Ok (sym is.fields.kept) ∙ said)
