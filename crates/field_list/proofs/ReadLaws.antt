-- The lines of a list of fields, one after another, and that a text says one thing.
use Rattle.std.proofs.Common.{◌≡◌, ℕ, List, [], ◌∷◌, ◌++◌, Bool, true, false, cond, ◌+◌, length, map, Option, Some, None, Result, Ok, Err, refl, ap, ◌∙◌, sym, arith, append_assoc}
use Rattle.std.specs.Prelude.{◌⊎◌}
use mathlib.Core.Logic.{inl, inr}
use Rattle.std.proofs.lemmas.List.{append-nil}
use Rattle.dbf_fields.specs.declared.field.Field.{Field}
use Rattle.dbf_fields.specs.declared.schema.SchemaFault.{SchemaFault}
use Rattle.dbf_fields.specs.BadField.{first_bad_field}
use Rattle.dbf_fields.specs.Field.{folded}
use Rattle.dbf_fields.specs.declared.schema.SchemaFault.TheVariants as schema
use Rattle.dbf_fields.specs.Schema.{schema_refusal, IsSchemaRefusal}
use Rattle.station_lines.specs.Script.Lines.{AreLines}
use Rattle.station_lines.proofs.ScriptLaws.CuttingLaws.{some_lines, one_cutting}
use Rattle.field_list.specs.declared.fault.FieldLineFault.{FieldLineFault}
use Rattle.field_list.specs.declared.fault.FieldListFault.{FieldListFault}
use Rattle.field_list.specs.declared.fault.FieldListFault.TheVariants.{BadLine, NoMemory}
use Rattle.field_list.specs.FieldLine.{says_nothing, line_field}
use Rattle.field_list.specs.FieldList.{line_refusal, this_or_later, first_bad_line, listed_fields, field_line_numbers, schema_fault, schema_or_fault, told_first, said_by_lines, IsFieldList, IsFieldListFault, HasBadFieldLine, IsFirstBadLine, AreListed}

-- ---- the first bad line

-- no line before a place of a text is bad
pub record IsGoodTo (text : List ℕ) (number : ℕ) (rest : List ℕ) : Type 0 where
  pub ahead : (others : List (List ℕ)) → AreLines others rest
      → (lines : List (List ℕ)) × AreLines lines text × (first_bad_line 1 lines ≡ first_bad_line (number + 1) others)

pub none_read : (text : List ℕ) → IsGoodTo text 0 text
none_read text = record { ahead = λ others are. (others, are, refl) }

-- one line more
pub good_more : (text : List ℕ) (number : ℕ) (rest line behind : List ℕ) → IsGoodTo text number rest
    → ((others : List (List ℕ)) → AreLines others behind → AreLines (line ∷ others) rest) → line_refusal line ≡ None → IsGoodTo text (number + 1) behind
good_more text number rest line behind good next none = record {
  ahead = λ others are.
      let a = good.ahead (line ∷ others) (next others are) in
      (a.0, a.1, a.2 ∙ ap (λ (why : Option FieldLineFault). this_or_later (number + 1) why (first_bad_line (number + 1 + 1) others)) none);
}

-- the next line is bad
pub bad_next : (text : List ℕ) (number : ℕ) (rest line behind : List ℕ) (why : FieldLineFault) → IsGoodTo text number rest
    → ((others : List (List ℕ)) → AreLines others behind → AreLines (line ∷ others) rest) → line_refusal line ≡ Some why
    → IsFirstBadLine text (Some (number + 1, why))
bad_next text number rest line behind why good next bad =
    let others = some_lines behind in
    let a = good.ahead (line ∷ others.0) (next others.0 others.1) in
    (a.0, a.1, sym (a.2 ∙ ap (λ (why : Option FieldLineFault). this_or_later (number + 1) why (first_bad_line (number + 1 + 1) others.0)) bad))

-- no line is left
pub none_bad : (text : List ℕ) (number : ℕ) (rest : List ℕ) → IsGoodTo text number rest → rest ≡ [] → IsFirstBadLine text None
none_bad text number rest good end = let a = good.ahead [] end in (a.0, a.1, sym a.2)

-- ---- the fields

-- the fields of the lines before a place of a text, and the numbers of these lines
pub record AreListedTo (text : List ℕ) (number : ℕ) (fields : List Field) (numbers : List ℕ) (rest : List ℕ) : Type 0 where
  pub ahead : (others : List (List ℕ)) → AreLines others rest
      → (lines : List (List ℕ)) × AreLines lines text × (listed_fields lines ≡ fields ++ listed_fields others)
      × (field_line_numbers 1 lines ≡ numbers ++ field_line_numbers (number + 1) others)

pub none_listed : (text : List ℕ) → AreListedTo text 0 [] [] text
none_listed text = record { ahead = λ others are. (others, are, refl, refl) }

one_before : {X : Type 0} (q : Bool) (x : X) (xs : List X) → cond q xs (x ∷ xs) ≡ cond q [] (x ∷ []) ++ xs
one_before true x xs = refl
one_before false x xs = refl

pub listed_more : (text : List ℕ) (number : ℕ) (fields : List Field) (numbers rest line behind : List ℕ) (more : List Field) (others_too : List ℕ)
    → AreListedTo text number fields numbers rest → ((others : List (List ℕ)) → AreLines others behind → AreLines (line ∷ others) rest)
    → more ≡ fields ++ listed_fields (line ∷ []) → others_too ≡ numbers ++ field_line_numbers (number + 1) (line ∷ []) → AreListedTo text (number + 1) more others_too behind
listed_more text number fields numbers rest line behind more others_too listed next more_is others_is = record {
  ahead = λ others are.
      let a = listed.ahead (line ∷ others) (next others are) in (
        a.0,
        a.1,
        a.2 ∙ (ap (λ (fs : List Field). fields ++ fs) (one_before (says_nothing line) (line_field line) (listed_fields others))
            ∙ (sym (append_assoc fields (listed_fields (line ∷ [])) (listed_fields others)) ∙ ap (λ (fs : List Field). fs ++ listed_fields others) (sym more_is))),
        a.3 ∙ (ap (λ (ns : List ℕ). numbers ++ ns) (one_before (says_nothing line) (number + 1) (field_line_numbers (number + 1 + 1) others))
            ∙ (sym (append_assoc numbers (field_line_numbers (number + 1) (line ∷ [])) (field_line_numbers (number + 1 + 1) others)) ∙ ap (λ (ns : List ℕ). ns ++ field_line_numbers (number + 1 + 1) others) (sym others_is))),
      );
}

pub all_listed : (text : List ℕ) (number : ℕ) (fields : List Field) (numbers rest : List ℕ) → AreListedTo text number fields numbers rest → rest ≡ []
    → AreListed text fields numbers
all_listed text number fields numbers rest listed end =
    let a = listed.ahead [] end in
    (a.0, a.1, sym (a.2 ∙ append-nil fields), sym (a.3 ∙ append-nil numbers))

one_longer : (q : Bool) (n : ℕ) (f : Field) (ns : List ℕ) (fs : List Field) → length ns ≡ length fs → length (cond q ns (n ∷ ns)) ≡ length (cond q fs (f ∷ fs))
one_longer true n f ns fs e = e
one_longer false n f ns fs e = omega (arith, e)

same_count : (number : ℕ) (lines : List (List ℕ)) → length (field_line_numbers number lines) ≡ length (listed_fields lines)
same_count number [] = refl
same_count number (line ∷ lines) =
    one_longer (says_nothing line) number (line_field line) (field_line_numbers (number + 1) lines) (listed_fields lines) (same_count (number + 1) lines)

-- there is a number for each field
pub each_numbered : (text : List ℕ) (fields : List Field) (numbers : List ℕ) → AreListed text fields numbers → length numbers ≡ length fields
each_numbered text fields numbers listed =
    ap (λ (ns : List ℕ). length ns) listed.3 ∙ (same_count 1 listed.0 ∙ ap (λ (fs : List Field). length fs) (sym listed.2))

-- ---- what a text says

-- what lines say of which none is bad
pub said_by_good : (lines : List (List ℕ)) (fields : List Field) (numbers : List ℕ) (refusal : Option SchemaFault) → None ≡ first_bad_line 1 lines → fields ≡ listed_fields lines
    → numbers ≡ field_line_numbers 1 lines → schema_refusal fields ≡ refusal → schema_or_fault fields numbers refusal ≡ said_by_lines lines
said_by_good lines fields numbers refusal good are at is =
    ap (λ (why : Option SchemaFault). schema_or_fault fields numbers why) (sym is)
    ∙ (ap (λ (fs : List Field). schema_or_fault fs numbers (schema_refusal fs)) are
    ∙ (ap (λ (ns : List ℕ). schema_or_fault (listed_fields lines) ns (schema_refusal (listed_fields lines))) at
    ∙ ap (λ (bad : Option (ℕ × FieldLineFault)). told_first bad (schema_or_fault (listed_fields lines) (field_line_numbers 1 lines) (schema_refusal (listed_fields lines)))) good))

pub said_by_text : (text : List ℕ) (fields : List Field) (numbers : List ℕ) (refusal : Option SchemaFault) → IsFirstBadLine text None → AreListed text fields numbers
    → schema_refusal fields ≡ refusal → IsFieldList text (schema_or_fault fields numbers refusal)
said_by_text text fields numbers refusal good listed is =
    let same : good.0 ≡ listed.0 = one_cutting text good.0 listed.0 good.1 listed.1 in
    (listed.0, listed.1, said_by_good listed.0 fields numbers refusal (good.2 ∙ ap (λ (ls : List (List ℕ)). first_bad_line 1 ls) same) listed.2 listed.3 is)

-- what a text with a bad line says
pub said_bad : (text : List ℕ) (number : ℕ) (why : FieldLineFault) → IsFirstBadLine text (Some (number, why))
    → IsFieldList text (told_first (Some (number, why)) (Ok []))
said_bad text number why bad =
    (bad.0, bad.1, ap (λ (first : Option (ℕ × FieldLineFault)). told_first first (schema_or_fault (listed_fields bad.0) (field_line_numbers 1 bad.0) (schema_refusal (listed_fields bad.0)))) bad.2)

-- the first bad line is one
pub one_bad : (text : List ℕ) (bad : Option (ℕ × FieldLineFault)) (number : ℕ) (why : FieldLineFault) → IsFirstBadLine text bad → HasBadFieldLine text number why
    → bad ≡ Some (number, why)
one_bad text bad number why first has =
    first.2 ∙ (ap (λ (ls : List (List ℕ)). first_bad_line 1 ls) (one_cutting text first.0 has.0 first.1 has.1) ∙ has.2)

no_bad : {X : Type 0} (x : X) → None ≡ Some x → ⊥
no_bad x e = absurd cc

pub not_bad : (text : List ℕ) (number : ℕ) (why : FieldLineFault) → IsFirstBadLine text None → HasBadFieldLine text number why → ⊥
not_bad text number why first has = no_bad (number, why) (one_bad text None number why first has)

-- the bad line that is told is the first one
pub bad_told : (text : List ℕ) (told : ℕ) (reason : FieldLineFault) (number : ℕ) (why : FieldLineFault) → IsFirstBadLine text (Some (told, reason)) → HasBadFieldLine text number why
    → BadLine told reason ≡ BadLine number why
bad_told text told reason number why first has =
    let one = one_bad text (Some (told, reason)) number why first has in
    let same : (told, reason) ≡ (number, why) = cc in
    ap (λ (bad : ℕ × FieldLineFault). BadLine bad.0 bad.1) same

-- ---- fields that are no schema

no_memory_or_not : (fault : SchemaFault) → (fault ≡ schema.NoMemory) ⊎ (fault ≡ schema.NoMemory → ⊥)
no_memory_or_not schema.NoMemory = inl refl
no_memory_or_not schema.BadFieldCount = inr (λ e. absurd cc)
no_memory_or_not schema.BadName = inr (λ e. absurd cc)
no_memory_or_not schema.DuplicateName = inr (λ e. absurd cc)
no_memory_or_not schema.BadKind = inr (λ e. absurd cc)
no_memory_or_not schema.BadWidth = inr (λ e. absurd cc)
no_memory_or_not schema.RecordTooLong = inr (λ e. absurd cc)

told_by : (text : List ℕ) (fields seen : List Field) (numbers : List ℕ) (fault : SchemaFault) (told : FieldListFault) → IsFirstBadLine text None → AreListed text fields numbers
    → seen ≡ fields → IsSchemaRefusal fault seen → (fault ≡ schema.NoMemory → told ≡ NoMemory) → (fault ≡ schema.NoMemory) ⊎ (fault ≡ schema.NoMemory → ⊥)
    → ((fault ≡ schema.NoMemory → ⊥) → told ≡ schema_fault numbers (first_bad_field fields)) → IsFieldListFault text told
told_by text fields seen numbers fault told good listed same refused memory (inl none) other = inl (memory none)
told_by text fields seen numbers fault told good listed same (inl none) memory (inr some) other = absurd (some none)
told_by text fields seen numbers fault told good listed same (inr is) memory (inr some) other =
    let said = said_by_text text fields numbers (Some fault) good listed (ap (λ (fs : List Field). schema_refusal fs) (sym same) ∙ is) in
    inr (said.0, said.1, ap Err (other some) ∙ said.2)

-- what is told where the schema is refused
pub told_fault : (text : List ℕ) (fields seen : List Field) (numbers : List ℕ) (fault : SchemaFault) (told : FieldListFault) → IsFirstBadLine text None → AreListed text fields numbers
    → seen ≡ fields → IsSchemaRefusal fault seen → (fault ≡ schema.NoMemory → told ≡ NoMemory)
    → ((fault ≡ schema.NoMemory → ⊥) → told ≡ schema_fault numbers (first_bad_field fields)) → IsFieldListFault text told
told_fault text fields seen numbers fault told good listed same refused memory other =
    told_by text fields seen numbers fault told good listed same refused memory (no_memory_or_not fault) other

-- what is told where it is not
pub told_schema : (text : List ℕ) (fields seen : List Field) (numbers : List ℕ) (made : List Field) → IsFirstBadLine text None → AreListed text fields numbers
    → seen ≡ fields → schema_refusal seen ≡ None → made ≡ map folded seen → IsFieldList text (Ok made)
told_schema text fields seen numbers made good listed same accepted is =
    let said = said_by_text text fields numbers None good listed (ap (λ (fs : List Field). schema_refusal fs) (sym same) ∙ accepted) in
    (said.0, said.1, ap Ok (is ∙ ap (λ (fs : List Field). map folded fs) same) ∙ said.2)

pub some_said : (text : List ℕ) → (said : Result (List Field) FieldListFault) × IsFieldList text said
some_said text = let lines = some_lines text in (said_by_lines lines.0, (lines.0, lines.1, refl))

pub one_said : (text : List ℕ) (a b : Result (List Field) FieldListFault) → IsFieldList text a → IsFieldList text b → a ≡ b
one_said text a b x y = x.2 ∙ (ap (λ (ls : List (List ℕ)). said_by_lines ls) (one_cutting text x.0 y.0 x.1 y.1) ∙ sym y.2)
