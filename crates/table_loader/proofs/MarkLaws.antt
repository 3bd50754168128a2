-- A byte order mark before a text is passed over.
use Rattle.std.proofs.Common.{◌≡◌, ℕ, true, List, [], ◌∷◌, ◌++◌, inl, inr, refl, ap, sym, ◌∙◌, ◌&&◌, eqb}
use Rattle.std.proofs.lemmas.Bool.{and_parts, eqb-true, cond-false, cases_Bool}
use Rattle.csv.specs.Reading.{is_bom, records, strip_bom}
use Rattle.dbf_image.specs.Table.{Table}
use Rattle.table_loader.specs.declared.form.CsvForm.{CsvForm}
use Rattle.table_loader.specs.CsvText.{separated, separator_byte, utf8_mark, HasNoMark}
use Rattle.table_loader.specs.Loading.{csv_loaded, loaded}

is_marked : (a b c : ℕ) (rest : List ℕ) → is_bom a b c ≡ true → a ∷ b ∷ c ∷ rest ≡ utf8_mark ++ rest
is_marked a b c rest e =
    let p = and_parts (eqb a 0xEF && eqb b 0xBB) (eqb c 0xBF) e in
    let q = and_parts (eqb a 0xEF) (eqb b 0xBB) p.0 in
    let first : a ≡ 0xEF = eqb-true a 0xEF q.0 in
    let second : b ≡ 0xBB = eqb-true b 0xBB q.1 in
    let third : c ≡ 0xBF = eqb-true c 0xBF p.1 in
    cc

-- a text without one stays as it is
no_mark : (text : List ℕ) → HasNoMark text → strip_bom text ≡ text
unfolding strip_bom
no_mark [] none = refl
no_mark (a ∷ []) none = refl
no_mark (a ∷ b ∷ []) none = refl
no_mark (a ∷ b ∷ c ∷ rest) none = elim (cases_Bool (is_bom a b c)) [
  | inl marked ↦ absurd (none rest (is_marked a b c rest marked))
  | inr other ↦ cond-false (is_bom a b c) rest (a ∷ b ∷ c ∷ rest) other
]

-- of one with it the rest is left
stripped : (text : List ℕ) → strip_bom (utf8_mark ++ text) ≡ text
unfolding strip_bom
stripped text = refl

pub passed_over : (form : CsvForm) (table : Table) (text : List ℕ) → HasNoMark text → csv_loaded form table (utf8_mark ++ text) ≡ csv_loaded form table text
passed_over form table text none = ap (λ (left : List ℕ). loaded form table (records (separated (separator_byte form.separator)) left)) (stripped text ∙ sym (no_mark text none))
