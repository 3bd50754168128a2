-- Nothing has changed exactly where the tables are the same.
use Rattle.std.proofs.Common.{◌≡◌, ℕ, zero, suc, ◌+◌, ◌-◌, ◌<◌, ◌≤◌, Bool, true, false, cond, max, List, [], ◌∷◌, ◌++◌, length, get_or, Result, Ok, Err, refl, sym, ap, ◌∙◌, arith, subst}
use Rattle.std.specs.Prelude.{◌↔◌, IfOk, flat_map, nat_le}
use Rattle.std.specs.List.{range_with_len, AllByRecursion}
use Rattle.std.proofs.lemmas.Bool.Decides.{nat_tests}
use Rattle.std.proofs.lemmas.List.{ext_get_or, nil_from_length}
use Rattle.std.proofs.lemmas.List.FromFn.{get_or-range_with_len, length-range_with_len}
use Rattle.dbf_fields.specs.declared.field.Field.{Field}
use Rattle.dbf_fields.specs.Schema.{IsSchema}
use Rattle.dbf_image.specs.Table.{Row, Table, IsRow, IsTable, blank_row, row_at}
use Rattle.table_diff.specs.Changes.{Change, record_added, record_removed, all_numbers, changes, field_changes, in_both, number_changes, record_changes, row_changes}
use Rattle.table_diff.proofs.FieldLaws.{fields_same}
use Rattle.table_diff.proofs.FieldLaws as field_laws
use Rattle.table_diff.proofs.RowLaws.{both_none, none_at, row_same, same_unchanged}

has_both : (a b : Bool) (cs : List Change) (c d : Change) → cond a (cond b cs (c ∷ [])) (d ∷ []) ≡ [] → (a ≡ true) × (b ≡ true) × (cs ≡ [])
has_both true true cs c d e = (refl, refl, e)
has_both true false cs c d e = absurd cc
has_both false b cs c d e = absurd cc

at_most : (m n : ℕ) → nat_le m n ≡ true → m ≤ n
at_most m n e = grind (arith, nat_tests, e)

is_at_most : (m n : ℕ) → m ≤ n → nat_le m n ≡ true
is_at_most m n h = grind (arith, nat_tests, h)

-- both tables have a record of which nothing has changed
pub record Unchanged (old new : Table) (number : ℕ) : Type 0 where
  pub new_has : number ≤ length new.rows
  pub old_has : number ≤ length old.rows
  pub none : row_changes old new (in_both number) ≡ []

number_unchanged : (old new : Table) (number : ℕ) → number_changes old new number ≡ [] → Unchanged old new number
number_unchanged old new number e =
    let parts = has_both (nat_le number (length new.rows)) (nat_le number (length old.rows)) (row_changes old new (in_both number)) (record_added number new.schema (row_at new number)) (record_removed number old.schema (row_at old number)) e in
    record { new_has = at_most number (length new.rows) parts.0; old_has = at_most number (length old.rows) parts.1; none = parts.2 }

each_unchanged : (old new : Table) (k : ℕ) → record_changes old new ≡ [] → k < max (length old.rows) (length new.rows) → Unchanged old new (1 + k)
each_unchanged old new k e lt =
    let most : ℕ = max (length old.rows) (length new.rows) in
    let many : length (range_with_len 1 most) ≡ most = length-range_with_len 1 most in
    let inside : k < length (range_with_len 1 most) = omega (arith, lt, many) in
    let none = none_at (number_changes old new) (range_with_len 1 most) k 0 e inside in
    number_unchanged old new (1 + k) (subst (λ (n : ℕ). number_changes old new n ≡ []) (get_or-range_with_len 1 most k 0 lt) none)

lengths_by : (old new : Table) (most : ℕ) → most ≡ max (length old.rows) (length new.rows) → record_changes old new ≡ [] → length old.rows ≡ length new.rows
lengths_by old new zero at e = omega (arith, at)
lengths_by old new (suc k) at e =
    let lt : k < max (length old.rows) (length new.rows) = omega (arith, at) in
    let last = each_unchanged old new k e lt in
    omega (arith, at, last.new_has, last.old_has)

as_many : (old new : Table) → record_changes old new ≡ [] → length old.rows ≡ length new.rows
as_many old new e = lengths_by old new (max (length old.rows) (length new.rows)) refl e

pub row_fits : (fields : List Field) (rows : List Row) (k : ℕ) (d : Row) → AllByRecursion (IsRow fields) rows → k < length rows → IsRow fields (get_or rows k d)
row_fits fields [] k d h lt = absurd (omega (arith, lt))
row_fits fields (r ∷ rs) zero d h lt = h.0
row_fits fields (r ∷ rs) (suc k) d h lt = row_fits fields rs k d h.1 (omega (arith, lt))

before_next : (rows : List Row) (k : ℕ) (d : Row) → get_or rows ((1 + k) - 1) d ≡ get_or rows k d
before_next rows k d = let at : (1 + k) - 1 ≡ k = omega arith in ap (λ (n : ℕ). get_or rows n d) at

-- tables of the same fields, of whose records nothing has changed, have the same records
rows_same : (fields : List Field) (olds news : List Row) → IsSchema fields → AllByRecursion (IsRow fields) olds → AllByRecursion (IsRow fields) news
    → record_changes (record { schema = fields; rows = olds }) (record { schema = fields; rows = news }) ≡ [] → olds ≡ news
rows_same fields olds news is own other e =
    let old : Table = record { schema = fields; rows = olds } in
    let new : Table = record { schema = fields; rows = news } in
    let many : length olds ≡ length news = as_many old new e in
    let blank : Row = blank_row fields in
    ext_get_or {A = Row} blank olds news many (λ k lt.
    let below : k < max (length olds) (length news) = omega (arith, lt) in
    let in_new : k < length news = omega (arith, lt, many) in
    let here = each_unchanged old new k e below in
    let fits = subst (λ (r : Row). IsRow fields r) (sym (before_next olds k blank)) (row_fits fields olds k blank own lt) in
    let fit = subst (λ (r : Row). IsRow fields r) (sym (before_next news k blank)) (row_fits fields news k blank other in_new) in
    sym (before_next olds k blank) ∙ row_same old new (in_both (1 + k)) is refl fits fit here.none ∙ before_next news k blank)

tables_by : (s t : List Field) (olds news : List Row) → s ≡ t → IsSchema s → AllByRecursion (IsRow s) olds → AllByRecursion (IsRow t) news
    → record_changes (record { schema = s; rows = olds }) (record { schema = t; rows = news }) ≡ [] → olds ≡ news
tables_by s t olds news same is own other e =
    let claim = λ (u : List Field). AllByRecursion (IsRow u) news → record_changes (record { schema = s; rows = olds }) (record { schema = u; rows = news }) ≡ [] → olds ≡ news in
    subst claim same (λ fits none. rows_same s olds news is own fits none) other e

same_table : (old new : Table) → old.schema ≡ new.schema → old.rows ≡ new.rows → old ≡ new
same_table old new fields rows = λ i. record { schema = fields i; rows = rows i }

pub unchanged_same : (old new : Table) → IsTable old → IsTable new → changes old new ≡ [] → old ≡ new
unchanged_same old new is are e =
    let parts = both_none (field_changes old.schema new.schema) (record_changes old new) e in
    let fields : old.schema ≡ new.schema = fields_same old.schema new.schema parts.0 in
    same_table old new fields (tables_by old.schema new.schema old.rows new.rows fields is.fields is.fit are.fit parts.1)

none_of : (f : ℕ → List Change) (xs : List ℕ) → AllByRecursion (λ x. f x ≡ []) xs → flat_map f xs ≡ []
none_of f [] h = refl
none_of f (x ∷ xs) h = ap (λ (cs : List Change). cs ++ flat_map f xs) h.0 ∙ none_of f xs h.1

same_number : (table : Table) (number : ℕ) → IsSchema table.schema → number ≤ length table.rows → number_changes table table number ≡ []
same_number table number is inside =
    rw (is_at_most number (length table.rows) inside) (same_unchanged table table (in_both number) is refl refl)

counted_none : (table : Table) (from count : ℕ) → IsSchema table.schema → from + count ≤ 1 + length table.rows → AllByRecursion (λ x. number_changes table table x ≡ []) (range_with_len from count)
counted_none table from zero is h = tt
counted_none table from (suc count) is h =
    (same_number table from is (omega (arith, h)), counted_none table (from + 1) count is (omega (arith, h)))

pub same_unchanged_table : (table : Table) → IsTable table → changes table table ≡ []
same_unchanged_table table is =
    let most : 1 + max (length table.rows) (length table.rows) ≤ 1 + length table.rows = omega arith in
    let none = none_of (number_changes table table) (all_numbers table table) (counted_none table 1 (max (length table.rows) (length table.rows)) is.fields most) in
    ap (λ (cs : List Change). cs ++ record_changes table table) (field_laws.same_unchanged table.schema) ∙ none

pub unchanged_by : (old new : Table) → IsTable old → old ≡ new → changes old new ≡ []
unchanged_by old new is e = subst (λ (t : Table). changes old t ≡ []) e (same_unchanged_table old is)

-- so the count of changes is 0 exactly where the tables are the same
pub counted : {E : Type 0} (old new : Table) (r : Result ℕ E) → IsTable old → IsTable new → IfOk r (λ n. n ≡ length (changes old new)) → IfOk r (λ n. (n ≡ 0) ↔ (old ≡ new))
counted old new (Ok n) is are e = (
  λ none. unchanged_same old new is are (nil_from_length (changes old new) (sym e ∙ none)),
  λ same. e ∙ ap (length {A = Change}) (unchanged_by old new is same),
)
counted old new (Err fault) is are e = tt
