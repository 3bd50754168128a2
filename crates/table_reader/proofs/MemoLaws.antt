-- A table without a file of memos has no field of one, as its header tells its fields.
use Rattle.std.proofs.Common.{◌≡◌, ℕ, Bool, true, false, List, [], ◌∷◌, Option, Some, None, inl, inr, refl, ap, sym, ◌∙◌, map}
use Rattle.std.specs.Prelude.{◌||◌, ◌==◌, IsSome}
use Rattle.std.proofs.lemmas.Bool.{and_right, cases_Bool}
use Rattle.dbf_fields.specs.declared.format.TheConstants.{MEMO}
use Rattle.dbf_fields.specs.declared.field.Field.{Field}
use Rattle.dbf_fields.specs.Field.{folded}
use Rattle.dbf_image.specs.DbfText.{IsDbf}
use Rattle.dbf_image.specs.Reading.{fields_of, has_whole_header}
use Rattle.dbf_image.specs.Table.{Table, has_memos}
use Rattle.dbf_image.proofs.DbfLaws.{dbf_is}
use Rattle.table_reader.specs.Memos.{wants_memos}

-- folding a field's name keeps its kind
folded_memos : (fields : List Field) → has_memos (map folded fields) ≡ has_memos fields
folded_memos [] = refl
folded_memos (f ∷ fs) = ap (λ (q : Bool). (f.kind == MEMO) || q) (folded_memos fs)

-- what the tests of such a table say
unwanted : (fields : List Field) → (has_memos (map folded fields) ≡ true → false ≡ true) → has_memos fields ≡ false
unwanted fields some = elim (cases_Bool (has_memos fields)) [
  | inl memos ↦ let both : false ≡ true = some (folded_memos fields ∙ memos) in absurd cc
  | inr none ↦ none
]

-- its fields are those that its header tells
same_fields : (bytes : List ℕ) (dbt : Option (List ℕ)) (table : Table) → IsDbf bytes dbt table → map folded (fields_of bytes) ≡ table.schema
same_fields bytes dbt table d = ap (λ (t : Table). t.schema) (dbf_is bytes dbt table d).1

none_wanted : (bytes : List ℕ) (table : Table) → IsDbf bytes None table → wants_memos bytes ≡ false
none_wanted bytes table d =
    let none : has_memos (fields_of bytes) ≡ false = unwanted (fields_of bytes) (λ e. d.memos (ap has_memos (sym (same_fields bytes None table d)) ∙ e)) in
    and_right (has_whole_header bytes) (has_memos (fields_of bytes)) none

-- where a table was read, no load of its file of memos has failed
pub none_failed : (dbf : List ℕ) (dbt : Option (List ℕ)) (table : Table) (same : Type 0) → IsDbf dbf dbt table → (IsSome dbt → same) → (wants_memos dbf ≡ false → same) → same
none_failed dbf None table same is had unlooked = unlooked (none_wanted dbf table is)
none_failed dbf (Some memos) table same is had unlooked = had refl
