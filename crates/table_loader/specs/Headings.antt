-- The heading of a text of CSV: which column has the values of a field, and which one the marks.
use Rattle.std.specs.Prelude.{ℕ, ◌+◌, Bool, not, ◌||◌, List, [], ◌∷◌, ◌++◌, length, map, codes, bytes_eq, if◌then◌else◌, position, slice_index_or, Option, Some, None}
use Rattle.std.specs.Char.{to_ascii_uppercase}
use Rattle.std.specs.List.{list_any}
use Rattle.dbf_fields.specs.declared.field.Field.{Field}
use Rattle.dbf_fields.specs.Field.{has_name}
use Rattle.table_loader.specs.declared.fault.CsvFault.{CsvFault}
use Rattle.table_loader.specs.declared.fault.CsvFault.TheVariants.{DoubledName, UnknownName}

-- the name of the column of marks, in small letters, which no field's name has
abbrev pub mark_name : List ℕ
mark_name = codes "deleted"

-- the name that a text of a heading is: that of the marks in small letters alone, that of a field in any
abbrev pub column_name : List ℕ → List ℕ
column_name text = if bytes_eq text mark_name then text else map to_ascii_uppercase text

-- a column has the name
abbrev pub is_named : List (List ℕ) → List ℕ → Bool
is_named names name = list_any (λ n. bytes_eq n name) names

-- the tests of the names after the earlier ones: each is that of a field or of the column of marks, and no earlier one
abbrev pub names_tests : List Field → List (List ℕ) → List (List ℕ) → List (Bool × CsvFault)
names_tests fields earlier [] = []
names_tests fields earlier (name ∷ names) =
    (has_name fields name || bytes_eq mark_name name, UnknownName (length earlier + 1))
    ∷ (not (is_named earlier name), DoubledName (length earlier + 1))
    ∷ names_tests fields (earlier ++ name ∷ []) names

-- the column of a name, where there is one
abbrev pub column_of : List (List ℕ) → List ℕ → Option ℕ
column_of names name = position (λ n. bytes_eq n name) names

-- the columns of the fields, in the fields' order, that of the marks, and how many columns there are
pub record Columns : Type 0 where
  pub of_fields : List (Option ℕ)
  pub of_marks : Option ℕ
  pub count : ℕ

-- the columns by a heading
abbrev pub columns_by : List Field → List (List ℕ) → Columns
columns_by fields names = record {
  of_fields = map (λ f. column_of names f.name) fields;
  of_marks = column_of names mark_name;
  count = length names;
}

-- what a line has in a column; nothing, where there is no column
abbrev pub text_in_column : List (List ℕ) → Option ℕ → List ℕ
text_in_column cells None = []
text_in_column cells (Some column) = slice_index_or cells column []

-- what a line has for a field
abbrev pub text_for : Columns → List (List ℕ) → ℕ → List ℕ
text_for columns cells field = text_in_column cells (slice_index_or columns.of_fields field None)
