-- Values of fields as they are shown.
use Rattle.std.specs.Prelude.{ℕ, Bool, false, ◌==◌, List, codes, if◌then◌else◌, Option, Some, None, Result, Ok}
use Rattle.dbf_fields.specs.declared.field.Field.{Field}
use Rattle.dbf_fields.specs.declared.format.TheConstants.{LOGICAL, DATE}
use Rattle.dbf_fields.specs.Date.{date_shown}
use Rattle.dbf_fields.specs.Logical.{truth}
use Rattle.dbf_image.specs.Table.{row_at, cell_at}
use Rattle.table_core.specs.declared.cursor.Cursor.{Cursor}
use Rattle.table_core.specs.declared.refusal.Refusal.{Refusal}
use Rattle.table_core.specs.Content.{Content}
use Rattle.table_core.specs.Edits.{field_at, target}
use Rattle.table_core.specs.Outcomes.{passed}

-- a logical value
abbrev pub truth_shown : List ℕ → List ℕ
truth_shown cell = if truth cell then codes ".T." else codes ".F."

-- the cell of a field: as it is for characters and numbers, and the text of a memo
abbrev pub shown : Field → List ℕ → List ℕ
shown field cell = if field.kind == LOGICAL then truth_shown cell else (if field.kind == DATE then date_shown cell else cell)

-- what `?` shows of a field in the record at the cursor, or the first refusal
abbrev pub show : Content → Cursor → List ℕ → Result (List ℕ) Refusal
show content cursor name =
    passed (target content cursor name) (λ t. Ok (shown (field_at content t.field) (cell_at content.table t.number t.field)))

-- whether a record is marked; the end is not
abbrev pub is_marked : Content → Option ℕ → Bool
is_marked content None = false
is_marked content (Some number) = (row_at content.table number).deleted

-- whether the record at the cursor is marked
abbrev pub is_deleted : Content → Cursor → Bool
is_deleted content cursor = is_marked content cursor.at
