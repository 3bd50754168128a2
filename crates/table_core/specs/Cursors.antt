-- Where a station is in a table.
use Rattle.std.specs.Prelude.{ℕ, ◌≤◌, Option, Some, None, length}
use Rattle.table_core.specs.declared.cursor.Cursor.{Cursor}
use Rattle.table_core.specs.Content.{Content, record_count}

-- a record of the table, or its end
abbrev pub IsCursorPlace : Content → Option ℕ → Type 0
IsCursorPlace content None = Unit {0}
IsCursorPlace content (Some number) = (1 ≤ number) × (number ≤ record_count content)

-- a cursor of the table: at one of its records or at the end, in one of its orders
pub record IsCursor (content : Content) (cursor : Cursor) : Type 0 where
  pub place : IsCursorPlace content cursor.at
  pub order : cursor.order ≤ length content.indexes
