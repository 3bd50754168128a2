-- The status row as 23 words, and the way back.
use Rattle.std.specs.Prelude.{◌≡◌, ℕ, ◌+◌, ◌*◌, ◌%◌, ◌<◌, List, length, map, slice_index}
use Rattle.std.specs.List.{AllByRecursion}
use Rattle.ndx_index.specs.Places.{counted}
use Rattle.catalogue_core.specs.declared.opening.TheConstants.{MAX_TABLES}
use Rattle.catalogue_core.specs.declared.status.StatusRow.{StatusRow}
use Rattle.catalogue_core.specs.declared.status.TableStatus.{TableStatus}

-- how many numbers of 32 bits there are
abbrev pub u32_count : ℕ
u32_count = 4294967296

-- the status of the table of a number, from 1, in the words of a row
abbrev pub status_in : List ℕ → ℕ → TableStatus
status_in words number = record {
  holder = slice_index words (1 + 2 * number) % u32_count;
  record_locks = slice_index words (2 + 2 * number) % u32_count;
}

-- the row of 23 words; of a number of 32 bits the low half of its word
abbrev pub row_of_words : List ℕ → StatusRow
row_of_words words = record {
  journal_length = slice_index words 0;
  last_station = slice_index words 1 % u32_count;
  last_answer = slice_index words 2 % u32_count;
  tables = map (status_in words) (counted 1 MAX_TABLES);
}

-- the table's numbers have 32 bits
abbrev pub IsSmallStatus : TableStatus → Type 0
IsSmallStatus t = (t.holder < u32_count) × (t.record_locks < u32_count)

-- A row is read back from its words: it has ten tables, and its numbers, but for the journal's length, have 32 bits.
pub record IsSmallRow (r : StatusRow) : Type 0 where
  pub station : r.last_station < u32_count
  pub answer : r.last_answer < u32_count
  pub ten : length r.tables ≡ MAX_TABLES
  pub each : AllByRecursion IsSmallStatus r.tables
