-- What a run has written, read and opened again.
use Rattle.std.specs.Prelude.{◌≡◌, ◌↔◌, ℕ, ◌+◌, ◌-◌, ◌<◌, ◌≤◌, Bool, List, [], ◌∷◌, length, map, slice_get, Option, Some, None, Result, Ok, Err, if◌then◌else◌}
use Rattle.dbf_fields.specs.declared.day.Day.{Day}
use Rattle.dbf_image.specs.Table.{Table, has_memos}
use Rattle.dbf_image.specs.Image.{image}
use Rattle.dbf_image.specs.Blocks.{memo_image}
use Rattle.dbf_image.specs.DbfText.{IsDbf}
use Rattle.key_expr.specs.Expression.{Expression}
use Rattle.key_expr.specs.Rules.{IsKeyText}
use Rattle.ndx_index.specs.declared.ndx_file.NdxFile.{NdxFile}
use Rattle.ndx_index.specs.Header.{IsIndex, trimmed_end}
use Rattle.table_core.specs.Content.{Content, Indexed}
use Rattle.catalogue_core.specs.declared.opening.TheConstants.{MAX_STATIONS}
use Rattle.catalogue_core.specs.declared.opening.OpenFault.{OpenFault}
use Rattle.catalogue_core.specs.declared.opening.OpenFault.TheVariants.{NoMemory}
use Rattle.catalogue_core.specs.declared.source.IndexSource.{IndexSource}
use Rattle.catalogue_core.specs.declared.source.TableSource.{TableSource}
use Rattle.catalogue_core.specs.Opening.{IsFresh, Opening}
use Rattle.catalogue_core.specs.Replay.{History, names_of}
use Rattle.catalogue_core.specs.Tables.{NamedTable}
use Rattle.office_run.specs.declared.closed.ClosedTable.{ClosedTable}
use Rattle.folders.specs.declared.named.NamedFile.{NamedFile}
use Rattle.office_run.specs.ClosedIndex.{IndexContent}
use Rattle.office_run.specs.Closing.{index_bytes}
use Rattle.office_run.specs.declared.counts.CommandCounts.{CommandCounts}
use Rattle.office_run.specs.HandedOver.{end_of, index_of}
use Rattle.office_run.specs.Served.{IsServed}

-- ---- an index

-- the same expression, whose text has no blanks at its end
abbrev pub trimmed_expression : Expression → Expression
trimmed_expression e = record { text = trimmed_end e.text; fields = e.fields; expr = e.expr }

-- the file has the index's expression, for the table's fields, and is fresh for the table
pub record IsFileFor (table : Table) (index : Indexed) (file : NdxFile) : Type 0 where
  pub text : file.expr ≡ trimmed_end index.expr.text
  pub read : IsKeyText table.schema file.expr index.expr.expr
  pub fresh : IsFresh table (trimmed_expression index.expr) file

-- ---- reading what was written

-- the file of memos that is written of a table, where a field is a memo
abbrev pub memos_of : Table → Option (List ℕ)
memos_of table = if has_memos table.schema then Some (memo_image table) else None

-- the files that are written of a table, on any day, are those of this table and of no other
abbrev pub TableReadsBack : Table → Type 0
TableReadsBack table = (year month day : ℕ) (read : Table) → IsDbf (image table year month day) (memos_of table) read ↔ (read ≡ table)

-- whatever is read from the file that is written of an index of this table is a file of this index
abbrev pub IndexReadsBack : Table → Indexed → Type 0
IndexReadsBack table index =
    (file : NdxFile) → IsIndex (index_bytes (index_of table index)) file.expr file.key_len file.pairs.pairs → IsFileFor table index file

-- an index is read from the file that was written of it
pub record IsIndexReadBack (index : IndexContent) (source : IndexSource) : Type 0 where
  pub named : source.name ≡ index.name
  pub read : IsIndex (index_bytes index) source.file.expr source.file.key_len source.file.pairs.pairs

-- indexes are read, one by one, from the files that were written of them
abbrev pub AreIndexesReadBack : List IndexContent → List IndexSource → Type 0
AreIndexesReadBack [] [] = Unit {0}
AreIndexesReadBack (index ∷ indexes) (source ∷ sources) = IsIndexReadBack index source × AreIndexesReadBack indexes sources
AreIndexesReadBack indexes sources = ⊥

-- a table is read from the files that were written of it, on this day, and of its indexes
pub record IsTableReadBack (year month day : ℕ) (closed : ClosedTable) (source : TableSource) : Type 0 where
  pub named : source.name ≡ closed.name
  pub content : IsDbf (image closed.content year month day) (memos_of closed.content) source.content
  pub indexes : AreIndexesReadBack closed.indexes.items source.indexes.items

-- tables and their indexes are read, one by one, from the files that were written of them
abbrev pub AreTablesReadBack : ℕ → ℕ → ℕ → List ClosedTable → List TableSource → Type 0
AreTablesReadBack year month day [] [] = Unit {0}
AreTablesReadBack year month day (closed ∷ tables) (source ∷ sources) = IsTableReadBack year month day closed source × AreTablesReadBack year month day tables sources
AreTablesReadBack year month day tables sources = ⊥

-- ---- opening it

-- the same index, of the expression whose text has no blanks at its end
abbrev pub trimmed_index : Indexed → Indexed
trimmed_index index = record { name = index.name; expr = trimmed_expression index.expr }

-- the same table, with its indexes of such expressions
abbrev pub with_trimmed : Content → Content
with_trimmed content = record { table = content.table; indexes = map trimmed_index content.indexes }

-- the table of this number is opened under its name as it was at the history's end, but for blanks at the ends of its
-- expressions' texts
pub record IsOpenedAsLeft (h : History) (number : ℕ) (table : NamedTable) : Type 0 where
  pub named : slice_get (names_of h.opened) (number - 1) ≡ Some table.name
  pub content : table.content ≡ with_trimmed (end_of h number)

-- all of the catalogue's tables are opened as they were at the history's end, in their order
pub record AreOpenedAsLeft (h : History) (opened : List NamedTable) : Type 0 where
  pub count : length opened ≡ length h.opened.tables
  pub each : (i : ℕ) → i < length h.opened.tables → (table : NamedTable) × (slice_get opened i ≡ Some table) × IsOpenedAsLeft h (i + 1) table

-- What comes of opening the tables that a history left: they are opened as they were, or memory is refused.
abbrev pub IsReopened : History → Result (List NamedTable) OpenFault → Type 0
IsReopened h (Ok opened) = AreOpenedAsLeft h opened
IsReopened h (Err fault) = fault ≡ NoMemory

-- What is read from the files of these tables, on whatever day they were written, opens as the history left them, for any
-- number of stations that a catalogue may have, and whether its indexes are built anew or not.
abbrev pub OpenAsLeft : History → List ClosedTable → Type 0
OpenAsLeft h tables =
    (year month day : ℕ) (sources : List TableSource) → AreTablesReadBack year month day tables sources
    → (reindex : Bool) (stations : ℕ) (outcome : Result (List NamedTable) OpenFault) → 1 ≤ stations → stations ≤ MAX_STATIONS
    → Opening reindex stations sources outcome → IsReopened h outcome

-- what a run of this setup over these files has written opens as the run left it
abbrev pub RunReadsBack : Option (List NamedFile) → List ℕ → Type 0
RunReadsBack files setup =
    (reindex : Bool) (today : Day) (journal : Bool) (written : List NamedFile) (counts : CommandCounts)
    (served : IsServed files setup reindex today journal written counts)
    → OpenAsLeft served.run.history served.tables
