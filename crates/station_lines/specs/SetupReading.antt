-- What the reader makes of a setup's line. What a line says is defined apart from this, in Setup.
use Rattle.std.specs.Prelude.{◌≡◌, ◌≤◌, ℕ, List, [], ◌∷◌, length, bytes_eq, codes, Option, Some, None, option_map, if◌then◌else◌}
use Rattle.std.specs.List.{list_any}
use Rattle.catalogue_core.specs.Names.{includes_name, with_name}
use Rattle.station_lines.specs.declared.setup.entry.SetupEntry.{SetupEntry}
use Rattle.station_lines.specs.declared.setup.entry.SetupEntry.TheVariants as entry
use Rattle.station_lines.specs.declared.setup.judged.Judged.{Judged}
use Rattle.station_lines.specs.declared.setup.judged.Judged.TheVariants.{Skipped, Bad, Good}
use Rattle.station_lines.specs.declared.setup.said.Said.{Said}
use Rattle.station_lines.specs.declared.setup.said.TheConstants.{MAX_NAME_BYTES}
use Rattle.station_lines.specs.declared.setup.said.Said.TheVariants.{Table, Index, Station}
use Rattle.station_lines.specs.Script.Parts.{capitals}
use Rattle.station_lines.specs.Setup.{short_name, is_table_of, IsSkipped, IsEntry}

-- the entry that is said, its names in capitals
abbrev pub entry_of : Said → SetupEntry
entry_of (Table name dbf dbt) = entry.Table (capitals name.now) dbf.now (option_map (λ path. path.now) dbt)
entry_of (Index table name ndx) = entry.Index (capitals table.now) (capitals name.now) ndx.now
entry_of (Station script) = entry.Station script.now

-- what a line is, by itself
abbrev pub IsJudged : List ℕ → Judged → Type 0
IsJudged line Skipped = IsSkipped line
IsJudged line (Good said) = IsEntry line (entry_of said)
IsJudged line Bad = (IsSkipped line → ⊥) × ((entry : SetupEntry) → IsEntry line entry → ⊥)

-- the names are those of the entries' tables
abbrev pub AreTablesOf : List (List ℕ) → List SetupEntry → Type 0
AreTablesOf names entries = (table : List ℕ) → includes_name names table ≡ list_any (is_table_of table) entries

-- the names with that of a table's entry
abbrev pub with_table_name : List (List ℕ) → SetupEntry → List (List ℕ)
with_table_name names (entry.Table name dbf dbt) = with_name names name
with_table_name names other = names

-- the table of an index has no more bytes than a name can have
abbrev pub HasShortTable : Said → Type 0
HasShortTable (Index table name ndx) = length table.now ≤ MAX_NAME_BYTES
HasShortTable said = Unit {0}

-- the word of a line that has one
abbrev pub only_word : List (List ℕ) → Option (List ℕ)
only_word (word ∷ []) = Some word
only_word words = None

abbrev pub table_entry : Option (List ℕ) → List ℕ → Option (List ℕ) → Option SetupEntry
table_entry (Some name) dbf dbt = Some (entry.Table name dbf dbt)
table_entry None dbf dbt = None

abbrev pub index_entry : Option (List ℕ) → Option (List ℕ) → List ℕ → Option SetupEntry
index_entry (Some table) (Some name) ndx = Some (entry.Index table name ndx)
index_entry table name ndx = None

-- what the words after TABLE say
abbrev pub table_in : List (List ℕ) → Option SetupEntry
table_in (name ∷ dbf ∷ []) = table_entry (short_name name) dbf None
table_in (name ∷ dbf ∷ dbt ∷ []) = table_entry (short_name name) dbf (Some dbt)
table_in words = None

-- what the words after INDEX say
abbrev pub index_in : List (List ℕ) → Option SetupEntry
index_in (table ∷ name ∷ ndx ∷ []) = index_entry (short_name table) (short_name name) ndx
index_in words = None

-- what the words after STATION say
abbrev pub station_entry : List (List ℕ) → Option SetupEntry
station_entry words = option_map entry.Station (only_word words)

-- what the reader makes of a setup's line, by its words
abbrev pub entry_in : List (List ℕ) → Option SetupEntry
entry_in [] = None
entry_in (key ∷ words) =
    if bytes_eq key (codes "TABLE") then table_in words
    else (if bytes_eq key (codes "INDEX") then index_in words
    else (if bytes_eq key (codes "STATION") then station_entry words else None))
