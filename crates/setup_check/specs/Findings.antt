-- What is found at the entries of a setup.
use Rattle.std.specs.Prelude.{◌≡◌, ℕ, List, [], ◌∷◌, ◌++◌, length, slice_get, count_by, Option, Some, None, Result, Ok, Err}
use Rattle.std.specs.List.{position}
use Rattle.dbf_image.specs.Growing.{Growing}
use Rattle.dbf_image.specs.Table.{Table as Content}
use Rattle.ndx_index.specs.declared.ndx_file.NdxFile.{NdxFile}
use Rattle.folders.specs.declared.named.NamedFile.{NamedFile}
use Rattle.folders.specs.Files.{IsFileOf}
use Rattle.station_lines.specs.declared.setup.entry.SetupEntry.{SetupEntry}
use Rattle.station_lines.specs.declared.setup.entry.SetupEntry.TheVariants.{Table, Index, Station}
use Rattle.station_lines.specs.Setup.{is_table_of}
use Rattle.setup_files.specs.declared.content.EntryContent.{EntryContent}
use Rattle.setup_files.specs.declared.content.EntryContent.TheVariants as content
use Rattle.setup_files.specs.declared.fault.EntryFault.{EntryFault}
use Rattle.setup_files.specs.EntryFiles.{IsIndexOfFile, IsRefusalOf, IsTableOfFiles}
use Rattle.setup_check.specs.declared.finding.Finding.{Finding}
use Rattle.setup_check.specs.declared.finding.Finding.TheVariants as found
use Rattle.setup_check.specs.declared.finding.IndexFinding.{IndexFinding}
use Rattle.setup_check.specs.declared.finding.TableCounts.{TableCounts}
use Rattle.setup_check.specs.declared.freshness.IndexState.{IndexState}
use Rattle.setup_check.specs.declared.freshness.IndexState.TheVariants.{NoTable as HasNoTable}
use Rattle.setup_check.specs.Freshness.{IsIndexState}

-- all records, and those that are marked as deleted
pub record IsCounts (table : Content) (counts : TableCounts) : Type 0 where
  pub all : counts.records ≡ length table.rows
  pub marked : counts.marked ≡ count_by (λ row. row.deleted) table.rows

-- where the first entry of a table of this name stands
abbrev pub first_table : List ℕ → List SetupEntry → Option ℕ
first_table name entries = position (is_table_of name) entries

-- the table that was read of an entry, where a table was
abbrev pub table_in : Result EntryContent EntryFault → Option Growing
table_in (Ok (content.Table records)) = Some records
table_in read = None

-- the files of a table's entry are those of this table
abbrev pub IsTableOf : Option (List NamedFile) → SetupEntry → Content → Type 0
IsTableOf files (Table name dbf dbt) table = IsTableOfFiles files dbf dbt table
IsTableOf files (Index own name ndx) table = ⊥
IsTableOf files (Station script) table = ⊥

-- the table that the first entry of this name names
pub record IsNamed (files : Option (List NamedFile)) (entries : List SetupEntry) (name : List ℕ) (table : Content) : Type 0 where
  pub place : ℕ
  pub entry : SetupEntry
  pub first : first_table name entries ≡ Some place
  pub there : slice_get entries place ≡ Some entry
  pub table_of : IsTableOf files entry table

-- there is no such entry of a table, or what was found at it is a refusal
abbrev pub IsRefusedAt : List Finding → Option ℕ → Type 0
IsRefusedAt findings None = Unit {0}
IsRefusedAt findings (Some place) = (fault : EntryFault) × (slice_get findings place ≡ Some (found.Refused fault))

-- what an index's file is beside the first table of its name among the entries before its own, by what was found at them
abbrev pub IsBeside : Option (List NamedFile) → List SetupEntry → List Finding → List ℕ → NdxFile → IndexState → Type 0
IsBeside files before findings name file HasNoTable = IsRefusedAt findings (first_table name before)
IsBeside files before findings name file state = (table : Content) × IsNamed files before name table × IsIndexState table file state

abbrev pub IsIndexFinding : Option (List NamedFile) → List SetupEntry → List Finding → List ℕ → List ℕ → IndexFinding → Type 0
IsIndexFinding files before findings table ndx found =
    (file : NdxFile) × IsIndexOfFile files ndx file × (found.keys ≡ length file.pairs.pairs) × IsBeside files before findings table file found.state

-- what is found at an entry of a setup, by the entries before it and what was found at them: what its files are, or why they are
-- refused
abbrev pub IsFinding : Option (List NamedFile) → List SetupEntry → List Finding → SetupEntry → Finding → Type 0
IsFinding files before findings entry (found.Refused fault) = IsRefusalOf files entry fault
IsFinding files before findings (Table name dbf dbt) (found.Table counts) = (table : Content) × IsTableOfFiles files dbf dbt table × IsCounts table counts
IsFinding files before findings (Index table name ndx) (found.Index index) = IsIndexFinding files before findings table ndx index
IsFinding files before findings (Station script) found.Script = (bytes : List ℕ) × IsFileOf files script bytes
IsFinding files before findings entry finding = ⊥

-- a finding for each of the entries after others
abbrev pub AreFindingsAfter : Option (List NamedFile) → List SetupEntry → List Finding → List SetupEntry → List Finding → Type 0
AreFindingsAfter files before findings [] [] = Unit {0}
AreFindingsAfter files before findings [] (finding ∷ more) = ⊥
AreFindingsAfter files before findings (entry ∷ entries) [] = ⊥
AreFindingsAfter files before findings (entry ∷ entries) (finding ∷ more) =
    IsFinding files before findings entry finding × AreFindingsAfter files (before ++ entry ∷ []) (findings ++ finding ∷ []) entries more

-- a finding for each entry of a setup
abbrev pub AreFindings : Option (List NamedFile) → List SetupEntry → List Finding → Type 0
AreFindings files entries findings = AreFindingsAfter files [] [] entries findings

-- where the files of an entry are refused, that is what is found
abbrev pub IsFoundOf : Result EntryContent EntryFault → Finding → Type 0
IsFoundOf (Ok files) finding = Unit {0}
IsFoundOf (Err fault) finding = finding ≡ found.Refused fault

-- the same of each of some entries
abbrev pub AreFoundOf : List (Result EntryContent EntryFault) → List Finding → Type 0
AreFoundOf [] [] = Unit {0}
AreFoundOf [] (finding ∷ findings) = ⊥
AreFoundOf (read ∷ reads) [] = ⊥
AreFoundOf (read ∷ reads) (finding ∷ findings) = IsFoundOf read finding × AreFoundOf reads findings
