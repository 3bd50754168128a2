-- What is found at the entries of a setup, in words.
use Rattle.std.specs.Prelude.{ℕ, List, [], ◌∷◌, ◌++◌, Option, Some, None, codes}
use Rattle.std.specs.Fmt.{decimal}
use Rattle.dbf_image.specs.declared.fault.ImageFault.{ImageFault}
use Rattle.dbf_image.specs.declared.fault.ImageFault.TheVariants as image
use Rattle.dbf_image.specs.FaultWords.{image_name, image_words}
use Rattle.key_expr.specs.FaultWords.{expression_name, expression_words}
use Rattle.ndx_index.specs.declared.fault.NdxFault.{NdxFault}
use Rattle.ndx_index.specs.declared.fault.NdxFault.TheVariants as index
use Rattle.ndx_index.specs.FaultWords.{ndx_name, ndx_words}
use Rattle.station_lines.specs.declared.script.format.TheConstants.{LF}
use Rattle.station_lines.specs.declared.setup.entry.SetupEntry.{SetupEntry}
use Rattle.station_lines.specs.declared.setup.entry.SetupEntry.TheVariants.{Table, Index, Station}
use Rattle.setup_files.specs.declared.fault.EntryFault.{EntryFault}
use Rattle.setup_files.specs.declared.fault.EntryFault.TheVariants.{Unloaded, UnloadedMemos, NoTable, NoIndex}
use Rattle.setup_files.specs.declared.fault.LoadRefusal.{LoadRefusal}
use Rattle.setup_files.specs.declared.fault.LoadRefusal.TheVariants.{CannotRead, Unrecovered}
use Rattle.setup_files.specs.declared.head_numbers.IndexNumbers.{IndexNumbers}
use Rattle.setup_files.specs.EntryFiles.{refused_path}
use Rattle.folders.specs.Paths.{folder_of_path}
use Rattle.setup_check.specs.declared.finding.Finding.{Finding}
use Rattle.setup_check.specs.declared.finding.Finding.TheVariants as found
use Rattle.setup_check.specs.declared.finding.TableCounts.{TableCounts}
use Rattle.setup_check.specs.declared.freshness.IndexState.{IndexState}
use Rattle.setup_check.specs.declared.freshness.IndexState.TheVariants.{Fresh, NoTable as HasNoTable, NoExpression, OtherLength, Stale}
use Rattle.dbf_image.specs.declared.bad_table.TablePart.{TablePart}
use Rattle.dbf_image.specs.declared.bad_table.TablePart.TheVariants as parts
use Rattle.dbf_image.specs.declared.dbf.header.TableNumbers.{TableNumbers}
use Rattle.setup_check.specs.declared.wrong_pair.WrongPair.{WrongPair}
use Rattle.dbf_fields.specs.declared.schema.SchemaFault.{SchemaFault}
use Rattle.dbf_fields.specs.declared.schema.SchemaFault.TheVariants as schema
use Rattle.setup_check.specs.HeadNumbers.{wanted_length}
use Rattle.ndx_index.specs.declared.format.TheConstants.{PAGE}
use Rattle.table_text.specs.Quoted.{between_quotes}

-- a fault's name, and what it says
abbrev pub named_words : List ℕ → List ℕ → List ℕ
named_words name words = name ++ (codes ": " ++ words)

-- why the fields up to one are no schema
abbrev pub field_refusal : SchemaFault → List ℕ
field_refusal schema.BadFieldCount = codes "it is one too many"
field_refusal schema.BadName = codes "its name is bad"
field_refusal schema.DuplicateName = codes "it has the name of an earlier one"
field_refusal schema.BadKind = codes "it is of no known kind"
field_refusal schema.BadWidth = codes "its width is bad"
field_refusal schema.RecordTooLong = codes "with it a record is too long"
field_refusal schema.NoMemory = codes "out of memory"

-- the block that a memo's cell names
abbrev pub block_words : Option ℕ → List ℕ
block_words None = []
block_words (Some block) = codes ", block " ++ decimal block

-- the field or the memo of a table's files that is bad
abbrev pub part_words : TablePart → List ℕ
part_words parts.Header = []
part_words (parts.Field bad) = codes ": field " ++ (decimal bad.field_number ++ (codes ": " ++ field_refusal bad.why))
part_words (parts.Memo cell) = codes ": record " ++ (decimal cell.record_number ++ (codes ", field " ++ (decimal cell.field_number ++ block_words cell.block)))

-- what is told of a table beside why it is refused: the numbers of the header that it is about, or where it is
abbrev pub table_detail_words : ImageFault → TablePart → TableNumbers → List ℕ
table_detail_words image.Truncated at numbers = codes ": " ++ (decimal numbers.file_length ++ (codes " bytes, not " ++ decimal (wanted_length numbers)))
table_detail_words image.BadVersion at numbers = codes ": " ++ decimal numbers.version
table_detail_words image.BadHeaderLength at numbers = codes ": " ++ decimal numbers.header_length
table_detail_words image.BadRecordLength at numbers = codes ": " ++ decimal numbers.record_length
table_detail_words image.TooManyRecords at numbers = codes ": " ++ decimal numbers.record_count
table_detail_words why at numbers = part_words at

-- the page of an index that is refused
abbrev pub bad_page_words : Option ℕ → List ℕ
bad_page_words None = []
bad_page_words (Some page) = codes ": page " ++ decimal page

-- what is told of an index beside why it is refused: the numbers of the header that it is about, or the page
abbrev pub index_detail_words : NdxFault → Option ℕ → IndexNumbers → List ℕ
index_detail_words index.Truncated page numbers = codes ": " ++ (decimal numbers.file_length ++ (codes " bytes, not " ++ decimal PAGE))
index_detail_words index.NumericIndex page numbers = codes ": type " ++ decimal numbers.key_type
index_detail_words index.UniqueIndex page numbers = codes ": flag " ++ decimal numbers.unique_flag
index_detail_words index.BadKeyLength page numbers = codes ": " ++ decimal numbers.key_length
index_detail_words index.BadRecordSize page numbers = codes ": " ++ (decimal numbers.record_size ++ (codes " bytes for keys of " ++ decimal numbers.key_length))
index_detail_words why page numbers = bad_page_words page

-- the words that the folder of a path is not recovered, and how that is done
abbrev pub unrecovered_words : List ℕ → List ℕ
unrecovered_words path = codes "the folder is not recovered: start with --out " ++ folder_of_path path

-- why no bytes are had of the file of this path; where its folder is not recovered, also what to do
abbrev pub load_words : List ℕ → LoadRefusal → List ℕ
load_words path CannotRead = codes "can't be read"
load_words path Unrecovered = unrecovered_words path

-- why the files of an entry are refused, of which this path is told
abbrev pub refusal_words : List ℕ → EntryFault → List ℕ
refusal_words path (Unloaded why) = load_words path why
refusal_words path (UnloadedMemos why) = load_words path why
refusal_words path (NoTable bad numbers) = codes "no table: " ++ (named_words (image_name bad.why) (image_words bad.why) ++ table_detail_words bad.why bad.part numbers)
refusal_words path (NoIndex bad numbers) = codes "no index: " ++ (named_words (ndx_name bad.why) (ndx_words bad.why) ++ index_detail_words bad.why bad.page numbers)

-- the length of the keys and that of the expression's
abbrev pub length_words : ℕ → ℕ → List ℕ
length_words own wanted = decimal own ++ (codes ", not " ++ decimal wanted)

-- how many records there are, and how many of them are marked
abbrev pub counts_words : TableCounts → List ℕ
counts_words counts = decimal counts.records ++ (codes " records, " ++ (decimal counts.marked ++ codes " marked: good"))

-- the key of the record of a wrong pair's number, which is another, or that there is none
abbrev pub record_key_words : Option (List ℕ) → List ℕ
record_key_words (Some key) = codes ", not " ++ between_quotes key
record_key_words None = codes ", and there is no such record"

-- a wrong pair
abbrev pub wrong_words : WrongPair → List ℕ
wrong_words pair =
    codes "pair " ++ (decimal pair.pair_number ++ (codes ", record " ++ (decimal pair.record_number ++ (codes ", key " ++ (between_quotes pair.key ++ record_key_words pair.record_key)))))

-- the first of a stale index, where there is one
abbrev pub first_words : Option WrongPair → List ℕ
first_words None = []
first_words (Some pair) = wrong_words pair

-- the same, and what to do
abbrev pub stale_words : Option WrongPair → List ℕ
stale_words first = first_words first ++ codes "; --reindex makes it anew"

-- what the file of an index is beside its table
abbrev pub state_begin : IndexState → List ℕ
state_begin Fresh = codes "good"
state_begin HasNoTable = codes "its table is refused"
state_begin (NoExpression why) = codes "no key expression for its table: "
state_begin (OtherLength own wanted) = codes "stale: the length of its keys is not its expression's; --reindex makes it anew: "
state_begin (Stale (Some pair)) = codes "stale: the first wrong is "
state_begin (Stale None) = codes "stale: each pair is its record's, but a record has none, or more than one"

abbrev pub state_rest : IndexState → List ℕ
state_rest (NoExpression why) = named_words (expression_name why) (expression_words why)
state_rest (OtherLength own wanted) = length_words own wanted
state_rest (Stale first) = stale_words first
state_rest _ = []

abbrev pub state_words : IndexState → List ℕ
state_words state = state_begin state ++ state_rest state

-- what was found at an entry of which this path is told
abbrev pub finding_words : List ℕ → Finding → List ℕ
finding_words path (found.Table counts) = counts_words counts
finding_words path (found.Index index) = decimal index.keys ++ (codes " keys: " ++ state_words index.state)
finding_words path found.Script = codes "good"
finding_words path (found.Refused fault) = refusal_words path fault

-- the name of a table or an index
abbrev pub entry_name : SetupEntry → List ℕ
entry_name (Table name dbf dbt) = name
entry_name (Index table name ndx) = name
entry_name (Station script) = codes "STATION"

-- the path that is told: of a table's two the DBF's, but where it is that of its memos of which no bytes are had
abbrev pub entry_path : SetupEntry → Finding → List ℕ
entry_path entry (found.Refused fault) = refused_path entry fault
entry_path (Table name dbf dbt) finding = dbf
entry_path (Index table name ndx) finding = ndx
entry_path (Station script) finding = script

-- a line: a name, a path and words, with two blanks between them
abbrev pub words_line : List ℕ → List ℕ → List ℕ → List ℕ
words_line name path words = name ++ (codes "  " ++ (path ++ (codes "  " ++ (words ++ LF ∷ []))))

-- a line of its own for the memos of a table that is good
abbrev pub memos_line : SetupEntry → Finding → List ℕ
memos_line (Table name dbf (Some dbt)) (found.Table counts) = words_line name dbt (codes "good")
memos_line entry finding = []

-- what is found at an entry, in words, a line a file
abbrev pub entry_lines : SetupEntry → Finding → List ℕ
entry_lines entry finding =
    let path = entry_path entry finding in
    words_line (entry_name entry) path (finding_words path finding) ++ memos_line entry finding

-- what is found at the entries of a setup, in words, a line a file, in their order
abbrev pub setup_lines : List SetupEntry → List Finding → List ℕ
setup_lines [] findings = []
setup_lines (entry ∷ entries) [] = []
setup_lines (entry ∷ entries) (finding ∷ findings) = entry_lines entry finding ++ setup_lines entries findings
