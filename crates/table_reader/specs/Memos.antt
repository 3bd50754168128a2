-- The file of memos that a table is read with.
use Rattle.std.specs.Prelude.{◌≡◌, ◌⊎◌, ℕ, ◌-◌, Bool, true, ◌&&◌, List, ◌++◌, codes, length, take, nat_eq, Option, Some, None, IfSome, if◌then◌else◌}
use Rattle.std.specs.List.{ends_with}
use Rattle.std.specs.Option.{option_map}
use Rattle.byte_io.specs.Sink.{Rises}
use Rattle.dbf_image.specs.Reading.{fields_of, has_whole_header}
use Rattle.dbf_image.specs.Table.{has_memos}
use Rattle.folders.specs.declared.named.NamedFile.{NamedFile}
use Rattle.folders.specs.declared.source.LoadFault.{LoadFault}
use Rattle.folders.specs.declared.source.LoadFault.TheVariants.{CannotRead, NoMemory, Unrecovered}
use Rattle.folders.specs.Files.{IsFileOf, IsTooLong, IsUnrecovered, load_refusal}

-- the extension of the file of memos beside a table of this path: as the table's is written
abbrev pub memo_extension : List ℕ → Option (List ℕ)
memo_extension table =
    if ends_with nat_eq table (codes ".DBF") then Some (codes ".DBT")
    else if ends_with nat_eq table (codes ".dbf") then Some (codes ".dbt")
    else None

-- the path of the file of memos beside a table: the table's path with that extension in place of its own
abbrev pub memo_path : List ℕ → Option (List ℕ)
memo_path table = option_map (λ extension. take (length table - length extension) table ++ extension) (memo_extension table)

-- some field is a memo, as the header of a table's file tells its fields
abbrev pub wants_memos : List ℕ → Bool
wants_memos dbf = has_whole_header dbf && has_memos (fields_of dbf)

-- the bytes are those of the file of memos beside a table
abbrev pub IsFileBeside : Option (List NamedFile) → List ℕ → List ℕ → Type 0
IsFileBeside files table bytes = (path : List ℕ) × (memo_path table ≡ Some path) × IsFileOf files path bytes

-- The file of memos that a table is read with, where its own file has these bytes: that of the path, where one is given; else none,
-- or, where some field is a memo, the one beside the table.
abbrev pub IsMemoFile : Option (List NamedFile) → List ℕ → List ℕ → Option (List ℕ) → Option (List ℕ) → Type 0
IsMemoFile files table dbf (Some path) None = ⊥
IsMemoFile files table dbf (Some path) (Some bytes) = IsFileOf files path bytes
IsMemoFile files table dbf None None = Unit {0}
IsMemoFile files table dbf None (Some bytes) = (wants_memos dbf ≡ true) × IsFileBeside files table bytes

-- the file of a path was not had: a load has failed since then, or the file is over the limit
abbrev pub IsNotHad : Option (List NamedFile) → Option ℕ → Option ℕ → List ℕ → Type 0
IsNotHad files before after path = Rises before after ⊎ IsTooLong files path

-- No load has failed in looking for a table's file of memos, or the one beside the table was not had.
abbrev pub IsLookedFor : Option (List NamedFile) → Option ℕ → Option ℕ → List ℕ → Type 0
IsLookedFor files before after table = (after ≡ before) ⊎ ((path : List ℕ) × (memo_path table ≡ Some path) × IsNotHad files before after path)

-- Where no path is given, some field is a memo and none was had, there is no file beside the table: it has no such path, or that can't be read.
abbrev pub IsMissingBeside : (List ℕ → Type 0) → List ℕ → List ℕ → Option (List ℕ) → Option (List ℕ) → Type 0
IsMissingBeside unread table dbf given memos = given ≡ None → wants_memos dbf ≡ true → memos ≡ None → IfSome (memo_path table) unread

-- why the file of a path was not had
abbrev pub IsWhyUnread : Option (List NamedFile) → (List ℕ → Type 0) → List ℕ → LoadFault → Type 0
IsWhyUnread files unread path NoMemory = Unit {0}
IsWhyUnread files unread path CannotRead = unread path
IsWhyUnread files unread path Unrecovered = IsUnrecovered files path

-- a load that can't give the file of a path, though there were memory, is told as what it is
abbrev pub IsRefusedFirst : Option (List NamedFile) → List ℕ → LoadFault → Type 0
IsRefusedFirst files path fault = (why : LoadFault) → load_refusal files path ≡ Some why → fault ≡ why

-- Why the file of memos was not had: the one of the path, where one is given. That the one beside the table can't be read is no
-- fault.
abbrev pub IsMemosFault : Option (List NamedFile) → (List ℕ → Type 0) → List ℕ → Option (List ℕ) → LoadFault → Type 0
IsMemosFault files unread table (Some path) fault = IsRefusedFirst files path fault × IsWhyUnread files unread path fault
IsMemosFault files unread table None NoMemory = Unit {0}
IsMemosFault files unread table None CannotRead = ⊥
IsMemosFault files unread table None Unrecovered = (path : List ℕ) × (memo_path table ≡ Some path) × IsUnrecovered files path
