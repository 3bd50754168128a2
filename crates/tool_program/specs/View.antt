-- What of a table is shown.
use Rattle.std.specs.Prelude.{◌≡◌, ◌≤◌, ◌↔◌, ℕ, List, length, Option, IfSome, IsSome, option_copied}
use Rattle.dbf_fields.specs.declared.day.Day.{Day}
use Rattle.dbf_image.specs.DbfText.{IsDbf}
use Rattle.dbf_image.specs.Table.{Table}
use Rattle.byte_io.specs.Sink.{grown}
use Rattle.folders.specs.declared.named.NamedFile.{NamedFile}
use Rattle.folders.specs.Files.{IsFileOf}
use Rattle.table_text.specs.Csv.{csv_text}
use Rattle.table_text.specs.Records.{records_text}
use Rattle.table_text.specs.Structure.{fields_text, IsHeaderDate, TellsDay}
use Rattle.table_reader.specs.Memos.{IsLookedFor, IsMemoFile, IsMemosFault, IsNotHad}
use Rattle.tool_program.specs.Order.{IsGivenOrderFault, IsOrder}
use Rattle.tool_program.specs.declared.asked.Options.{Options}
use Rattle.tool_program.specs.declared.order.OrderFault.{OrderFault}
use Rattle.tool_program.specs.declared.showing.ShowFault.{ShowFault}
use Rattle.tool_program.specs.declared.showing.ShowFault.TheVariants.{Memos, Text}
use Rattle.tool_program.specs.declared.asked.View.{View}
use Rattle.tool_program.specs.declared.asked.View.TheVariants.{Records, Csv, Fields}

-- the text of a table that was asked for, its records in this order
abbrev pub view_text : Table → Option Day → Option (List ℕ) → View → List ℕ
view_text table date order (Records selection memos) = records_text table order selection memos
view_text table date order (Csv selection deleted_column) = csv_text table order selection deleted_column
view_text table date order Fields = fields_text table date

-- a fault in loading the file of memos says why it was not had
abbrev pub IsFaultOfMemos : Option (List NamedFile) → (List ℕ → Type 0) → List ℕ → Option (List ℕ) → ShowFault → Type 0
IsFaultOfMemos files unread table given (Memos why) = IsMemosFault files unread table given why
IsFaultOfMemos files unread table given fault = ⊥

-- the fault comes before any text is written
abbrev pub IsBeforeText : ShowFault → Type 0
IsBeforeText (Text why) = ⊥
IsBeforeText fault = Unit {0}

-- What a sink has after a table was shown: the text that was asked for, of the table whose files stand at the paths of the options,
-- in the order of the index. The date is the one that the table's header has, and there is none only if that has none.
pub record IsShown (files : Option (List NamedFile)) (options : Options) (old new : Option (List ℕ)) : Type 0 where
  pub dbf : List ℕ
  pub dbt : Option (List ℕ)
  pub date : Option Day
  pub table : Table
  pub order : Option (List ℕ)
  pub table_file : IsFileOf files options.table.now dbf
  pub memo_file : IsMemoFile files options.table.now dbf (option_copied options.memos) dbt
  pub dated : IfSome date (IsHeaderDate dbf)
  pub has_date : IsSome date ↔ ((4 ≤ length dbf) × TellsDay dbf)
  pub is : IsDbf dbf dbt table
  pub ordered : IsOrder files (option_copied options.order) (option_copied options.from) table order
  pub wrote : new ≡ grown old (view_text table date order options.view)

-- The table of these files can't be shown in the order of the index file whose path the options give, for this fault of that file. No
-- load had failed before it was looked for, but that of a file of memos beside the table.
pub record IsNoOrder (files : Option (List NamedFile)) (before after : Option ℕ) (options : Options) (fault : OrderFault) : Type 0 where
  pub dbf : List ℕ
  pub dbt : Option (List ℕ)
  pub table : Table
  pub between : Option ℕ
  pub table_file : IsFileOf files options.table.now dbf
  pub memo_file : IsMemoFile files options.table.now dbf (option_copied options.memos) dbt
  pub memos : IsLookedFor files before between options.table.now
  pub is : IsDbf dbf dbt table
  pub refused : IsGivenOrderFault files (IsNotHad files between after) (option_copied options.order) table fault
