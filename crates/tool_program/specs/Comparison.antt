-- Two tables that are compared.
use Rattle.std.specs.Prelude.{◌≡◌, ◌⊎◌, ◌↔◌, ℕ, Bool, false, List, [], Option, Some, None, IfSome, option_copied}
use Rattle.byte_io.specs.Sink.{grown}
use Rattle.dbf_fields.specs.declared.field.Field.{Field}
use Rattle.dbf_image.specs.Table.{Table}
use Rattle.folders.specs.declared.named.NamedFile.{NamedFile}
use Rattle.folders.specs.declared.source.LoadFault.{LoadFault}
use Rattle.key_expr.specs.Grammar.{Expr}
use Rattle.key_expr.specs.Rules.{IsFault, IsKeyText}
use Rattle.table_diff.specs.ByKey.{diff_text_by_key, AreSameByKey}
use Rattle.table_diff.specs.DiffText.{diff_text}
use Rattle.table_diff.specs.Matching.{matches_by_key, new_numbers, old_numbers}
use Rattle.table_order.specs.TableOrder.{ordered}
use Rattle.table_reader.specs.declared.fault.TableReadFault.TheVariants.{Load}
use Rattle.table_reader.specs.Memos.{IsNotHad}
use Rattle.table_reader.specs.TableFiles.{path_of_fault, IsTableAt, IsTableReadFault}
use Rattle.tool_program.specs.declared.comparing.CompareFault.{CompareFault}
use Rattle.tool_program.specs.declared.comparing.CompareFault.TheVariants.{Table as OfTable, Key as OfKey, Text as OfText}
use Rattle.tool_program.specs.declared.asked.DiffOptions.{DiffOptions}

-- ---- what was written

-- What has changed from the one table to the other was told, and whether anything has. Nothing has, and nothing was told, exactly
-- where the two are the same: the same fields, and the same records with their marks and the texts of their memos.
pub record AreTold (differ : Bool) (old_table new_table : Table) (old new : Option (List ℕ)) : Type 0 where
  pub wrote : new ≡ grown old (diff_text old_table new_table)
  pub silent : diff_text old_table new_table ≡ [] ↔ old_table ≡ new_table
  pub same : differ ≡ false ↔ old_table ≡ new_table

-- What has changed was told of records that are matched by the keys of an expression, and whether anything has. The text says the
-- expression for the fields of each table. Nothing has changed, and nothing was told, exactly where the tables have the same fields, and the
-- same records in the order of their keys; and each record of both was matched once, in that order.
pub record AreToldByKey (text : List ℕ) (differ : Bool) (old_table new_table : Table) (old new : Option (List ℕ)) : Type 0 where
  pub old_key : Expr
  pub new_key : Expr
  pub old_says : IsKeyText old_table.schema text old_key
  pub new_says : IsKeyText new_table.schema text new_key
  pub wrote : new ≡ grown old (diff_text_by_key old_table new_table old_key new_key)
  pub silent : diff_text_by_key old_table new_table old_key new_key ≡ [] ↔ AreSameByKey old_table new_table old_key
  pub same : differ ≡ false ↔ AreSameByKey old_table new_table old_key
  pub old_once : old_numbers (matches_by_key old_table new_table old_key new_key) ≡ ordered old_table old_key
  pub new_once : new_numbers (matches_by_key old_table new_table old_key new_key) ≡ ordered new_table new_key

-- what has changed was told, of records that are matched by the keys of a text, where one is given, and else by their numbers
abbrev pub AreToldBy : Option (List ℕ) → Bool → Table → Table → Option (List ℕ) → Option (List ℕ) → Type 0
AreToldBy None = AreTold
AreToldBy (Some text) = AreToldByKey text

-- the tables whose files stand at the paths of the options were compared, and what has changed was told
pub record AreCompared (files : Option (List NamedFile)) (options : DiffOptions) (differ : Bool) (old new : Option (List ℕ)) : Type 0 where
  pub old_table : Table
  pub new_table : Table
  pub old_files : IsTableAt files options.old_table.now (option_copied options.old_memos) old_table
  pub new_files : IsTableAt files options.new_table.now (option_copied options.new_memos) new_table
  pub told : AreToldBy (option_copied options.key) differ old_table new_table old new

-- ---- why it was not

-- why the table of a path was not read: a fault that is true of its files, between these counts of failed loads, with the path of the file
-- that it is of
abbrev pub IsWhyUnloaded : Option (List NamedFile) → Option ℕ → Option ℕ → List ℕ → Option (List ℕ) → CompareFault → Type 0
IsWhyUnloaded files before after path memos (OfTable told why) =
    (told.now ≡ path_of_fault path memos why) × IsTableReadFault files (IsNotHad files before after) path memos why
IsWhyUnloaded files before after path memos fault = ⊥

-- the file of this path was not loaded, for this
abbrev pub IsOfLoad : List ℕ → LoadFault → CompareFault → Type 0
IsOfLoad path why (OfTable told said) = (told.now ≡ path) × (said ≡ Load why)
IsOfLoad path why fault = ⊥

-- the fault is one of the text, of which a front part may have been written
abbrev pub IsOfText : CompareFault → Type 0
IsOfText (OfText why) = Unit {0}
IsOfText fault = ⊥

-- the text is no key expression for the fields of a table, whose path the fault tells, and the fault is the rule that it breaks
abbrev pub IsBadKey : List ℕ → List Field → List ℕ → CompareFault → Type 0
IsBadKey path fields text (OfKey told why) = (told.now ≡ path) × IsFault why fields text
IsBadKey path fields text fault = ⊥

-- the text that is given is no key expression for one of two tables
abbrev pub IsWhyNoKey : Table → Table → DiffOptions → CompareFault → Type 0
IsWhyNoKey old_table new_table options fault = IfSome (option_copied options.key)
    (λ text. IsBadKey options.old_table.now old_table.schema text fault ⊎ IsBadKey options.new_table.now new_table.schema text fault)

-- why not all was told of two tables: the expression of the keys is none, or a fault of the text
abbrev pub IsUntoldOf : Table → Table → DiffOptions → CompareFault → Type 0
IsUntoldOf old_table new_table options fault = IsWhyNoKey old_table new_table options fault ⊎ IsOfText fault

-- why not all was told of the tables whose files stand at the paths of the options
pub record IsWhyUntold (files : Option (List NamedFile)) (options : DiffOptions) (fault : CompareFault) : Type 0 where
  pub old_table : Table
  pub new_table : Table
  pub old_files : IsTableAt files options.old_table.now (option_copied options.old_memos) old_table
  pub new_files : IsTableAt files options.new_table.now (option_copied options.new_memos) new_table
  pub untold : IsUntoldOf old_table new_table options fault

-- why two tables were not compared, or not all was told: a fault of the old one's files, of the new one's, of the expression of the keys, or
-- of the text
abbrev pub IsWhyUncompared : Option (List NamedFile) → Option ℕ → Option ℕ → DiffOptions → CompareFault → Type 0
IsWhyUncompared files before after options fault =
    IsWhyUnloaded files before after options.old_table.now (option_copied options.old_memos) fault
    ⊎ (IsWhyUnloaded files before after options.new_table.now (option_copied options.new_memos) fault ⊎ IsWhyUntold files options fault)
