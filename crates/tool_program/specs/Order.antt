-- The records of a table in the order of an index file.
use Rattle.std.specs.Prelude.{◌≡◌, ◌≢◌, ℕ, List, [], map, filter, Option, Some, None, IsPermutation}
use Rattle.dbf_image.specs.Table.{Table}
use Rattle.key_expr.specs.Grammar.{Expr}
use Rattle.key_expr.specs.Keys.{key_length}
use Rattle.key_expr.specs.Rules.{IsFault, IsKeyText}
use Rattle.key_expr.specs.declared.fault.ExprFault.{ExprFault}
use Rattle.key_expr.specs.declared.fault.ExprFault.TheVariants.{NoMemory as NoRoomForExpression}
use Rattle.ndx_index.specs.declared.fault.NdxFault.{NdxFault}
use Rattle.ndx_index.specs.declared.fault.NdxFault.TheVariants.{NoMemory as NoRoomForIndex}
use Rattle.ndx_index.specs.declared.pair.Pair.{Pair}
use Rattle.ndx_index.specs.Header.{HasNdxFault, IsIndex, header_refusal}
use Rattle.ndx_index.specs.Order.{reaches}
use Rattle.table_order.specs.TableOrder.{order, pairs_of}
use Rattle.folders.specs.declared.named.NamedFile.{NamedFile}
use Rattle.folders.specs.Files.{IsFileOf}
use Rattle.tool_program.specs.declared.order.OrderFault.{OrderFault}
use Rattle.tool_program.specs.declared.order.OrderFault.TheVariants.{Load, Index, Expression, Stale, NoMemory}
use Rattle.table_reader.specs.Memos.{IsWhyUnread}

-- keys of this length, in these pairs, are those of the table by the expression: each record's pair as often as it is there
pub record AreKeysOf (table : Table) (e : Expr) (key_len : ℕ) (pairs : List Pair) : Type 0 where
  pub long : key_len ≡ key_length table.schema e
  pub whole : IsPermutation (pairs_of table e) pairs

-- what a file is as an index for a table: its key expression for the table's fields, the length of its keys, and its pairs
pub record IsIndexForTable (bytes : List ℕ) (table : Table) (e : Expr) (key_len : ℕ) (pairs : List Pair) : Type 0 where
  pub text : List ℕ
  pub is : IsIndex bytes text key_len pairs
  pub says : IsKeyText table.schema text e

-- the numbers of the pairs whose keys aren't less than a text
abbrev pub numbers_from : List ℕ → List Pair → List ℕ
numbers_from text pairs = map (λ p. p.number) (filter (reaches text) pairs)

-- the text that keys are looked for from; no key is less than the empty one
abbrev pub from_text : Option (List ℕ) → List ℕ
from_text None = []
from_text (Some text) = text

-- The numbers are those of the table's records in the order of the index file of a path, from the first key on that isn't less
-- than the text. The index is the table's.
pub record IsOrderOf (files : Option (List NamedFile)) (path text : List ℕ) (table : Table) (numbers : List ℕ) : Type 0 where
  pub bytes : List ℕ
  pub found : IsFileOf files path bytes
  pub expr : Expr
  pub key_len : ℕ
  pub pairs : List Pair
  pub index : IsIndexForTable bytes table expr key_len pairs
  pub own : AreKeysOf table expr key_len pairs
  pub ordered : numbers ≡ numbers_from text (order table expr)

-- the index file of a path is one of other keys than the table's
pub record IsStale (files : Option (List NamedFile)) (path : List ℕ) (table : Table) : Type 0 where
  pub bytes : List ℕ
  pub found : IsFileOf files path bytes
  pub expr : Expr
  pub key_len : ℕ
  pub pairs : List Pair
  pub index : IsIndexForTable bytes table expr key_len pairs
  pub others : AreKeysOf table expr key_len pairs → ⊥

-- the index file of a path has a text that is no key expression for the table's fields, and this is why
pub record IsNoKeyText (files : Option (List NamedFile)) (path : List ℕ) (table : Table) (fault : ExprFault) : Type 0 where
  pub bytes : List ℕ
  pub found : IsFileOf files path bytes
  pub text : List ℕ
  pub key_len : ℕ
  pub pairs : List Pair
  pub index : IsIndex bytes text key_len pairs
  pub refused : IsFault fault table.schema text

-- the bytes of the file of a path are no index, and this is the first rule that they break
pub record IsNoIndex (files : Option (List NamedFile)) (path : List ℕ) (fault : NdxFault) : Type 0 where
  pub bytes : List ℕ
  pub found : IsFileOf files path bytes
  pub refused : HasNdxFault bytes fault

-- Why the records of a table can't be shown in the order of the index file of a path: why the file was not had, what rule its bytes
-- break first, why its text is no key expression, or that it is one of other keys.
abbrev pub IsOrderFault : Option (List NamedFile) → (List ℕ → Type 0) → List ℕ → Table → OrderFault → Type 0
IsOrderFault files unread path table (Load why) = IsWhyUnread files unread path why
IsOrderFault files unread path table (Index why) = why ≢ NoRoomForIndex → IsNoIndex files path why
IsOrderFault files unread path table (Expression why) = why ≢ NoRoomForExpression → IsNoKeyText files path table why
IsOrderFault files unread path table Stale = IsStale files path table
IsOrderFault files unread path table NoMemory = Unit {0}

-- the same of the index file whose path is given; where none is, there is no fault
abbrev pub IsGivenOrderFault : Option (List NamedFile) → (List ℕ → Type 0) → Option (List ℕ) → Table → OrderFault → Type 0
IsGivenOrderFault files unread None table fault = ⊥
IsGivenOrderFault files unread (Some path) table fault = IsOrderFault files unread path table fault

-- a fault of an index that was read: it is one of other keys, or there was no memory
abbrev pub IsReadFault : OrderFault → Type 0
IsReadFault Stale = Unit {0}
IsReadFault NoMemory = Unit {0}
IsReadFault fault = ⊥

-- the order in which records are shown: none is given, or that of the index file of the path
abbrev pub IsOrder : Option (List NamedFile) → Option (List ℕ) → Option (List ℕ) → Table → Option (List ℕ) → Type 0
IsOrder files None from table numbers = numbers ≡ None
IsOrder files (Some path) from table None = ⊥
IsOrder files (Some path) from table (Some numbers) = IsOrderOf files path (from_text from) table numbers

-- the file was not loaded, or this is the first rule that its header page breaks, where it breaks one
abbrev pub IsTestedFirst : Option (List NamedFile) → List ℕ → OrderFault → Type 0
IsTestedFirst files path (Load cause) = Unit {0}
IsTestedFirst files path fault = (bytes : List ℕ) × IsFileOf files path bytes × ((broken : NdxFault) → header_refusal bytes ≡ Some broken → fault ≡ Index broken)
