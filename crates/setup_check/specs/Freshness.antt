-- What the file of an index is beside its table.
use Rattle.std.specs.Prelude.{◌≡◌, ◌≢◌, IsPermutation}
use Rattle.dbf_image.specs.Table.{Table}
use Rattle.key_expr.specs.declared.fault.ExprFault.TheVariants.{NoMemory}
use Rattle.key_expr.specs.Grammar.{Expr}
use Rattle.key_expr.specs.Keys.{key_length}
use Rattle.key_expr.specs.Rules.{IsKeyText, IsFault}
use Rattle.ndx_index.specs.declared.ndx_file.NdxFile.{NdxFile}
use Rattle.table_order.specs.TableOrder.{pairs_of}
use Rattle.setup_check.specs.WrongPair.{first_wrong}
use Rattle.setup_check.specs.declared.freshness.IndexState.{IndexState}
use Rattle.setup_check.specs.declared.freshness.IndexState.TheVariants.{Fresh, NoTable, NoExpression, OtherLength, Stale}

-- the text of the file is this key expression for the fields of the table
abbrev pub HasExpression : Table → NdxFile → Expr → Type 0
HasExpression table file e = IsKeyText table.schema file.expr e

-- the file's keys are as long as the expression's
abbrev pub HasLength : Table → NdxFile → Expr → Type 0
HasLength table file e = file.key_len ≡ key_length table.schema e

-- its pairs are those of the table's records, each as often
abbrev pub HasPairs : Table → NdxFile → Expr → Type 0
HasPairs table file e = IsPermutation (pairs_of table e) file.pairs.pairs

-- what the file of an index of this key expression is beside its table
abbrev pub IsIndexStateWith : Table → NdxFile → Expr → IndexState → Type 0
IsIndexStateWith table file e NoTable = ⊥
IsIndexStateWith table file e (NoExpression fault) = ⊥
IsIndexStateWith table file e (OtherLength own wanted) = (own ≡ file.key_len) × (wanted ≡ key_length table.schema e) × (HasLength table file e → ⊥)
IsIndexStateWith table file e (Stale first) = HasLength table file e × (HasPairs table file e → ⊥) × (first ≡ first_wrong table e file.pairs.pairs)
IsIndexStateWith table file e Fresh = HasLength table file e × HasPairs table file e

-- what the file of an index is beside its table: fresh, of another length of keys, stale, or of no key expression for its fields
abbrev pub IsIndexState : Table → NdxFile → IndexState → Type 0
IsIndexState table file NoTable = ⊥
IsIndexState table file (NoExpression fault) = (fault ≢ NoMemory) × IsFault fault table.schema file.expr
IsIndexState table file state = (e : Expr) × HasExpression table file e × IsIndexStateWith table file e state
