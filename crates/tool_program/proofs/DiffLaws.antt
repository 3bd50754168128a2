-- What is told of two tables.
use Rattle.std.proofs.Common.{◌≡◌, sym, subst, ℕ, Bool, true, List, Option, Some, None, option_copied, Result, Ok, Err, IfErr, OnOk, IsErrAnd}
use Rattle.std.specs.Borrow.{Bor}
use Rattle.dbf_fields.specs.declared.field.Field.{Field}
use Rattle.dbf_image.specs.Table.{Table}
use Rattle.key_expr.proofs.Parsing.{one_expr}
use Rattle.key_expr.specs.Grammar.{Expr}
use Rattle.key_expr.specs.Rules.{IsKeyText}
use Rattle.folders.specs.declared.source.LoadFault.{LoadFault}
use Rattle.table_reader.specs.declared.fault.TableReadFault.{TableReadFault}
use Rattle.table_text.specs.declared.fault.TextFault.TheVariants as text
use Rattle.tool_program.specs.declared.comparing.CompareFault.{CompareFault}
use Rattle.tool_program.specs.declared.comparing.CompareFault.TheVariants as compare
use Rattle.tool_program.specs.declared.fault.ToolFault.{ToolFault}
use Rattle.tool_program.specs.declared.report.ToolReport.{ToolReport}
use Rattle.tool_program.specs.declared.showing.ShowFault.TheVariants as show
use Rattle.tool_program.specs.Comparison.{AreTold, AreToldBy, AreToldByKey, IsOfLoad}
use Rattle.tool_program.specs.Faults.{shown_fault, IsToolFaultOf, IsToolFaultOfDiff}

-- one text is one expression for the same fields
pub one_key : (text : List ℕ) (old new : List Field) (e f : Expr) → IsKeyText old text e → IsKeyText new text f → old ≡ new → e ≡ f
one_key text old new e f h k same = one_expr new text e f (subst (λ (fields : List Field). IsKeyText fields text e) same h) k

-- where no key is given all is told by numbers
pub told_by_number : (key : Option (Bor (List ℕ))) (differ : Bool) (o n : Table) (old new : Option (List ℕ)) → key ≡ None → AreTold differ o n old new
    → AreToldBy (option_copied key) differ o n old new
told_by_number key differ o n old new none h = subst (λ (k : Option (Bor (List ℕ))). AreToldBy (option_copied k) differ o n old new) (sym none) h

-- and where one is by its keys
pub told_by_key : (key : Option (Bor (List ℕ))) (text : Bor (List ℕ)) (differ : Bool) (o n : Table) (old new : Option (List ℕ)) → key ≡ Some text
    → AreToldByKey text.now differ o n old new → AreToldBy (option_copied key) differ o n old new
told_by_key key text differ o n old new is h = subst (λ (k : Option (Bor (List ℕ))). AreToldBy (option_copied k) differ o n old new) (sym is) h

-- what holds of the fault of a result
pub of_err : {T E : Type 0} (r : Result T E) (x : E) (P : E → Type 0) → IsErrAnd r P → r ≡ Err x → P x
of_err (Ok done) x P h e = absurd h
of_err (Err y) x P h e = let same : y ≡ x = cc in subst P same h

-- a fault of loading a table is told as such
pub diff_load_told : (fault : CompareFault) (why : LoadFault) (path : List ℕ) (closed : Bool) (told : Result ToolReport ToolFault) → IsOfLoad path why fault
    → IfErr told (IsToolFaultOfDiff fault) → OnOk told ((fault ≡ compare.Text text.Sink) × (closed ≡ true)) → IsErrAnd told (IsToolFaultOf (show.Load why) path)
diff_load_told (compare.Table at said) why path closed (Ok report) is h k = let clash = k.0 in absurd cc
diff_load_told (compare.Table at said) why path closed (Err ending) is h k =
    let there = subst (λ (p : List ℕ). IsToolFaultOf (shown_fault said) p ending) is.0 h in
    subst (λ (s : TableReadFault). IsToolFaultOf (shown_fault s) path ending) is.1 there
diff_load_told (compare.Key at said) why path closed told is h k = absurd is
diff_load_told (compare.Text said) why path closed told is h k = absurd is
