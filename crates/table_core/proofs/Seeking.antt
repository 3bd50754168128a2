-- The first pair of an index whose key begins with a text, by what the index answers of the text.
use Rattle.std.proofs.Common.{◌≡◌, ℕ, Bool, cond, List, Some, None, sym, ap, ◌∙◌}
use Rattle.dbf_image.specs.Table.{Table}
use Rattle.key_expr.specs.Grammar.{Expr}
use Rattle.ndx_index.specs.declared.pair.Pair.{Pair}
use Rattle.table_order.specs.Laws.RecordOrders.{table_in_order}
use Rattle.ndx_index.specs.Laws.Seeking.{first_with-first_from}
use Rattle.ndx_index.specs.Order.{begins_with, first_with, first_from, if_begins_with}
use Rattle.table_order.specs.TableOrder.{order}

pub sought : (table : Table) (e : Expr) (text : List ℕ) (ps : List Pair) (p : Pair) (b : Bool) → ps ≡ order table e → first_from text ps ≡ Some p → begins_with text p ≡ b
    → cond b (Some p) None ≡ first_with text (order table e)
sought table e text ps p b same first begins =
    sym (first_with-first_from text (order table e) (table_in_order table e)
    ∙ ap (λ (qs : List Pair). if_begins_with text (first_from text qs)) (sym same) ∙ ap (if_begins_with text) first ∙ ap (λ (x : Bool). cond x (Some p) None) begins)

pub sought_none : (table : Table) (e : Expr) (text : List ℕ) (ps : List Pair) → ps ≡ order table e → first_from text ps ≡ None → None ≡ first_with text (order table e)
sought_none table e text ps same first =
    sym (first_with-first_from text (order table e) (table_in_order table e)
    ∙ ap (λ (qs : List Pair). if_begins_with text (first_from text qs)) (sym same) ∙ ap (if_begins_with text) first)
