-- The records that are not marked as deleted, and the orders of their pairs.
use Rattle.std.proofs.Common.{◌≡◌, ℕ, ◌+◌, ◌<◌, Bool, true, false, cond, List, [], ◌∷◌, ◌++◌, length, map, take, get_or, zero, suc, sym, ap, subst, ◌∙◌, arith}
use Rattle.std.specs.Prelude.{not}
use Rattle.std.specs.List.{AllByRecursion}
use Rattle.std.proofs.lemmas.List.{append-nil, length-append, map-append, take_more}
use Rattle.std.proofs.lemmas.List.Elements.{filter_more}
use Rattle.dbf_image.specs.Table.{Row, Table, kept_rows, packed}
use Rattle.key_expr.specs.Expression.{Expression}
use Rattle.ndx_index.specs.declared.pair.Pair.{Pair}
use Rattle.ndx_index.specs.Order.{AreInOrder}
use Rattle.ndx_index.specs.Renumbered.{renumbered, HaveNewNumbers}
use Rattle.table_order.specs.Packing.{packed_numbers}
use Rattle.table_order.specs.TableOrder.{order}
use Rattle.table_order.specs.Laws.Packing.{order_packed, have_new_numbers, packed_numbers_more}
use Rattle.table_order.specs.Laws.RecordOrders.{table_in_order}
use Rattle.table_core.specs.declared.indexes.TableIndex.{TableIndex}
use Rattle.table_core.specs.Indexes.{Follows, indexed}
use Rattle.table_core.specs.Content.{Indexed}

kept_one : (rows : List Row) (i : ℕ) (blank : Row) (marked : Bool) → i < length rows → (get_or rows i blank).deleted ≡ marked → kept_rows (take (i + 1) rows) ≡ kept_rows (take i rows) ++ cond (not marked) (get_or rows i blank ∷ []) []
kept_one rows i blank marked lt is =
    filter_more (λ (r : Row). not r.deleted) rows i blank lt ∙ ap (λ (b : Bool). kept_rows (take i rows) ++ cond (not b) (get_or rows i blank ∷ []) []) is

-- one more record is marked
pub kept_marked : (rows : List Row) (i : ℕ) (blank : Row) → i < length rows → (get_or rows i blank).deleted ≡ true → kept_rows (take (i + 1) rows) ≡ kept_rows (take i rows)
kept_marked rows i blank lt is = kept_one rows i blank true lt is ∙ append-nil (kept_rows (take i rows))

-- one more record is kept
pub count_more : (rows : List Row) (i : ℕ) (blank : Row) → i < length rows → (get_or rows i blank).deleted ≡ false → length (kept_rows (take (i + 1) rows)) ≡ length (kept_rows (take i rows)) + 1
count_more rows i blank lt is = ap (λ (rs : List Row). length rs) (kept_one rows i blank false lt is) ∙ length-append (kept_rows (take i rows)) (get_or rows i blank ∷ [])

-- the new number of one more record
pub number_more : (rows : List Row) (i number : ℕ) (blank : Row) (marked : Bool) (ns : List ℕ) → i < length rows → (get_or rows i blank).deleted ≡ marked → number ≡ 1 + length (kept_rows (take i rows))
    → ns ≡ packed_numbers 1 (take i rows) → ns ++ cond marked 0 number ∷ [] ≡ packed_numbers 1 (take (i + 1) rows)
number_more rows i number blank marked ns lt own at so =
    rw so (rw at (rw (← own) (sym (ap (λ (rs : List Row). packed_numbers 1 rs) (take_more rows i blank lt) ∙ packed_numbers_more (take i rows) 1 (get_or rows i blank)))))

-- ---- an index by new numbers

pub record Packs (table : Table) (ns : List ℕ) (index : TableIndex) : Type 0 where
  pub numbers : HaveNewNumbers ns index.order.pairs
  pub ordered : AreInOrder (renumbered ns index.order.pairs)
  pub is : renumbered ns index.order.pairs ≡ order (packed table) index.expr.expr

pub packs : (table : Table) (ns : List ℕ) (index : TableIndex) → ns ≡ packed_numbers 1 table.rows → Follows table index → Packs table ns index
packs table ns index numbers follows =
    let e = index.expr.expr in
    let same : renumbered ns index.order.pairs ≡ order (packed table) e =
    ap (λ (ms : List ℕ). renumbered ms index.order.pairs) numbers ∙ ap (λ (ps : List Pair). renumbered (packed_numbers 1 table.rows) ps) follows.pairs ∙ order_packed table e in
    record {
      numbers = subst (λ (ms : List ℕ). HaveNewNumbers ms index.order.pairs) (sym numbers)
          (subst (λ (ps : List Pair). HaveNewNumbers (packed_numbers 1 table.rows) ps) (sym follows.pairs) (have_new_numbers table e));
      ordered = subst (λ (ps : List Pair). AreInOrder ps) (sym same) (table_in_order (packed table) e);
      is = same;
    }

-- the index with that order follows the packed table
pub follows_packed : (table : Table) (ns : List ℕ) (index made : TableIndex) → ns ≡ packed_numbers 1 table.rows → Follows table index → indexed made ≡ indexed index
    → made.order.key_len ≡ index.order.key_len → made.order.pairs ≡ renumbered ns index.order.pairs → Follows (packed table) made
follows_packed table ns index made numbers follows same long pairs =
    let expr : made.expr ≡ index.expr = ap (λ (i : Indexed). i.expr) same in
    record {
      is_for = record {
        fields = ap (λ (e : Expression). e.fields) expr ∙ follows.is_for.fields;
        kept = ap (λ (e : Expression). Rattle.key_expr.specs.Rules.broken_rule table.schema e.expr) expr ∙ follows.is_for.kept;
        long = long ∙ follows.is_for.long ∙ ap (λ (e : Expression). Rattle.key_expr.specs.Keys.key_length e.fields e.expr) (sym expr);
      };
      pairs = pairs ∙ (packs table ns index numbers follows).is ∙ ap (λ (e : Expression). order (packed table) e.expr) (sym expr);
    }

-- ---- indexes one after another

all_at : {X : Type 0} (P : X → Type 0) (xs : List X) (i : ℕ) (d : X) → i < length xs → AllByRecursion P xs → P (get_or xs i d)
all_at P [] i d lt all = absurd (omega arith)
all_at P (x ∷ xs) zero d lt all = all.0
all_at P (x ∷ xs) (suc i) d lt all = all_at P xs i d (omega arith) all.1

-- what holds of each holds of the next
pub item_at : {X : Type 0} (P : X → Type 0) (xs ys : List X) (i : ℕ) (x : X) → AllByRecursion P xs → ys ≡ xs → i < length ys → x ≡ get_or ys i x → P x
item_at P xs ys i x all same lt is = subst P (sym is) (all_at P ys i x lt (subst (λ zs. AllByRecursion P zs) (sym same) all))

-- one more index with the same name and expression
pub same_more : (made xs ys : List TableIndex) (i : ℕ) (m item : TableIndex) → map indexed made ≡ map indexed (take i xs) → indexed m ≡ indexed item → ys ≡ xs → i < length ys → item ≡ get_or ys i item
    → map indexed (made ++ m ∷ []) ≡ map indexed (take (i + 1) xs)
same_more made xs ys i m item before same value lt is =
    let at : get_or xs i item ≡ item = ap (λ (zs : List TableIndex). get_or zs i item) (sym value) ∙ sym is in
    let inside : i < length xs = subst (λ (zs : List TableIndex). i < length zs) value lt in
    map-append indexed made (m ∷ []) ∙ ap (λ (zs : List Indexed). zs ++ indexed m ∷ []) before ∙ ap (λ (z : Indexed). map indexed (take i xs) ++ z ∷ []) (same ∙ ap indexed (sym at))
    ∙ sym (map-append indexed (take i xs) (get_or xs i item ∷ [])) ∙ ap (map indexed) (sym (take_more xs i item inside))
