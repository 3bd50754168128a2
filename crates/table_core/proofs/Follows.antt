-- Indexes beside a table that is changed.
use Rattle.std.proofs.Common.{◌≡◌, ℕ, ◌+◌, ◌-◌, ◌<◌, ◌≤◌, Bool, true, false, List, [], ◌∷◌, length, map, refl, ap, sym, subst, ◌∙◌, arith}
use Rattle.std.specs.Prelude.{◌&&◌, nat_lt, slice_set}
use Rattle.std.specs.List.{AllByRecursion}
use Rattle.std.proofs.lemmas.Bool.{false≢true}
use Rattle.std.proofs.lemmas.Bool.Decides.{nat_tests}
use Rattle.dbf_fields.specs.declared.format.TheConstants.{MEMO}
use Rattle.dbf_image.specs.Table.{Row, Table, row_at, row_with_cell, row_marked, kind_at, with_row, with_cell, with_mark}
use Rattle.table_core.specs.declared.edits.planned.Target.{Target}
use Rattle.table_core.specs.declared.indexes.TableIndex.{TableIndex}
use Rattle.table_core.specs.Indexes.{Follows, FollowsAside, FollowsBut, HasRoom, Seen, seen_index, indexed, have_room}
use Rattle.ndx_index.specs.Order.{AreInOrder}
use Rattle.table_order.specs.Laws.RecordOrders.{but_row, but_last, order_row, table_in_order}
use Rattle.key_expr.specs.Keys.{key, names}
use Rattle.key_expr.specs.Laws.{key_unnamed}
use Rattle.table_order.specs.Laws.RecordKeys.{key_of_memo}

pub follows_in_order : (table : Table) (index : TableIndex) → Follows table index → AreInOrder index.order.pairs
follows_in_order table index h = subst AreInOrder (sym h.pairs) (table_in_order table index.expr.expr)

pub follows_but_cell : (table : Table) (number field : ℕ) (cell : List ℕ) (index : TableIndex) → FollowsBut number table index → FollowsBut number (with_cell table number field cell) index
follows_but_cell table number field cell index h = record {
  is_for = record { fields = h.is_for.fields; kept = h.is_for.kept; long = h.is_for.long };
  pairs = h.pairs ∙ sym (but_row table index.expr.expr number (row_with_cell (row_at table number) field cell));
}

pub follows_but_last : (table : Table) (number : ℕ) (r : Row) → number ≡ length table.rows + 1 → (index : TableIndex) → Follows table index → FollowsBut number (with_row table r) index
follows_but_last table number r is index h = record {
  is_for = record { fields = h.is_for.fields; kept = h.is_for.kept; long = h.is_for.long };
  pairs = h.pairs ∙ sym (but_last table index.expr.expr number r is);
}

-- ---- room

room_by : (n : ℕ) (a b : Bool) → (a ≡ true → 0 < n) → a && b ≡ true → (0 < n) × (b ≡ true)
room_by n true b f h = (f refl, h)
room_by n false b f h = absurd (false≢true h)

some : (n : ℕ) → nat_lt 0 n ≡ true → 0 < n
some n h = grind (arith, nat_tests)

some_back : (n : ℕ) → 0 < n → nat_lt 0 n ≡ true
some_back n h = grind (arith, nat_tests)

pub room_all : (indexes : List TableIndex) → have_room indexes ≡ true → AllByRecursion HasRoom indexes
room_all [] h = tt
room_all (x ∷ xs) h =
    let both = room_by x.order.spare (nat_lt 0 x.order.spare) (have_room xs) (some x.order.spare) h in
    (both.0, room_all xs both.1)

pub all_room : (indexes : List TableIndex) → AllByRecursion HasRoom indexes → have_room indexes ≡ true
all_room [] h = refl
all_room (x ∷ xs) h = rw (some_back x.order.spare h.0) (all_room xs h.1)

-- ---- indexes that differ in their room alone

follows_seen : (table : Table) (x y : TableIndex) → seen_index x ≡ seen_index y → Follows table x → Follows table y
follows_seen table x y e h =
    let expr : x.expr ≡ y.expr = ap (λ (s : Seen). s.expr) e in
    let pairs : x.order.pairs ≡ y.order.pairs = ap (λ (s : Seen). s.pairs) e in
    record {
      is_for = record {
        fields = ap (λ x. x.fields) (sym expr) ∙ h.is_for.fields;
        kept = ap (λ x. Rattle.key_expr.specs.Rules.broken_rule table.schema x.expr) (sym expr) ∙ h.is_for.kept;
        long = ap (λ (s : Seen). s.key_len) (sym e) ∙ h.is_for.long ∙ ap (λ x. Rattle.key_expr.specs.Keys.key_length x.fields x.expr) expr;
      };
      pairs = sym pairs ∙ h.pairs ∙ ap (λ x. Rattle.table_order.specs.TableOrder.order table x.expr) expr;
    }

pub follow_seen : (table : Table) (xs ys : List TableIndex) → map seen_index xs ≡ map seen_index ys → AllByRecursion (Follows table) xs → AllByRecursion (Follows table) ys
follow_seen table [] [] e h = tt
follow_seen table [] (y ∷ ys) e h = cc
follow_seen table (x ∷ xs) [] e h = cc
follow_seen table (x ∷ xs) (y ∷ ys) e h =
    let first : seen_index x ≡ seen_index y = cc in
    let rest : map seen_index xs ≡ map seen_index ys = cc in
    (follows_seen table x y first h.0, follow_seen table xs ys rest h.1)

pub indexed_seen : (xs ys : List TableIndex) → map seen_index xs ≡ map seen_index ys → map indexed xs ≡ map indexed ys
indexed_seen [] [] e = refl
indexed_seen [] (y ∷ ys) e = cc
indexed_seen (x ∷ xs) [] e = cc
indexed_seen (x ∷ xs) (y ∷ ys) e =
    let first : seen_index x ≡ seen_index y = cc in
    let rest : map seen_index xs ≡ map seen_index ys = cc in
    let same : indexed x ≡ indexed y = ap (λ (s : Seen). record { name = s.name; expr = s.expr }) first in
    let others : map indexed xs ≡ map indexed ys = indexed_seen xs ys rest in
    cc

-- ---- a row with the same key

follows_row : (table : Table) (number : ℕ) (r : Row) → 1 ≤ number → number ≤ length table.rows → (index : TableIndex) → key r.cells index.expr.expr ≡ key (row_at table number).cells index.expr.expr
    → Follows table index → Follows (record { schema = table.schema; rows = slice_set table.rows (number - 1) r }) index
follows_row table number r one inside index same h = record {
  is_for = record { fields = h.is_for.fields; kept = h.is_for.kept; long = h.is_for.long };
  pairs = h.pairs ∙ sym (order_row table index.expr.expr number r one inside same);
}

pub follows_memo : (table : Table) (number field : ℕ) (text : List ℕ) → 1 ≤ number → number ≤ length table.rows → kind_at table.schema field ≡ MEMO
    → (index : TableIndex) → Follows table index → Follows (with_cell table number field text) index
follows_memo table number field text one inside memo index h =
    follows_row table number (row_with_cell (row_at table number) field text) one inside index
    (key_of_memo table.schema index.expr.expr (row_at table number).cells field text h.is_for.kept memo) h

follows_unnamed : (table : Table) (number field : ℕ) (cell : List ℕ) → 1 ≤ number → number ≤ length table.rows
    → (index : TableIndex) → names field index.expr.expr ≡ false → Follows table index → Follows (with_cell table number field cell) index
follows_unnamed table number field cell one inside index other h =
    follows_row table number (row_with_cell (row_at table number) field cell) one inside index
    (key_unnamed (row_at table number).cells field cell index.expr.expr other) h

-- the cell is replaced
pub aside_cell : (table : Table) (target : Target) (cell : List ℕ) → 1 ≤ target.number → target.number ≤ length table.rows
    → (index : TableIndex) → FollowsAside target table index → FollowsAside target (with_cell table target.number target.field cell) index
aside_cell table target cell one inside index h = record {
  named = λ own. follows_but_cell table target.number target.field cell index (h.named own);
  unnamed = λ other. follows_unnamed table target.number target.field cell one inside index other (h.unnamed other);
}

pub follows_mark : (table : Table) (number : ℕ) (deleted : Bool) → 1 ≤ number → number ≤ length table.rows → (index : TableIndex) → Follows table index → Follows (with_mark table number deleted) index
follows_mark table number deleted one inside index h = follows_row table number (row_marked (row_at table number) deleted) one inside index refl h
