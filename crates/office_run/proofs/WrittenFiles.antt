-- The files that are written of a table and of an index, read again.
use Rattle.std.proofs.Common.{◌≡◌, ◌≢◌, ℕ, zero, suc, ◌+◌, ◌<◌, ◌≤◌, ◌^◌, Bool, true, false, cond, eqb, List, [], ◌∷◌, ◌++◌, length, replicate, get_or, Some, None, refl, sym, ap, subst, ◌∙◌, arith, length-append}
use Rattle.std.specs.Prelude.{IsPermutation}
use Rattle.std.specs.List.{AllByRecursion}
use Rattle.std.proofs.lemmas.Bool.{eqb-false, ne_eqb}
use Rattle.std.proofs.lemmas.Bool.Decides.{nat_tests}
use Rattle.std.proofs.lemmas.List.{take_at, drop_at, length-replicate}
use Rattle.std.proofs.lemmas.List.Sums.{sum_by-cons}
use Rattle.dbf_fields.specs.declared.field.Field.{Field}
use Rattle.dbf_fields.specs.declared.format.TheConstants.{MEMO}
use Rattle.dbf_fields.specs.Field.{widths}
use Rattle.dbf_fields.specs.Layout.{cells_of}
use Rattle.dbf_image.specs.Blocks.{next_free, memo_image}
use Rattle.dbf_image.specs.DbfText.{IsDbf}
use Rattle.dbf_image.specs.Image.{image}
use Rattle.dbf_image.specs.Table.{Row, Table, IsTable, IsRow, IsCell, AreCells, has_memos}
use Rattle.dbf_image.proofs.DbfLaws.{dbf_is}
use Rattle.dbf_image.proofs.FileLaws.{is_dbf_image}
use Rattle.dbf_image.proofs.PlainLaws.{is_plain_image}
use Rattle.key_expr.specs.Grammar.{Expr}
use Rattle.key_expr.specs.Keys.{key, key_length, AgreeButMemos}
use Rattle.key_expr.specs.Laws.{key_but_memos}
use Rattle.key_expr.specs.Rules.{IsKeyText, broken_rule}
use Rattle.key_expr.proofs.KeptRules.{key_some, refusal_tests, refusal_short}
use Rattle.key_expr.proofs.KeyLengths.{key_length_is}
use Rattle.key_expr.proofs.NoZeros.{no_zero}
use Rattle.ndx_index.specs.declared.pair.Pair.{Pair}
use Rattle.ndx_index.specs.declared.ndx_file.NdxFile.{NdxFile}
use Rattle.ndx_index.specs.Header.{IsIndex, ndx_header, trimmed_end}
use Rattle.ndx_index.specs.Index.{HaveLength}
use Rattle.table_order.specs.Laws.Given.{order_own}
use Rattle.ndx_index.specs.Laws.Lists.{all_weaker}
use Rattle.table_order.specs.Laws.RecordOrders.{length-order}
use Rattle.ndx_index.specs.Laws.Sorting.{all-with_pair, IsPermutation-in_order}
use Rattle.ndx_index.specs.Order.{in_order}
use Rattle.table_order.specs.TableOrder.{pairs_from, pairs_of, order, IsRecordPair}
use Rattle.ndx_index.proofs.ImageLaw.{written_reads}
use Rattle.ndx_index.proofs.Laws.{one_walk, visits_from_tree}
use Rattle.table_core.specs.Content.{Indexed}
use Rattle.office_run.specs.Closing.{index_bytes}
use Rattle.office_run.specs.Writable.{has_too_many}
use Rattle.office_run.specs.HandedOver.{index_of, IsIndexFor}
use Rattle.office_run.specs.ReadBack.{IsFileFor, memos_of}
use Rattle.office_run.proofs.TrimmedText.{trimmed_text}

-- ---- a table

few_blocks : (table : Table) → has_too_many table ≡ false → next_free table ≤ 4294967295
few_blocks table e = grind (arith, nat_tests)

written_by : (year month day : ℕ) (table : Table) (memos : Bool) → has_memos table.schema ≡ memos → IsTable table → has_too_many table ≡ false
    → IsDbf (image table year month day) (cond memos (Some (memo_image table)) None) table
written_by year month day table true e t blocks_fit = is_dbf_image table year month day t (few_blocks table blocks_fit)
written_by year month day table false e t blocks_fit = is_plain_image table year month day None t e

written_table : (year month day : ℕ) (table : Table) → IsTable table → has_too_many table ≡ false → IsDbf (image table year month day) (memos_of table) table
written_table year month day table t blocks_fit = written_by year month day table (has_memos table.schema) refl t blocks_fit

pub read_again : (year month day : ℕ) (table read : Table) → IsTable table → has_too_many table ≡ false → IsDbf (image table year month day) (memos_of table) read → read ≡ table
read_again year month day table read t blocks_fit d =
    let bytes = image table year month day in
    sym (dbf_is bytes (memos_of table) read d).1 ∙ (dbf_is bytes (memos_of table) table (written_table year month day table t blocks_fit)).1

pub again_read : (year month day : ℕ) (table read : Table) → IsTable table → has_too_many table ≡ false → read ≡ table → IsDbf (image table year month day) (memos_of table) read
again_read year month day table read t blocks_fit e = subst (λ (x : Table). IsDbf (image table year month day) (memos_of table) x) (sym e) (written_table year month day table t blocks_fit)

-- ---- the length of a key

-- as many bytes as a field is wide: its cell, or zeros for a memo
abbrev field_bytes : Field → List ℕ → List ℕ
field_bytes f cell = cond (eqb f.kind MEMO) (replicate f.width 0) cell

abbrev record_bytes : List Field → List (List ℕ) → List ℕ
record_bytes [] cells = []
record_bytes (f ∷ fs) [] = []
record_bytes (f ∷ fs) (c ∷ cs) = field_bytes f c ++ record_bytes fs cs

field_long : (memo : Bool) (f : Field) (cell : List ℕ) → eqb f.kind MEMO ≡ memo → IsCell f cell → length (cond memo (replicate f.width 0) cell) ≡ f.width
field_long true f cell e h = length-replicate f.width 0
field_long false f cell e h = h.1 (eqb-false f.kind MEMO e)

record_long : (fields : List Field) (cells : List (List ℕ)) → AreCells fields cells → length (record_bytes fields cells) ≡ widths fields
record_long [] [] h = refl
record_long [] (c ∷ cs) h = absurd h
record_long (f ∷ fs) [] h = absurd h
record_long (f ∷ fs) (c ∷ cs) h =
    omega (arith, length-append (field_bytes f c) (record_bytes fs cs), field_long (eqb f.kind MEMO) f c refl h.0, record_long fs cs h.1, sum_by-cons (λ (g : Field). g.width) f fs)

cells_again : (fields : List Field) (cells : List (List ℕ)) → AreCells fields cells → AgreeButMemos fields cells (cells_of fields (record_bytes fields cells))
cells_again [] cells h i (f, at, other) = absurd cc
cells_again (f ∷ fs) [] h i plain = absurd h
cells_again (f ∷ fs) (c ∷ cs) h zero (g, at, other) =
    let same : f ≡ g = cc in
    let kind : f.kind ≢ MEMO = λ e. other (sym (ap (λ (x : Field). x.kind) same) ∙ e) in
    let own : field_bytes f c ≡ c = ap (λ (t : Bool). cond t (replicate f.width 0) c) (ne_eqb f.kind MEMO kind) in
    sym own ∙ sym (take_at (field_bytes f c) (record_bytes fs cs) f.width (field_long (eqb f.kind MEMO) f c refl h.0))
cells_again (f ∷ fs) (c ∷ cs) h (suc i) plain =
    cells_again fs cs h.1 i plain
    ∙ ap (λ (l : List ℕ). get_or (cells_of fs l) i []) (sym (drop_at (field_bytes f c) (record_bytes fs cs) f.width (field_long (eqb f.kind MEMO) f c refl h.0)))

key_long : (fields : List Field) (cells : List (List ℕ)) (e : Expr) → broken_rule fields e ≡ None → AreCells fields cells → length (key cells e) ≡ key_length fields e
key_long fields cells e kept h =
    let bytes : List ℕ = record_bytes fields cells in
    ap length (key_but_memos fields cells (cells_of fields bytes) e kept (cells_again fields cells h))
    ∙ key_length_is fields bytes e (omega (arith, record_long fields cells h))

pairs_long : (fields : List Field) (rows : List Row) (e : Expr) (number : ℕ) → broken_rule fields e ≡ None → AllByRecursion (IsRow fields) rows → HaveLength (key_length fields e) (pairs_from number rows e)
pairs_long fields [] e number kept h = tt
pairs_long fields (r ∷ rs) e number kept h = (key_long fields r.cells e kept h.0, pairs_long fields rs e (number + 1) kept h.1)

all_in_order : (P : Pair → Type 0) (ps : List Pair) → AllByRecursion P ps → AllByRecursion P (in_order ps)
all_in_order P [] h = tt
all_in_order P (p ∷ ps) h = all-with_pair P p (in_order ps) h.0 (all_in_order P ps h.1)

-- ---- an index

written_index : (table : Table) (index : Indexed) → IsTable table → IsIndexFor table.schema index
    → IsIndex (index_bytes (index_of table index)) (trimmed_end index.expr.text) (key_length index.expr.fields index.expr.expr) (order table index.expr.expr)
written_index table index t i =
    let e : Expr = index.expr.expr in
    let n : ℕ = key_length index.expr.fields e in
    let long : key_length table.schema e ≡ n = ap (λ (fields : List Field). key_length fields e) (sym i.fields_are) in
    let tests = refusal_tests table.schema e i.read.kept in
    let pairs : List Pair = order table e in
    let keys : HaveLength n pairs = all_weaker _ _ (λ (p : Pair) (k : length p.key ≡ key_length table.schema e). k ∙ long) pairs
    (all_in_order _ (pairs_of table e) (pairs_long table.schema table.rows e 1 i.read.kept t.fit)) in
    let numbers : AllByRecursion (λ (p : Pair). p.number < 2 ^ 32) pairs = all_weaker (IsRecordPair table e) _ (λ p own. omega (arith, own.inside, t.count_bounded)) pairs (order_own table e) in
    written_reads index.expr.text (key_length table.schema e) n pairs long i.read.short (key_some table.schema e t.fields tests) (refusal_short table.schema e i.read.kept)
    (omega (arith, length-order table e, t.count_bounded)) keys numbers (no_zero table.schema index.expr.text e i.read)

-- a file is of one index
pub same_index : (bytes text text' : List ℕ) (n n' : ℕ) (pairs pairs' : List Pair) → IsIndex bytes text n pairs → IsIndex bytes text' n' pairs' → (text ≡ text') × (n ≡ n') × (pairs ≡ pairs')
same_index bytes text text' n n' pairs pairs' a b =
    let layout = (ndx_header bytes).layout in
    let root = (ndx_header bytes).root in (
      a.text_is ∙ sym b.text_is,
      a.length_is ∙ sym b.length_is,
      (one_walk layout bytes (visits_from_tree layout bytes root a.pages pairs a.tree) (visits_from_tree layout bytes root b.pages pairs' b.tree)).1,
    )

pub file_for : (table : Table) (index : Indexed) (file : NdxFile) → IsTable table → IsIndexFor table.schema index
    → IsIndex (index_bytes (index_of table index)) file.expr file.key_len file.pairs.pairs → IsFileFor table index file
file_for table index file t i read =
    let e : Expr = index.expr.expr in
    let same = same_index _ _ _ _ _ _ _ read (written_index table index t i) in
    record {
      text = same.0;
      read = subst (λ (l : List ℕ). IsKeyText table.schema l e) (sym same.0) (trimmed_text table.schema index.expr.text e i.read);
      fresh = record { long = same.1; pairs = subst (λ (ps : List Pair). IsPermutation (pairs_of table e) ps) (sym same.2) (IsPermutation-in_order (pairs_of table e)) };
    }
