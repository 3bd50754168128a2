use Rattle.std.proofs.Common.{◌≡◌, ℕ, ◌+◌, ◌-◌, ◌<◌, List, [], ◌∷◌, ◌++◌, length, take, get_or, sym, ap, ◌∙◌, arith}
use Rattle.std.proofs.lemmas.List.{take_all, take_more}
use Rattle.dbf_image.specs.Table.{blank_row}
use Rattle.ndx_index.specs.declared.pair.Pair.{Pair}
use Rattle.table_order.specs.TableOrder.{pairs_of}
use Rattle.table_order.specs.Laws.RecordPairs.{get-pairs, length-pairs, pair}
use Rattle.table_order.proofs.pairs.record_pairs.Goals as goal

pub loop-index-preserved : goal.loop-index-preserved
loop-index-preserved c =
    let t = c.args.records.now.table in
    let expr = c.args.expr.now in
    let ps : List Pair = pairs_of t expr.expr in
    let i = c.loop-index.index in
    let m : 1 + i ≡ i + 1 = omega arith in
    let n : i ≡ i + 1 - 1 = omega arith in
    let p = c.pair_of.result in
    let lt : i < length ps = omega (arith, length-pairs t.rows expr.expr 1, c.record_count-index-end.ensures.count) in
    let at : get_or ps i p ≡ p = get-pairs t.rows expr.expr 1 i p (blank_row t.schema) (omega (arith, c.record_count-index-end.ensures.count)) ∙ ap (λ (x : ℕ). pair x (get_or t.rows i (blank_row t.schema)) expr.expr) m
    ∙ ap (λ (x : ℕ). pair (i + 1) (get_or t.rows x (blank_row t.schema)) expr.expr) n ∙ sym c.pair_of.ensures.value in
    record {
      pairs = c.in_ok-push.ensures.pairs ∙ ap (λ (xs : List Pair). xs ++ p ∷ []) c.loop-index.invariant.pairs
          ∙ sym (take_more ps i p lt ∙ ap (λ (q : Pair). take i ps ++ q ∷ []) at);
      key_len = c.in_ok-push.ensures.key_len ∙ c.loop-index.invariant.key_len;
    }

pub returns : goal.returns
returns c =
    let t = c.args.records.now.table in
    let ps : List Pair = pairs_of t c.args.expr.now.expr in
    record { pairs = c.loop-index.invariant.pairs ∙ take_all c.loop-index.index ps (omega (arith, length-pairs t.rows c.args.expr.now.expr 1, c.record_count-index-end.ensures.count)); key_len = c.loop-index.invariant.key_len }
