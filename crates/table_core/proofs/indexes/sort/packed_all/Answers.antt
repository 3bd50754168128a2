use Rattle.std.proofs.Common.{List, map, sym, ap, subst, ◌∙◌}
use Rattle.std.specs.List.{AllByRecursion}
use Rattle.dbf_image.specs.Table.{packed}
use Rattle.ndx_index.specs.Index.{Index}
use Rattle.table_core.specs.declared.indexes.TableIndex.{TableIndex}
use Rattle.table_core.specs.Indexes.{Follows, indexed}
use Rattle.table_core.proofs.KeptPairs.{packs, follows_packed, item_at, same_more}
use Rattle.table_core.proofs.Turned.{all_push}
use Rattle.table_core.proofs.indexes.sort.packed_all.Goals as goal

pub renumbered-requires : goal.renumbered-requires
renumbered-requires c =
    let t = c.args.records.now.table in
    let item = c.index-item.result in
    let follows = item_at (Follows t) c.args.indexes.now.items c.deref-index-items.result.now c.loop-index.index-index item c.requires.follow c.deref-index-items.ensures.value c.loop-index-test.true c.index-item.is in
    let p = packs t c.as_slice.result.now item (c.as_slice.ensures.value ∙ c.in_ok-numbers.ensures.numbers) follows in
    record { numbers = p.numbers; ordered = p.ordered }

pub loop-index-preserved : goal.loop-index-preserved
loop-index-preserved c =
    let t = c.args.records.now.table in
    let items = c.args.indexes.now.items in
    let there = c.deref-index-items.result.now in
    let i = c.loop-index.index-index in
    let item = c.index-item.result in
    let follows = item_at (Follows t) items there i item c.requires.follow c.deref-index-items.ensures.value c.loop-index-test.true c.index-item.is in
    let m : TableIndex = c.in_ok-with_order.field-0 in
    let own = c.in_ok-with_order.ensures.order in
    let new = follows_packed t c.as_slice.result.now item m (c.as_slice.ensures.value ∙ c.in_ok-numbers.ensures.numbers) follows c.in_ok-with_order.ensures.same
    (ap (λ (o : Index). o.key_len) own ∙ c.in_ok-order.ensures.key_len) (ap (λ (o : Index). o.pairs) own ∙ c.in_ok-order.ensures.pairs) in
    record {
      follow = subst (λ (xs : List TableIndex). AllByRecursion (Follows (packed t)) xs) (sym c.in_ok-push.ensures.items) (all_push (Follows (packed t)) c.loop-index.made.items m c.loop-index.invariant.follow new);
      same = ap (map indexed) c.in_ok-push.ensures.items ∙ same_more c.loop-index.made.items items there i m item c.loop-index.invariant.same c.in_ok-with_order.ensures.same c.deref-index-items.ensures.value c.loop-index-test.true c.index-item.is;
    }
