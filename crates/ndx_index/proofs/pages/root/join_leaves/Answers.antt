use Rattle.std.proofs.Common.{◌<◌, ◌≤◌, length, refl, ◌∙◌, arith}
use Rattle.ndx_index.proofs.Leaves.{one_leaf, can_append_leaf, leaf_more, all_leaves, all_pairs, no_leaves}
use Rattle.ndx_index.proofs.pages.root.join_leaves.Goals as goal

pub returns-then-count-eq0 : goal.returns-then-count-eq0
returns-then-count-eq0 c =
    let none = no_leaves c.args.store.now.pages (record { page = 0; levels = 0 }) (omega (arith, c.page_count-count.ensures.value, c.if-count-eq0.true)) refl in
    record { tree = none.0; pairs = none.1; key_len = refl }

pub loop-leaf-init : goal.loop-leaf-init
loop-leaf-init c =
    let some : 0 < length c.args.store.now.pages = omega (arith, c.page_count-count.ensures.value, c.if-count-eq0.false) in
    record {
      has = one_leaf c.args.store.now.pages (record { page = 0; levels = 1 }) c.requires.leaves some (c.page_count-count.ensures.count_bounded) refl;
      key_len = refl;
    }

pub append-requires : goal.append-requires
append-requires c = record {
  can = can_append_leaf c.args.store.now.pages c.loop-leaf.store.pages c.loop-leaf.root c.loop-leaf.leaf c.requires.leaves c.requires.ordered c.loop-leaf.invariant.has
      (omega (arith, c.page_count-count.ensures.value, c.loop-leaf-test.true));
}

pub loop-leaf-preserved : goal.loop-leaf-preserved
loop-leaf-preserved c = record {
  has = leaf_more c.args.store.now.pages c.loop-leaf.store.pages c.append.new.store.pages c.loop-leaf.root c.in_ok-root.root c.loop-leaf.leaf c.loop-leaf.invariant.has
      (omega (arith, c.page_count-count.ensures.value, c.loop-leaf-test.true)) c.in_ok-root.ensures.appended;
  key_len = c.append.ensures.key_len ∙ c.loop-leaf.invariant.key_len;
}

pub returns : goal.returns
returns c =
    let a = c.args.store.now.pages in
    let all : length a ≤ c.loop-leaf.leaf = omega (arith, c.page_count-count.ensures.value, c.loop-leaf-test.false) in
    record {
      tree = all_leaves a c.loop-leaf.store.pages c.loop-leaf.root c.loop-leaf.leaf all c.loop-leaf.invariant.has;
      pairs = all_pairs a c.loop-leaf.store.pages c.loop-leaf.root c.loop-leaf.leaf all c.loop-leaf.invariant.has;
      key_len = c.loop-leaf.invariant.key_len;
    }
