use Rattle.std.proofs.Common.{◌≡◌, ◌-◌, ◌++◌, suc, map, refl, sym, subst, ap, ◌∙◌, arith}
use Rattle.std.proofs.lemmas.List.{append-nil, take_all}
use Rattle.ndx_index.specs.PageStore.{page_in}
use Rattle.ndx_index.specs.IndexTree.{joined, pairs_under, IsTree}
use Rattle.ndx_index.proofs.Searching.{child_tree, push_child}
use Rattle.ndx_index.proofs.pages.search.+push_pairs.Goals as goal

pub loop-at-init : goal.loop-at-init
loop-at-init t c = record { pairs = sym (append-nil c.args.pairs.now.pairs); key_len = refl }

pub push_pairs-requires : goal.push_pairs-requires
push_pairs-requires t c =
    let a = c.args.store.now.pages in
    let e : c.args.level ≡ suc (c.args.level - 1) = omega arith in
    let tree = subst (λ d. IsTree d a c.args.page) e c.requires.tree in
    (omega (arith, c.decreases), (subst (λ q. IsTree (c.args.level - 1) a q) (sym c.link.ensures.link) (child_tree (c.args.level - 1) a c.args.page c.loop-at.at tree (omega (arith, c.link_count-at-end.ensures.count))), c.loop-at.invariant.key_len ∙ c.requires.keys))

pub loop-at-preserved : goal.loop-at-preserved
loop-at-preserved t c =
    let a = c.args.store.now.pages in
    record {
      pairs = push_child (λ q. pairs_under (c.args.level - 1) a q) c.args.pairs.now.pairs c.loop-at.pairs.pairs c.push_pairs.new.pairs.pairs (page_in a c.args.page).links c.loop-at.at c.link.result
          c.loop-at.invariant.pairs (omega (arith, c.link_count-at-end.ensures.count)) c.link.ensures.link c.in_ok-push_pairs.ensures.pairs;
      key_len = c.in_ok-push_pairs.ensures.key_len ∙ c.loop-at.invariant.key_len;
    }

pub returns-clause-pairs : goal.returns-clause-pairs
returns-clause-pairs t c =
    let a = c.args.store.now.pages in
    let p = c.args.page in
    let e : c.args.level ≡ suc (c.args.level - 1) = omega arith in
    subst (λ d. c.loop-at.pairs.pairs ≡ c.args.pairs.now.pairs ++ pairs_under d a p) (sym e)
    (c.loop-at.invariant.pairs ∙ ap (λ cs. c.args.pairs.now.pairs ++ joined (map (λ q. pairs_under (c.args.level - 1) a q) cs)) (take_all c.loop-at.at (page_in a p).links (omega (arith, c.link_count-at-end.ensures.count))))
