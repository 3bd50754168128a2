use Rattle.std.proofs.Common.{List, ap, ◌∙◌, [], ◌∷◌, ◌++◌, arith}
use Rattle.ndx_index.specs.declared.pair.Pair.{Pair}
use Rattle.ndx_index.specs.Pages.{leaf_pair}
use Rattle.ndx_index.proofs.PageLemmas.{leaf_pairs_more}
use Rattle.ndx_index.proofs.read.tree.push_leaf.Goals as goal

pub loop-i-preserved : goal.loop-i-preserved
loop-i-preserved c =
    let last : Pair = leaf_pair c.args.leaf.layout c.args.leaf.bytes.now c.loop-i.i in
    record {
      pairs = c.push_pair.ensures.pairs ∙ ap (λ (ps : List Pair). ps ++ last ∷ []) c.loop-i.invariant.pairs
          ∙ leaf_pairs_more c.args.leaf.layout c.args.leaf.bytes.now c.args.pairs.now.pairs c.loop-i.i;
      key_len = c.push_pair.ensures.key_len ∙ c.loop-i.invariant.key_len;
      room = omega (arith, c.push_pair.ensures.spare, c.loop-i.invariant.room);
    }
