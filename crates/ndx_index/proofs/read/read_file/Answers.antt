use Rattle.std.proofs.Common.{◌∙◌, ap, subst}
use Rattle.ndx_index.specs.declared.read.header.Header.{Header}
use Rattle.ndx_index.specs.NdxTree.{IsFileTree}
use Rattle.ndx_index.proofs.Laws.{tree_from_visits}
use Rattle.ndx_index.proofs.read.read_file.Goals as goal

pub returns-clause-found : goal.returns-clause-found
returns-clause-found c =
    let bytes = c.args.bytes.now in
    let header = c.in_ok-header.header in
    let walk = c.in_ok-pairs.ensures.ok in
    let tree = tree_from_visits header.layout bytes header.root walk.0 c.in_ok-pairs.pairs.pairs walk.1 in
    record {
      header_is = c.in_ok-header.ensures.accepted;
      text_is = c.in_ok-expr.ensures.value ∙ c.expression.ensures.value;
      length_is = ap (λ (h : Header). h.layout.key_len) c.in_ok-header.ensures.header;
      pages = walk.0;
      tree = subst (λ (h : Header). IsFileTree h.layout bytes h.root walk.0 c.in_ok-pairs.pairs.pairs) c.in_ok-header.ensures.header tree;
    }
