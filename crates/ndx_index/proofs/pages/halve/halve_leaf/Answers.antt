use Rattle.ndx_index.proofs.Halving.{two_changed, halve_apart, halves_leaf}
use Rattle.ndx_index.proofs.pages.halve.halve_leaf.Goals as goal

pub returns-clause-halved : goal.returns-clause-halved
returns-clause-halved c =
    let a = c.args.store.now.pages in
    let b = c.split_pairs.new.self.pages in
    let can = c.requires.can in
    halves_leaf a b c.args.lower c.args.upper c.pair.result can
    (two_changed a b c.args.lower c.args.upper _ _ can.tree.0 can.there (halve_apart 0 a c.args.lower c.args.upper can) c.split_pairs.ensures.pages)
    c.pair.ensures.pair
