use Rattle.ndx_index.proofs.RootRemove.{emptied_at_top}
use Rattle.ndx_index.proofs.pages.remove.remove_in.Goals as goal

pub returns-then-remove_under-clause-removed : goal.returns-then-remove_under-clause-removed
returns-then-remove_under-clause-removed c =
    let back = c.give_back.ensures in
    emptied_at_top c.args.store.now.pages c.remove_under.new.store.pages c.give_back.new.store.pages c.args.free.now c.remove_under.new.free c.give_back.new.free c.args.root.now c.args.pair.now c.requires.can
    (c.remove_under.ensures.emptied c.if-remove_under.true) back.count back.list back.uses back.length
