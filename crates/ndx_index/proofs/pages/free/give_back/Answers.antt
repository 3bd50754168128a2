use Rattle.std.proofs.Common.{arith}
use Rattle.ndx_index.proofs.FreeFrame.{Linked, given, given_linked}
use Rattle.ndx_index.proofs.FreeCount.{free_few}
use Rattle.ndx_index.proofs.pages.free.give_back.Goals as goal
use Rattle.ndx_index.proofs.pages.free.give_back.Goals.{After-put_link}

pub overflow_add-free : goal.overflow_add-free
overflow_add-free c = omega (arith, c.requires.count_bounded, free_few c.args.store.now.pages c.args.free.now c.requires.list (λ r. omega (arith, c.requires.apart r)))

links : (c : After-put_link) → Linked c.args.free.now.count c.args.store.now.pages c.put_link.new.self.pages c.args.free.now.head c.args.page
links c =
    let f = c.args.free.now in
    given_linked f.count c.args.store.now.pages c.put_link.new.self.pages f.head c.args.page c.requires.there c.requires.list c.requires.apart
    (given c.args.store.now.pages c.clear.new.self.pages c.put_link.new.self.pages f.head c.args.page c.requires.there c.clear.ensures.pages c.put_link.ensures.pages)

pub returns-clause-list : goal.returns-clause-list
returns-clause-list c = (links ((goal.at.returns-clause-list c).After-put_link)).free

pub returns-clause-uses : goal.returns-clause-uses
returns-clause-uses c = (links ((goal.at.returns-clause-uses c).After-put_link)).uses
