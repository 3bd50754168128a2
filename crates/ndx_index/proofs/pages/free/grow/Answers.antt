use Rattle.std.proofs.Common.{◌≡◌, ◌+◌, ◌≤◌, length, ap, sym, ◌∙◌, subst}
use Rattle.ndx_index.specs.IndexTree.{here, uses_free}
use Rattle.ndx_index.proofs.FreeFrame.{Added, added, grown}
use Rattle.ndx_index.proofs.pages.free.grow.Goals as goal
use Rattle.ndx_index.proofs.pages.free.grow.Goals.{In_ok-page}

more : (c : In_ok-page) → Added c.args.store.now.pages c.add_page.new.self.pages c.args.free.now
more c = added c.args.store.now.pages c.add_page.new.self.pages c.args.free.now c.in_ok-page.ensures.pages c.requires.list c.requires.apart

pub give_back-requires-clause-list : goal.give_back-requires-clause-list
give_back-requires-clause-list c = (more ((goal.at.give_back-requires-clause-list c).In_ok-page)).list

pub give_back-requires-clause-apart : goal.give_back-requires-clause-apart
give_back-requires-clause-apart c = λ r.
    subst (λ p. here p r + uses_free c.add_page.new.self.pages c.args.free.now r ≤ 1) (sym c.in_ok-page.ensures.number)
    ((more ((goal.at.give_back-requires-clause-apart c).In_ok-page)).apart r)

pub returns-clause-made : goal.returns-clause-made
returns-clause-made c =
    let a = c.args.store.now.pages in
    let b = c.add_page.new.self.pages in
    let e = c.give_back.new.store.pages in
    let number : c.in_ok-page.page ≡ length a = c.in_ok-page.ensures.number in
    grown a b e c.args.free.now c.give_back.new.free (more ((goal.at.returns-clause-made c).In_ok-page)) c.in_ok-page.ensures.count_bounded c.requires.apart c.give_back.ensures.count c.give_back.ensures.list
    (λ r. c.give_back.ensures.uses r ∙ ap (λ p. here p r + uses_free b c.args.free.now r) number)
    (λ r ne. c.give_back.ensures.others r (λ same. ne (same ∙ number)))
    c.give_back.ensures.length
