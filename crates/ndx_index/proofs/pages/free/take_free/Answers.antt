use Rattle.std.proofs.Common.{◌≡◌, ◌+◌, ◌-◌, ◌≤◌, suc, ap, sym, ◌∙◌, subst, arith}
use Rattle.ndx_index.specs.PageStore.{page_in}
use Rattle.ndx_index.specs.IndexTree.{here, next_free_page, free_uses, AreFree}
use Rattle.ndx_index.proofs.FreeFrame.{FreeFramed, taken}
use Rattle.ndx_index.proofs.pages.free.take_free.Goals as goal
use Rattle.ndx_index.proofs.pages.free.take_free.Goals.{After-clear}

rest : (c : After-clear) → FreeFramed (c.args.free.now.count - 1) c.args.store.now.pages c.clear.new.self.pages (next_free_page (page_in c.args.store.now.pages c.args.free.now.head))
rest c =
    let a = c.args.store.now.pages in
    let f = c.args.free.now in
    let e : f.count ≡ suc (f.count - 1) = omega (arith, c.requires.some) in
    taken (f.count - 1) a c.clear.new.self.pages f.head (subst (λ n. AreFree n a f.head) e c.requires.list) (λ r. subst (λ n. free_uses n a f.head r ≤ 1) e (c.requires.apart r)) c.clear.ensures.pages

pub returns-clause-list : goal.returns-clause-list
returns-clause-list c =
    subst (λ p. AreFree (c.args.free.now.count - 1) c.clear.new.self.pages p) (sym c.link-free.ensures.link) (rest ((goal.at.returns-clause-list c).After-clear)).free

pub returns-clause-uses : goal.returns-clause-uses
returns-clause-uses c = λ r.
    let a = c.args.store.now.pages in
    let b = c.clear.new.self.pages in
    let f = c.args.free.now in
    let e : suc (f.count - 1) ≡ f.count = omega (arith, c.requires.some) in
    ap (λ p. here f.head r + free_uses (f.count - 1) b p r) c.link-free.ensures.link
    ∙ ap (λ n. here f.head r + n) ((rest ((goal.at.returns-clause-uses c).After-clear)).uses_stay r)
    ∙ ap (λ n. free_uses n a f.head r) e
