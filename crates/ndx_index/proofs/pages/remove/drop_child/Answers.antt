use Rattle.std.proofs.Common.{◌≡◌, suc, ◌-◌, ap, arith}
use Rattle.ndx_index.specs.PageStore.{page_in, keys_without}
use Rattle.ndx_index.proofs.TreeRemove.{both_taken}
use Rattle.ndx_index.proofs.pages.remove.drop_child.Goals as goal

pub returns-then-at-gt0-clause-dropped : goal.returns-then-at-gt0-clause-dropped
returns-then-at-gt0-clause-dropped c =
    let a = c.args.store.now.pages in
    let p = c.args.page in
    let e : c.args.at ≡ suc (c.args.at - 1) = omega (arith, c.if-at-gt0.true) in
    both_taken a c.take_link.new.self.pages c.take_pair.new.self.pages p c.args.at (c.args.at - 1) c.requires.there c.take_link.ensures.pages c.take_pair.ensures.pages (ap (λ k. keys_without k (page_in a p).pairs) e)

pub returns-then-pair_count-gt0-clause-dropped : goal.returns-then-pair_count-gt0-clause-dropped
returns-then-pair_count-gt0-clause-dropped c =
    let a = c.args.store.now.pages in
    let p = c.args.page in
    let e : c.args.at ≡ 0 = omega (arith, c.if-at-gt0.false) in
    both_taken a c.take_link.new.self.pages c.take_pair-then-pair_count-gt0.new.self.pages p c.args.at 0 c.requires.there c.take_link.ensures.pages c.take_pair-then-pair_count-gt0.ensures.pages (ap (λ k. keys_without k (page_in a p).pairs) e)
