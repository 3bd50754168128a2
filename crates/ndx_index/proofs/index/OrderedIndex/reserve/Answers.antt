use Rattle.std.proofs.Common.{ap, sym, subst, ◌∙◌}
use Rattle.ndx_index.specs.Index.{Index}
use Rattle.ndx_index.specs.PagedIndex.{HoldsIndex}
use Rattle.ndx_index.proofs.PagedLaws.{HoldsMore, holds_more}
use Rattle.ndx_index.proofs.index.OrderedIndex.reserve.Goals as goal
use Rattle.ndx_index.proofs.index.OrderedIndex.reserve.Goals.{After-make_free}

more : (c : After-make_free) → HoldsMore c.self.inside.store.key_len c.self.inside.store.pages c.make_free.new.store.pages c.self.inside.free c.make_free.new.free c.self.inside.root
more c = holds_more _ _ _ _ _ c.self.inside.root c.self.invariant c.make_free.ensures.made

pub invariant_of-self : goal.invariant_of-self
invariant_of-self c =
    subst (λ k. HoldsIndex k c.make_free.new.store.pages c.make_free.new.free c.self.inside.root) (sym c.make_free.ensures.key_len) (more c).holds

pub returns-clause-pairs : goal.returns-clause-pairs
returns-clause-pairs c = (more c).pairs ∙ ap (λ (v : Index). v.pairs) c.self.view_is
