use Rattle.std.proofs.Common.{Contains, ap, sym, subst, ◌∙◌}
use Rattle.ndx_index.specs.Index.{Index}
use Rattle.ndx_index.specs.PagedIndex.{HoldsIndex}
use Rattle.ndx_index.proofs.PagedLaws.{holds_inserted}
use Rattle.ndx_index.proofs.index.OrderedIndex.insert.Goals as goal

pub invariant_of-self : goal.invariant_of-self
invariant_of-self c =
    let pairs = ap (λ (v : Index). v.pairs) c.self.view_is in
    let key = c.requires.key ∙ sym (ap (λ (v : Index). v.key_len) c.self.view_is) in
    subst (λ k. HoldsIndex k c.insert_in.new.store.pages c.insert_in.new.free c.insert_in.new.root) (sym c.insert_in.ensures.key_len)
    (holds_inserted _ _ _ _ _ _ _ c.args.pair c.self.invariant key (λ h. c.requires.absent (subst (λ ps. Contains ps c.args.pair) pairs h)) c.insert_in.ensures.inserted)
