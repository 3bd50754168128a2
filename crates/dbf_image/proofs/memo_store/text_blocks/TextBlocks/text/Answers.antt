use Rattle.std.proofs.Common.{List, ℕ, Some, ap, sym, ◌∙◌}
use Rattle.dbf_image.proofs.MemoHeld.{held_at, held_found}
use Rattle.dbf_image.proofs.memo_store.text_blocks.TextBlocks.text.Goals as goal

pub gather-requires-clause-positive : goal.gather-requires-clause-positive
gather-requires-clause-positive c = (held_found c.self.inside _ _ c.args.number c.self.view_is c.as_slice.ensures.value c.self.invariant c.requires.held).positive

pub gather-requires-clause-there : goal.gather-requires-clause-there
gather-requires-clause-there c = (held_found c.self.inside _ _ c.args.number c.self.view_is c.as_slice.ensures.value c.self.invariant c.requires.held).within

pub gather-requires-clause-chain : goal.gather-requires-clause-chain
gather-requires-clause-chain c = (held_found c.self.inside _ _ c.args.number c.self.view_is c.as_slice.ensures.value c.self.invariant c.requires.held).chain

pub returns : goal.returns
returns c =
    let there = held_found c.self.inside _ _ c.args.number c.self.view_is c.as_slice.ensures.value c.self.invariant c.requires.held in
    record { value = held_at c.self.inside _ _ c.args.number c.self.view_is c.as_slice.ensures.value ∙ there.is ∙ ap (λ (t : List ℕ). Some t) (sym (c.from_vec.ensures.value ∙ c.in_ok-text.ensures.value)) }
