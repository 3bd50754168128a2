use Rattle.std.proofs.Common.{List, ℕ, length, ap, ◌∙◌}
use Rattle.dbf_image.proofs.MemoHeld.{held_found, held_text}
use Rattle.dbf_image.proofs.memo_store.text_blocks.TextBlocks.text_length.Goals as goal

pub text_length-requires-clause-positive : goal.text_length-requires-clause-positive
text_length-requires-clause-positive c = (held_found c.self.inside _ _ c.args.number c.self.view_is c.as_slice.ensures.value c.self.invariant c.requires.held).positive

pub text_length-requires-clause-there : goal.text_length-requires-clause-there
text_length-requires-clause-there c = (held_found c.self.inside _ _ c.args.number c.self.view_is c.as_slice.ensures.value c.self.invariant c.requires.held).within

pub text_length-requires-clause-chain : goal.text_length-requires-clause-chain
text_length-requires-clause-chain c = (held_found c.self.inside _ _ c.args.number c.self.view_is c.as_slice.ensures.value c.self.invariant c.requires.held).chain

pub returns : goal.returns
returns c = record { value = c.text_length.ensures.value ∙ ap (λ (t : List ℕ). length t) (held_text c.self.inside _ _ c.args.number c.self.view_is c.as_slice.ensures.value c.self.invariant c.requires.held) }
