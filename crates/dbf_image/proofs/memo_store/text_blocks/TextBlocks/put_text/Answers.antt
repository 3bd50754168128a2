use Rattle.dbf_image.proofs.MemoHeld.{held_found, held_text}
use Rattle.dbf_image.proofs.memo_store.text_blocks.TextBlocks.put_text.Goals as goal

pub put_pieces-requires-clause-positive : goal.put_pieces-requires-clause-positive
put_pieces-requires-clause-positive g c = (held_found c.self.inside _ _ c.args.number c.self.view_is c.as_slice.ensures.value c.self.invariant c.requires.held).positive

pub put_pieces-requires-clause-there : goal.put_pieces-requires-clause-there
put_pieces-requires-clause-there g c = (held_found c.self.inside _ _ c.args.number c.self.view_is c.as_slice.ensures.value c.self.invariant c.requires.held).within

pub put_pieces-requires-clause-chain : goal.put_pieces-requires-clause-chain
put_pieces-requires-clause-chain g c = (held_found c.self.inside _ _ c.args.number c.self.view_is c.as_slice.ensures.value c.self.invariant c.requires.held).chain

pub returns : goal.returns
returns g c = record { put = rw (← held_text c.self.inside _ _ c.args.number c.self.view_is c.as_slice.ensures.value c.self.invariant c.requires.held) c.put_pieces.ensures.put }
