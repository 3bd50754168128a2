use Rattle.std.proofs.Common.{◌≡◌, ◌+◌, List, length, ap, sym, subst, ◌∙◌, nat_eq, arith}
use Rattle.std.proofs.lemmas.List.{with_items_is}
use Rattle.std.specs.Vec.{with_items}
use Rattle.std.specs.List.{list_any}
use Rattle.std.specs.FinMap as map
use Rattle.dbf_image.specs.declared.memo_store.block.MemoBlock.{MemoBlock}
use Rattle.dbf_image.specs.MemoChains.{blocks_owned, IsChain, AreHeld, AreCounted}
use Rattle.dbf_image.specs.MemoSteps.{Marks, Sweeps}
use Rattle.dbf_image.specs.TextBlocks.{BlockTexts, block_total, stored_texts}
use Rattle.dbf_image.proofs.MemoDropping.{marked_held, marked_counted, swept_held, swept_counted, swept_chain, swept_free, dropped, drop_keeps_free}
use Rattle.dbf_image.proofs.MemoTotals.{total_is}
use Rattle.dbf_image.proofs.memo_store.text_blocks.TextBlocks.drop_unused.Goals as goal

marked : (c : goal.After-self-3-1) → Marks c.self.inside.blocks.items c.mark.new.blocks c.args.numbers.now
marked c = subst (λ (l : List MemoBlock). Marks l c.mark.new.blocks c.args.numbers.now) c.deref_mut.ensures.value c.mark.ensures.marks

-- the blocks that the sweep is given
given : (c : goal.After-self-3-1) → c.deref_mut-2.result.now ≡ c.mark.new.blocks
given c = c.deref_mut-2.ensures.value ∙ with_items_is c.self.inside.blocks c.mark.new.blocks (c.mark.ensures.marks.same_length ∙ c.deref_mut.ensures.len)

swept : (c : goal.After-self-3-1) → Sweeps (length c.mark.new.blocks) c.mark.new.blocks c.sweep-self-inside.new.blocks c.sweep-self-inside.result
swept c = subst (λ (l : List MemoBlock). Sweeps (length l) l c.sweep-self-inside.new.blocks c.sweep-self-inside.result) (given c) c.sweep-self-inside.ensures.sweeps

-- the blocks after the call
after : (c : goal.After-self-3-1) → (with_items (with_items c.self.inside.blocks c.mark.new.blocks) c.sweep-self-inside.new.blocks).items ≡ c.sweep-self-inside.new.blocks
after c = with_items_is (with_items c.self.inside.blocks c.mark.new.blocks) c.sweep-self-inside.new.blocks (c.sweep-self-inside.ensures.sweeps.same_length ∙ c.deref_mut-2.ensures.len)

pub invariant_of-self : goal.invariant_of-self
invariant_of-self c =
    let m = marked c in
    let s = swept c in
    let is = sym (after c) in
    let long = ap (length {A = MemoBlock}) (after c) in
    record {
      free = subst (λ (l : List MemoBlock). IsChain 0 c.sweep-self-inside.result.count l c.sweep-self-inside.result.head) is (swept_chain _ _ _ s);
      all_free = swept_free _ _ _ s ∙ ap (blocks_owned 0) is;
      counted = subst (λ (l : List MemoBlock). AreCounted l) is (swept_counted _ _ _ (marked_held _ _ _ c.self.invariant.held m) (marked_counted _ _ _ c.self.invariant.held c.self.invariant.counted m) s);
      held = subst (λ (l : List MemoBlock). AreHeld l) is (swept_held _ _ _ (marked_held _ _ _ c.self.invariant.held m) s);
      count_bounded = omega (arith, long, s.count_bounded, s.same_length);
      room = omega (arith, long, s.same_length, m.same_length, c.self.invariant.room);
      numbers = omega (arith, long, s.same_length, m.same_length, c.self.invariant.numbers);
    }

pub returns-clause-texts : goal.returns-clause-texts
returns-clause-texts c =
    ap stored_texts (after c) ∙ dropped _ _ _ _ _ c.self.invariant.held (marked c) (swept c)
    ∙ ap (λ (v : BlockTexts). map.retain_keys v.texts (λ q. list_any (nat_eq q) c.args.numbers.now)) c.self.view_is

pub returns-clause-spare : goal.returns-clause-spare
returns-clause-spare c =
    let more = drop_keeps_free c.self.inside.free.count c.self.inside.free.head _ _ _ _ _ c.self.invariant.free (marked c) (swept c) in
    omega (arith, more, ap (λ (v : BlockTexts). v.spare) c.self.view_is)

pub returns-clause-blocks : goal.returns-clause-blocks
returns-clause-blocks c =
    let long = ap (length {A = MemoBlock}) (after c) ∙ (swept c).same_length ∙ (marked c).same_length in
    total_is _ (invariant_of-self c)
    ∙ ap (λ n. n + c.self.inside.ready) long
    ∙ sym (total_is c.self.inside c.self.invariant) ∙ ap block_total c.self.view_is
