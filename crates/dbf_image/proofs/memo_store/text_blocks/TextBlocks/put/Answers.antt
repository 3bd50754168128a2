use Rattle.std.proofs.Common.{◌≡◌, suc, ◌+◌, ◌-◌, ◌<◌, ◌≤◌, List, length, ap, sym, subst, ◌∙◌, arith}
use Rattle.std.proofs.lemmas.List.{with_items_is}
use Rattle.std.specs.FinMap as map
use Rattle.dbf_image.specs.declared.memo_store.block.MemoBlock.{MemoBlock}
use Rattle.dbf_image.specs.MemoChains.{blocks_owned, IsChain, AreHeld, AreCounted}
use Rattle.dbf_image.specs.MemoSteps.{Fills}
use Rattle.dbf_image.specs.TextBlocks.{BlockTexts, stored_texts}
use Rattle.dbf_image.proofs.MemoOwners.{grown_free}
use Rattle.dbf_image.proofs.MemoPutting.{Puts, put_grown}
use Rattle.dbf_image.proofs.memo_store.text_blocks.TextBlocks.put.Goals as goal

done : (c : goal.After-self-3-1) → Puts c.self.inside.blocks.items c.fill-self-inside.new.blocks (c.push_free-self-inside.result.head + 1) c.args.text.now
done c =
    let free = c.push_free-self-inside.result in
    let pushed = c.push_free-self-inside.ensures in
    let count = c.blocks_for-count.result in
    let some : 0 < count = omega (arith, c.requires.some, c.blocks_for-count.ensures.enough) in
    let room : 0 < free.count = omega (arith, some, pushed.count, c.saturating_sub-more.ensures) in
    put_grown count c.self.inside.blocks.items c.push_free-self-inside.new.blocks.items c.fill-self-inside.new.blocks free c.fill-self-inside.result c.args.text.now c.self.invariant.held c.self.invariant.counted pushed.grown c.blocks_for-count.ensures.value some room pushed.chain
    (subst (λ (l : List MemoBlock). Fills l c.fill-self-inside.new.blocks free c.fill-self-inside.result (free.head + 1) count c.args.text.now) c.deref_mut.ensures.value c.fill-self-inside.ensures.fills)

-- the blocks after the call
after : (c : goal.After-self-3-1) → length c.fill-self-inside.new.blocks ≡ c.push_free-self-inside.new.blocks.len
after c = c.fill-self-inside.ensures.fills.same_length ∙ c.deref_mut.ensures.len

few_more : (c : goal.After-self-3-1) → c.saturating_sub-more.result ≤ c.self.inside.ready
few_more c = omega (arith, c.saturating_sub-more.ensures, c.blocks_for-count.ensures.value, c.requires.room, ap (λ (v : BlockTexts). v.spare) c.self.view_is)

whole_length : (c : goal.After-self-3-1) → length c.self.inside.blocks.items + c.saturating_sub-more.result ≡ length c.fill-self-inside.new.blocks
whole_length c = sym c.push_free-self-inside.ensures.longer ∙ sym c.push_free-self-inside.new.blocks.ok.0 ∙ sym (after c)

pub invariant_of-self : goal.invariant_of-self
invariant_of-self c =
    let e = c.fill-self-inside.ensures.fills in
    let pushed = c.push_free-self-inside.ensures in
    let v = c.push_free-self-inside.new.blocks in
    let ys = c.fill-self-inside.new.blocks in
    let is = sym (with_items_is v ys (after c)) in
    let long = ap (length {A = MemoBlock}) is in
    let inside = c.self.invariant in
    let more = few_more c in
    let whole = whole_length c in
    record {
      free = subst (λ (l : List MemoBlock). IsChain 0 c.fill-self-inside.result.count l c.fill-self-inside.result.head) is e.still_free;
      all_free = omega (arith, e.left, e.taken, ap (blocks_owned 0) c.deref_mut.ensures.value, grown_free _ _ pushed.grown, pushed.longer, pushed.count, inside.all_free) ∙ ap (blocks_owned 0) is;
      held = subst (λ (l : List MemoBlock). AreHeld l) is (done c).held;
      counted = subst (λ (l : List MemoBlock). AreCounted l) is (done c).counted;
      count_bounded = omega (arith, sym long, whole, e.left, pushed.count, inside.count_bounded);
      room = omega (arith, sym long, whole, more, pushed.capacity, inside.room);
      numbers = omega (arith, sym long, whole, more, inside.numbers);
    }

pub returns-clause-fresh : goal.returns-clause-fresh
returns-clause-fresh c = ap (λ (v : BlockTexts). map.get v.texts (c.push_free-self-inside.result.head + 1)) (sym c.self.view_is) ∙ (done c).fresh

pub returns-clause-texts : goal.returns-clause-texts
returns-clause-texts c =
    ap stored_texts (with_items_is c.push_free-self-inside.new.blocks c.fill-self-inside.new.blocks (after c)) ∙ (done c).texts
    ∙ ap (λ (v : BlockTexts). map.insert v.texts (c.push_free-self-inside.result.head + 1) c.args.text.now) c.self.view_is

pub returns-clause-below : goal.returns-clause-below
returns-clause-below c =
    let free = c.push_free-self-inside.result in
    let pushed = c.push_free-self-inside.ensures in
    let some : 0 < c.blocks_for-count.result = omega (arith, c.requires.some, c.blocks_for-count.ensures.enough) in
    let k : free.count ≡ suc (free.count - 1) = omega (arith, some, pushed.count, c.saturating_sub-more.ensures) in
    let there = (subst (λ n. IsChain 0 n c.push_free-self-inside.new.blocks.items free.head) k pushed.chain).0 in
    omega (arith, there, pushed.longer, few_more c, c.self.invariant.numbers)

pub returns-clause-spare : goal.returns-clause-spare
returns-clause-spare c =
    omega (arith, c.fill-self-inside.ensures.fills.left, c.push_free-self-inside.ensures.count, few_more c, c.blocks_for-count.ensures.value, ap (λ (v : BlockTexts). v.spare) c.self.view_is)
