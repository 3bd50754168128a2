use Rattle.std.proofs.Common.{◌≡◌, ℕ, ◌-◌, ◌<◌, List, [], ◌∷◌, ◌++◌, length, get_or, sym, ap, ◌∙◌, arith}
use Rattle.ndx_index.specs.declared.pair.Pair.{Pair}
use Rattle.ndx_index.specs.Renumbered.{new_number}
use Rattle.ndx_index.specs.Slots.{slot_at, no_pair}
use Rattle.ndx_index.specs.Laws.Renumbered.{renumbered_kept, renumbered_gone}
use Rattle.ndx_index.proofs.pair_list.PairList.renumbered.Goals.{then-number-ne0, else-number-ne0}
use Rattle.ndx_index.proofs.pair_list.PairList.renumbered.Goals as goal

pub loop-at-preserved : goal.loop-at-preserved
loop-at-preserved c =
    let ps = c.args.self.now.pairs in
    let ns = c.args.numbers.now in
    let at = c.loop-at.at in
    let m : ℕ = get_or ns (c.number.result - 1) 0 in
    let is : m ≡ new_number ns (slot_at ps at) = ap (λ (n : ℕ). get_or ns (n - 1) 0) c.number.ensures.number in
    let lt : at < length ps = omega (arith, c.len-count.ensures.count) in
    elim c.if-number-ne0.branch [
      | then-number-ne0 w ↦
          let p : Pair = record { key = w.key.result.now; number = m } in
          record {
            pairs = rw w.slots-is (w.push.ensures.pairs ∙ ap (λ (qs : List Pair). qs ++ p ∷ []) c.loop-at.invariant.pairs
                ∙ renumbered_kept ns ps at no_pair w.key.result.now m lt is w.key.ensures.key w.if-number-ne0.true);
            key_len = rw w.slots-is (w.push.ensures.key_len ∙ c.loop-at.invariant.key_len);
            room = rw w.slots-is (omega (arith, w.push.ensures.spare, c.loop-at.invariant.room));
          }
      | else-number-ne0 w ↦ record {
        pairs = rw w.slots-is (c.loop-at.invariant.pairs ∙ sym (renumbered_gone ns ps at no_pair m lt is w.if-number-ne0.false));
        key_len = rw w.slots-is c.loop-at.invariant.key_len;
        room = rw w.slots-is (omega (arith, c.loop-at.invariant.room));
      }
    ]
