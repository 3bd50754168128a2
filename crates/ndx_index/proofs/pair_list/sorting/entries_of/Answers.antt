use Rattle.std.proofs.Common.{◌≡◌, ℕ, ◌<◌, List, [], ◌∷◌, ◌++◌, length, map, drop, ap, sym, subst, below_more, ◌∙◌, arith}
use Rattle.ndx_index.specs.declared.pair_list.sorting.SortEntry.{SortEntry}
use Rattle.ndx_index.specs.Places.{counted}
use Rattle.ndx_index.specs.Slots.{slot_at}
use Rattle.ndx_index.specs.Sorting.{entry_of_place, AreBytes}
use Rattle.ndx_index.proofs.EntryOrder.{entries-push}
use Rattle.ndx_index.proofs.pair_list.sorting.entries_of.Goals as goal

pub loop-place-preserved : goal.loop-place-preserved
loop-place-preserved c =
    let ps = c.args.pairs.now.pairs in
    let start = c.args.start in
    let i = c.loop-place.place in
    let P : ℕ → Type 0 = λ k. AreBytes (drop start (slot_at ps k).key) in record {
      entries = c.in_ok-push.ensures.items ∙ ap (λ (xs : List SortEntry). xs ++ c.entry_at.result ∷ []) c.loop-place.invariant.entries
          ∙ ap (λ (e : SortEntry). map (entry_of_place start ps) (counted 0 i) ++ e ∷ []) c.entry_at.ensures.entry ∙ sym (entries-push start ps i);
      bytes = below_more P i c.loop-place.invariant.bytes c.entry_at.ensures.bytes;
    }

pub returns : goal.returns
returns c =
    let ps = c.args.pairs.now.pairs in
    let start = c.args.start in
    let all : c.loop-place.place ≡ length ps = omega (arith, c.len-count.ensures.count, c.loop-place-test.false) in
    let P : ℕ → Type 0 = λ n. (k : ℕ) → k < n → AreBytes (drop start (slot_at ps k).key) in
    record { entries = c.loop-place.invariant.entries ∙ ap (λ (n : ℕ). map (entry_of_place start ps) (counted 0 n)) all; bytes = subst P all c.loop-place.invariant.bytes }
