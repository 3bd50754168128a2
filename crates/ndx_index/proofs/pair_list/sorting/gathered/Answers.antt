use Rattle.std.proofs.Common.{◌≡◌, ℕ, ◌<◌, List, [], ◌∷◌, ◌++◌, length, map, take, get_or, ap, sym, ◌∙◌, arith}
use Rattle.ndx_index.specs.declared.pair.Pair.{Pair}
use Rattle.ndx_index.specs.Sorting.{pair_of_entry}
use Rattle.ndx_index.proofs.EntryOrder.{pairs-push, no_entry}
use Rattle.ndx_index.proofs.pair_list.sorting.gathered.Goals as goal

pub loop-entry-preserved : goal.loop-entry-preserved
loop-entry-preserved c =
    let ps = c.args.pairs.now.pairs in
    let es = c.args.entries.now in
    let i = c.loop-entry.entry-index in
    let lt : i < length es = omega (arith, c.loop-entry-test.true) in
    let e = get_or es i no_entry in
    let its : Pair = pair_of_entry ps e in
    let p : Pair = record { key = c.key.result.now; number = e.number } in
    let key : p ≡ record { key = its.key; number = e.number } = ap (λ (k : List ℕ). record { key = k; number = e.number }) c.key.ensures.key in
    let number : record { key = its.key; number = e.number } ≡ its = ap (λ (n : ℕ). record { key = its.key; number = n }) (c.requires.places i no_entry lt).1 in
    let own : p ≡ its = key ∙ number in record {
      pairs = c.push.ensures.pairs ∙ ap (λ (qs : List Pair). qs ++ p ∷ []) c.loop-entry.invariant.pairs
          ∙ ap (λ (q : Pair). map (pair_of_entry ps) (take i es) ++ q ∷ []) own ∙ sym (pairs-push ps es i no_entry lt);
      key_len = c.push.ensures.key_len ∙ c.loop-entry.invariant.key_len;
      room = omega (arith, c.push.ensures.spare, c.loop-entry.invariant.room);
    }
