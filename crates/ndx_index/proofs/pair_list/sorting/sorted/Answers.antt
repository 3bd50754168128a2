use Rattle.std.proofs.Common.{◌≡◌, List, map, ap, subst, sym, ◌∙◌}
use Rattle.std.specs.Prelude.{All}
use Rattle.std.specs.List.Sorted.{IsPermutation}
use Rattle.ndx_index.specs.declared.pair_list.sorting.SortEntry.{SortEntry}
use Rattle.ndx_index.specs.Sorting.{pair_of_entry, IsOfPlace}
use Rattle.ndx_index.specs.Order.{in_order}
use Rattle.ndx_index.proofs.EntryOrder.{sorted_places, in_order_from_entries}
use Rattle.ndx_index.proofs.pair_list.sorting.sorted.Goals as goal

pub gathered-requires : goal.gathered-requires
gathered-requires c =
    let ps = c.args.pairs.now.pairs in
    let es = c.put_in_order.new.entries.items in
    let perm = subst (λ (xs : List SortEntry). IsPermutation xs es) c.in_ok-entries.ensures.entries c.put_in_order.ensures.permutation in
    record { places = subst (All (IsOfPlace ps)) (sym c.as_slice.ensures.value) (sorted_places c.front_start-start.result ps es perm) }

pub returns-clause-pairs : goal.returns-clause-pairs
returns-clause-pairs c =
    let ps = c.args.pairs.now.pairs in
    let es = c.put_in_order.new.entries.items in
    let perm = subst (λ (xs : List SortEntry). IsPermutation xs es) c.in_ok-entries.ensures.entries c.put_in_order.ensures.permutation in
    let whole : map (pair_of_entry ps) c.as_slice.result.now ≡ in_order ps =
    ap (map (pair_of_entry ps)) c.as_slice.ensures.value ∙ in_order_from_entries c.front_start-start.result ps es perm c.put_in_order.ensures.sorted in
    rw whole at c.gathered.ensures.pairs
