use Rattle.std.proofs.Common.{List, refl, subst, rules}
use Rattle.std.specs.List.Sorted.{IsPermutation}
use Rattle.ndx_index.specs.declared.pair_list.sorting.SortEntry.{SortEntry}
use Rattle.ndx_index.specs.Sorting.{entry_cmp, front_cmp}
use Rattle.ndx_index.proofs.EntryOrder.{AreKnown, entries_rank, fronts_rank, sorted_by_closure, by_entries, by_fronts_alone}
use Rattle.ndx_index.proofs.pair_list.sorting.put_in_order.Goals as goal

pub returns-then-end_alike-clause-sorted : goal.returns-then-end_alike-clause-sorted
returns-then-end_alike-clause-sorted c =
    let ps = c.args.pairs.now.pairs in
    let es = c.sort_unstable_by.new.self.items in
    let known : AreKnown c.args.pairs.now.key_len c.args.start ps = record { long = c.key_len.ensures.keys; begin = c.requires.alike; bytes = c.requires.bytes } in
    let perm = subst (λ (xs : List SortEntry). IsPermutation xs es) c.requires.entries c.sort_unstable_by.ensures.permutation in
    by_fronts_alone c.args.pairs.now.key_len c.args.start ps es known (c.if-end_alike.ensures.alike refl) perm
    (sorted_by_closure front_cmp es fronts_rank c.sort_unstable_by.ensures.sorted (λ a r f' k. search rules))

pub returns-else-end_alike-clause-sorted : goal.returns-else-end_alike-clause-sorted
returns-else-end_alike-clause-sorted c =
    let ps = c.args.pairs.now.pairs in
    let es = c.sort_unstable_by-else-end_alike.new.self.items in
    let known : AreKnown c.args.pairs.now.key_len c.args.start ps = record { long = c.key_len.ensures.keys; begin = c.requires.alike; bytes = c.requires.bytes } in
    let perm = subst (λ (xs : List SortEntry). IsPermutation xs es) c.requires.entries c.sort_unstable_by-else-end_alike.ensures.permutation in
    by_entries c.args.pairs.now.key_len c.args.start ps es known perm
    (sorted_by_closure (entry_cmp ps) es (entries_rank ps) c.sort_unstable_by-else-end_alike.ensures.sorted (λ a r f' k. search rules))
