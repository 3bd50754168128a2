use Rattle.std.proofs.Common.{arith}
use Rattle.std.specs.List.{remove}
use Rattle.ndx_index.proofs.TwinLaws.{is_twin, pairs_changed}
use Rattle.ndx_index.proofs.pages.store.PageStore.take_pair.Goals as goal

pub remove-requires : goal.remove-requires
remove-requires c =
    let twin = is_twin c.self.view_is c.self.invariant c.requires.page in
    record { page = twin.pairs_index; place = omega (arith, twin.pair_count, c.requires.place) }

pub returns-clause-pages : goal.returns-clause-pages
returns-clause-pages c = pairs_changed (λ l. remove l c.args.at) c.self.view_is c.self.invariant c.requires.page c.remove.ensures.pages
