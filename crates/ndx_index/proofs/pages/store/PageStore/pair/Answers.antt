use Rattle.std.proofs.Common.{List, ap, sym, ◌∙◌, arith}
use Rattle.ndx_index.specs.declared.pair.Pair.{Pair}
use Rattle.ndx_index.specs.Slots.{slot_at}
use Rattle.ndx_index.proofs.TwinLaws.{is_twin}
use Rattle.ndx_index.proofs.pages.store.PageStore.pair.Goals as goal

pub get-requires : goal.get-requires
get-requires c =
    let twin = is_twin c.self.view_is c.self.invariant c.requires.page in
    record { page = twin.pairs_index; place = omega (arith, twin.pair_count, c.requires.place) }

pub returns-clause-pair : goal.returns-clause-pair
returns-clause-pair c = c.get.ensures.pair ∙ ap (λ (l : List Pair). slot_at l c.args.at) (sym (is_twin c.self.view_is c.self.invariant c.requires.page).pairs)
