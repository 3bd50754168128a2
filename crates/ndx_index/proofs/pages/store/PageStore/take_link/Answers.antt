use Rattle.std.proofs.Common.{arith}
use Rattle.std.specs.List.{remove}
use Rattle.ndx_index.proofs.TwinLaws.{is_twin, links_changed, links-remove}
use Rattle.ndx_index.proofs.pages.store.PageStore.take_link.Goals as goal

pub remove-requires : goal.remove-requires
remove-requires c =
    let twin = is_twin c.self.view_is c.self.invariant c.requires.page in
    record { page = twin.links_index; place = omega (arith, twin.link_count, c.requires.place) }

pub returns-clause-pages : goal.returns-clause-pages
returns-clause-pages c = links_changed (λ l. remove l c.args.at) (λ ls. remove ls c.args.at) (λ l. links-remove l c.args.at) c.self.view_is c.self.invariant c.requires.page c.remove.ensures.pages
