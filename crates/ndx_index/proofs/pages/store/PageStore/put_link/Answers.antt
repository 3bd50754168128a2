use Rattle.std.proofs.Common.{rules, arith}
use Rattle.std.specs.List.{insert}
use Rattle.ndx_index.specs.declared.pair.Pair.{Pair}
use Rattle.ndx_index.proofs.TwinLaws.{is_twin, links_changed, links-insert}
use Rattle.ndx_index.proofs.pages.store.PageStore.put_link.Goals as goal

pub insert-requires : goal.insert-requires
insert-requires c =
    let twin = is_twin c.self.view_is c.self.invariant c.requires.page in
    record {
      page = twin.links_index;
      room = omega (arith, twin.link_count, c.requires.room);
      place = omega (arith, twin.link_count, c.requires.place);
      key = search rules;
    }

pub returns-clause-pages : goal.returns-clause-pages
returns-clause-pages c =
    let bare : Pair = record { key = c.new.result; number = c.args.link } in
    links_changed (λ l. insert l c.args.at bare) (λ ls. insert ls c.args.at c.args.link) (λ l. links-insert l c.args.at bare) c.self.view_is c.self.invariant c.requires.page c.insert.ensures.pages
