use Rattle.std.proofs.Common.{rules, arith}
use Rattle.std.specs.List.{insert}
use Rattle.ndx_index.proofs.TwinLaws.{is_twin, pairs_changed}
use Rattle.ndx_index.proofs.pages.store.PageStore.put_pair.Goals as goal

pub insert-requires : goal.insert-requires
insert-requires c =
    let twin = is_twin c.self.view_is c.self.invariant c.requires.page in
    record {
      page = twin.pairs_index;
      room = omega (arith, twin.pair_count, c.requires.room);
      place = omega (arith, twin.pair_count, c.requires.place);
      key = search rules;
    }

pub returns-clause-pages : goal.returns-clause-pages
returns-clause-pages c = pairs_changed (λ l. insert l c.args.at c.args.pair.now) c.self.view_is c.self.invariant c.requires.page c.insert.ensures.pages
