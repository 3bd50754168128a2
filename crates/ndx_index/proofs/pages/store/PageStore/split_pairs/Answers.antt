use Rattle.std.proofs.Common.{arith}
use Rattle.ndx_index.proofs.TwinLaws.{is_twin, pairs_moved}
use Rattle.ndx_index.proofs.pages.store.PageStore.split_pairs.Goals as goal

pub split-requires : goal.split-requires
split-requires c =
    let twin = is_twin c.self.view_is c.self.invariant c.requires.page in
    record {
      page = twin.pairs_index;
      place = omega (arith, twin.pair_count, c.requires.place);
      to = (is_twin c.self.view_is c.self.invariant c.requires.to).pairs_index;
      apart = c.requires.apart;
    }

pub returns-clause-pages : goal.returns-clause-pages
returns-clause-pages c = pairs_moved c.args.at c.self.view_is c.self.invariant c.requires.page c.requires.to c.split.ensures.pages
