use Rattle.std.proofs.Common.{sym, arith}
use Rattle.ndx_index.specs.PageStore.{page_in}
use Rattle.ndx_index.proofs.ChildPlace.{chosen_there}
use Rattle.ndx_index.proofs.pages.child.child_for.Goals as goal

pub link-child-requires-clause-place : goal.link-child-requires-clause-place
link-child-requires-clause-place c = omega (arith, c.place_after-at.ensures.within, c.requires.keys)

pub returns : goal.returns
returns c =
    let found = c.place_after-at.ensures in
    record {
      child = record {
        in_range = omega (arith, found.within, c.requires.keys);
        is = sym c.link-child.ensures.link;
        chosen = chosen_there c.args.pair.now c.place_after-at.result (page_in c.args.store.now.pages c.args.page).pairs found.within found.below found.above;
      };
    }
