use Rattle.std.proofs.Common.{subst}
use Rattle.ndx_index.specs.Order.{AreInOrder}
use Rattle.ndx_index.proofs.TwinLaws.{is_twin}
use Rattle.ndx_index.proofs.pages.store.PageStore.place.Goals as goal

pub place-requires : goal.place-requires
place-requires c =
    let twin = is_twin c.self.view_is c.self.invariant c.requires.page in
    record { page = twin.pairs_index; order = subst AreInOrder twin.pairs c.requires.order }

pub returns : goal.returns
returns c =
    let twin = is_twin c.self.view_is c.self.invariant c.requires.page in
    record {
      within = rw twin.pairs c.place.ensures.within;
      below = rw twin.pairs c.place.ensures.below;
      above = rw twin.pairs c.place.ensures.above;
    }
