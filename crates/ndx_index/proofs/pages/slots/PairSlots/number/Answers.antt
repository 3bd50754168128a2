use Rattle.std.proofs.Common.{◌<◌, length, arith}
use Rattle.std.proofs.lemmas.List.{get_or_read}
use Rattle.ndx_index.proofs.RunLaws.{count_is, pair_there}
use Rattle.ndx_index.proofs.pages.slots.PairSlots.number.Goals as goal

pub index-requires : goal.index-requires
index-requires c = omega (arith, c.requires.place, count_is c.self.inside c.args.self.now c.self.view_is, c.self.inside.numbers.ok.0)

pub returns : goal.returns
returns c =
    let inside = c.self.inside in
    let lt : c.args.at < length inside.numbers.items = omega (arith, c.requires.place, count_is inside c.args.self.now c.self.view_is) in
    record {
      number = rw (← c.self.view_is, pair_there inside.key_len inside.keys.items inside.numbers.items c.args.at lt)
          (get_or_read inside.numbers.items c.args.at c.index.result.now lt c.index.ensures 0);
    }
