use Rattle.std.proofs.Common.{List, ℕ, rules, tests}
use Rattle.std.proofs.lemmas.Iterator.{YieldsList-from_map, items_from_collect}
use Rattle.std.proofs.lemmas.Iterator.Consumers.{YieldsList-at}
use Rattle.std.proofs.lemmas.Iterator.Splits.{YieldsList-from_slice_split}
use Rattle.station_lines.specs.Script.Parts.{count_in}
use Rattle.station_lines.specs.Script.Reading.{number_or_zero}
use Rattle.station_lines.proofs.script.list.numbers_of.Goals as goal

pub returns : goal.returns
returns c = record {
  value = items_from_collect _ c.collect.ensures.ran
      (YieldsList-from_map _ (λ (part : List ℕ). number_or_zero (count_in part))
      (YieldsList-at c.map.ensures.source
      (YieldsList-from_slice_split _ _ c.args.list.now c.split.ensures.rest c.split.ensures.done c.split.ensures.closure (λ x r q k. search (rules, tests))))
      c.map.ensures.closure (λ x r q k. search (rules, tests)));
}
