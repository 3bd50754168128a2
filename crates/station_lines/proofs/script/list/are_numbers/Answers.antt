use Rattle.std.proofs.Common.{List, ℕ, rules, tests}
use Rattle.std.specs.Prelude.{is_some}
use Rattle.std.proofs.lemmas.Iterator.Search.{all_from_yields_List}
use Rattle.std.proofs.lemmas.Iterator.Splits.{YieldsList-from_slice_split}
use Rattle.station_lines.specs.Script.Parts.{count_in}
use Rattle.station_lines.proofs.script.list.are_numbers.Goals as goal

pub returns : goal.returns
returns c = record {
  value = all_from_yields_List (λ (part : List ℕ). is_some (count_in part)) _ _ _ c.all.ensures.ran
      (YieldsList-from_slice_split _ _ c.args.list.now c.split.ensures.rest c.split.ensures.done c.split.ensures.closure (λ x r q k. search (rules, tests)))
      (λ x r q k. search (rules, tests));
}
