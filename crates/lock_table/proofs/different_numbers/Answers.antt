use Rattle.lock_table.specs.NumberLaws.{ascending_different, all_different, only_different, one_ascending}
use Rattle.lock_table.proofs.different_numbers.Goals as goal

pub returns : goal.returns
returns c = record { ascending = ascending_different; all = all_different; only = only_different; one_list = one_ascending }
