use Rattle.table_diff.proofs.KeySame.{told_by_key}
use Rattle.table_diff.proofs.diff.nothing_is_told_of_the_same_by_key.Goals as goal

pub returns : goal.returns
returns c = record { told = told_by_key }
