use Rattle.table_loader.proofs.ReplaceLaws.{date_kept, number_kept, text_kept, truth_kept}
use Rattle.table_loader.proofs.load.values_are_those_of_replace.Goals as goal

pub returns : goal.returns
returns c = record { text = text_kept; number = number_kept; truth = truth_kept; date = date_kept }
