use Rattle.table_loader.proofs.RowsBack.{printed_again}
use Rattle.table_loader.proofs.load.printed_table_is_loaded.Goals as goal

pub returns : goal.returns
returns c = record { same = printed_again }
