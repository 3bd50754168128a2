use Rattle.table_loader.proofs.MarkLaws.{passed_over}
use Rattle.table_loader.proofs.load.mark_is_passed_over.Goals as goal

pub returns : goal.returns
returns c = record { passed = passed_over }
