use Rattle.std.proofs.Common.{length}
use Rattle.office_run.proofs.OpenLaws.{opens_as_left}
use Rattle.office_run.proofs.WrittenFiles.{read_again, again_read, file_for}
use Rattle.office_run.proofs.read_back.written_files_read_back.Goals as goal

pub returns-clause-table : goal.returns-clause-table
returns-clause-table c table t blocks_fit year month day read = (read_again year month day table read t blocks_fit, again_read year month day table read t blocks_fit)

pub returns-clause-index : goal.returns-clause-index
returns-clause-index c table index t i file = file_for table index file t i

pub returns-clause-opens : goal.returns-clause-opens
returns-clause-opens c files setup reindex today old new count served =
    let run = served.run in
    opens_as_left reindex (length run.read.scripts) run.read.tables run.history served.tables run.run.opened run.handed served.few_blocks
