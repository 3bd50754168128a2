use Rattle.std.proofs.Common.{ap, ◌∙◌, set}
use Rattle.catalogue_core.specs.declared.status.TableStatus.{TableStatus}
use Rattle.shared_catalogue.specs.RowWords.{status_in}
use Rattle.shared_catalogue.specs.StatusRows.{free_status}
use Rattle.shared_catalogue.proofs.WordLaws.{tables_more}
use Rattle.shared_catalogue.proofs.board.words.row_of_words.Goals as goal

pub loop-index-preserved : goal.loop-index-preserved
loop-index-preserved c =
    let i = c.loop-index.index in
    ap (λ (t : TableStatus). set c.loop-index.tables i t) c.status_in.ensures.value ∙ tables_more (status_in c.args.words.now) i free_status c.loop-index.tables c.loop-index-test.true c.loop-index.invariant
