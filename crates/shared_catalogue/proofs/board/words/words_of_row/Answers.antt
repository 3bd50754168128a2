use Rattle.std.proofs.Common.{ap, ◌∙◌}
use Rattle.shared_catalogue.specs.RowWords.{row_of_words}
use Rattle.shared_catalogue.proofs.WordLaws.{read_back}
use Rattle.shared_catalogue.proofs.board.words.words_of_row.Goals as goal

pub returns-clause-read_back : goal.returns-clause-read_back
returns-clause-read_back c = ap row_of_words c.words.ensures.value ∙ read_back c.args.row.now c.audit_row.ensures.small
