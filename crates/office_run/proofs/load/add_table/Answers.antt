use Rattle.office_run.proofs.NamesLaws.{one_more_named}
use Rattle.office_run.proofs.load.add_table.Goals as goal

pub returns-clause-names : goal.returns-clause-names
returns-clause-names c = one_more_named _ _ _ _ c.args.table c.requires.names c.in_ok-add.ensures.ok c.in_ok-push.ensures.items
