use Rattle.audit_program.proofs.RunLoads.{fails_for_loads}
use Rattle.audit_program.proofs.RunJournals.{as_reindexed, entries_of_run, is_whole, never_refuted, only_memory, opened_by}
use Rattle.audit_program.proofs.RunFiles.{files_of_run}
use Rattle.audit_program.proofs.law.journals_of_runs_hold.Goals as goal

pub returns-clause-opened : goal.returns-clause-opened
returns-clause-opened c files setup reindex today written counts served = opened_by files setup reindex served.tables served.answers counts.all served.run

pub returns-clause-whole : goal.returns-clause-whole
returns-clause-whole c files setup reindex today written counts served not_whole = is_whole files setup reindex today written counts served not_whole

pub returns-clause-journal : goal.returns-clause-journal
returns-clause-journal c files setup reindex today written counts served journal whole is =
    (as_reindexed files setup reindex today written counts served journal whole is, entries_of_run files setup reindex today written counts served journal whole is)

pub returns-clause-holds : goal.returns-clause-holds
returns-clause-holds c files setup reindex today written counts served journal whole is fault refuted =
    only_memory _ _ _ fault (entries_of_run files setup reindex today written counts served journal whole is) refuted

pub returns-clause-never_refuted : goal.returns-clause-never_refuted
returns-clause-never_refuted c files later options today written counts served still there why is failed =
    never_refuted files later options today written counts served still there why is failed

pub returns-clause-same_files : goal.returns-clause-same_files
returns-clause-same_files c files later options today written counts served still there few long made audited wrote_tables wrote lines =
    files_of_run files later options today written counts served still there few long made audited wrote_tables wrote lines

pub returns-clause-loads_alone : goal.returns-clause-loads_alone
returns-clause-loads_alone c files later options today written counts served still there before after why failed failure =
    fails_for_loads files later options today written counts served still there before after why failed failure
