use Rattle.office_run.proofs.NotedLaws.{all_noted, on_ok}
use Rattle.office_run.proofs.run.read_all.Goals as goal

pub returns-clause-noted : goal.returns-clause-noted
returns-clause-noted g c =
    on_ok c.load_entries.result c.load_entries.ensures.noted
    (λ rest. all_noted _ _ c.args.setup.now c.in_ok-entries.entries.items _ _ _ _ c.in_ok-entries.ensures.kept c.deref.ensures.value c.in_ok-entries.ensures.said c.in_ok-entries.ensures.noted rest)
