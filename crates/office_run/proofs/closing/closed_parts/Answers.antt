use Rattle.std.proofs.Common.{◌∙◌}
use Rattle.office_run.proofs.HandingLaws.{are_end_of}
use Rattle.office_run.proofs.closing.closed_parts.Goals as goal
use Rattle.office_run.proofs.closing.closed_parts.Goals.{then-with_entries, else-with_entries}

pub returns-clause-tables : goal.returns-clause-tables
returns-clause-tables c =
    let named = c.deref.ensures.value ∙ c.in_ok-names.ensures.value in
    c.in_ok-handed_over.ensures.value c.args.closed
    (elim c.if-with_entries.branch [
      | then-with_entries w ↦ are_end_of c.args.closed _ _ named (rw w.tables-is w.into_parts.ensures.tables) (rw w.tables-is w.into_parts.ensures.count)
      | else-with_entries w ↦ are_end_of c.args.closed _ _ named (rw w.tables-is w.into_tables.ensures.value) (rw w.tables-is w.into_tables.ensures.count)
    ])
