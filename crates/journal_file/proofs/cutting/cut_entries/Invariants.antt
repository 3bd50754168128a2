use Rattle.journal_file.proofs.TextLaws.{HasTakenEntries}
use Rattle.journal_file.proofs.cutting.cut_entries.Given as goal

abbrev pub invariant-loop : goal.invariant-loop
invariant-loop l = HasTakenEntries l.text l.counter l.rest
