use Rattle.entry_text.proofs.EntryLaws.{HasShown}
use Rattle.entry_text.proofs.entries.append_all.Given as goal

abbrev pub invariant-loop : goal.invariant-loop
invariant-loop l = HasShown l.asked l.lines l.fn.text.items l.counter l.rest l.text.items l.counts
