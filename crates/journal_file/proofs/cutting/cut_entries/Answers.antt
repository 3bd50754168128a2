use Rattle.std.proofs.Common.{arith}
use Rattle.journal_file.proofs.TextLaws.{entry_taken, entries_taken, too_few_entries}
use Rattle.journal_file.proofs.cutting.cut_entries.Goals as goal

pub returns-in_default-clause-none : goal.returns-in_default-clause-none
returns-in_default-clause-none c =
    too_few_entries c.args.text.now c.loop.counter c.args.count c.loop.rest.now c.loop.invariant c.loop-test.true c.in_default.ensures.none

pub loop-preserved : goal.loop-preserved
loop-preserved c = entry_taken c.args.text.now c.loop.counter _ _ _ c.loop.invariant c.in-Some.ensures.found

pub returns-clause-found : goal.returns-clause-found
returns-clause-found c =
    entries_taken c.args.text.now c.loop.counter c.args.count c.loop.rest.now c.split_at.result.0.now c.loop.invariant (omega (arith, c.loop.auto.counter-end, c.loop-test.false)) c.split_at.ensures.front
