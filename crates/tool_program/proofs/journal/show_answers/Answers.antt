use Rattle.std.proofs.Common.{◌≡◌, rules, tests}
use Rattle.tool_program.specs.declared.journal.AnswersFault.TheVariants.{Journal, NoMemory, Sink}
use Rattle.tool_program.proofs.JournalLaws.{all_told, journal_in, no_journal, told_as, unloaded}
use Rattle.tool_program.proofs.journal.show_answers.Goals as goal

pub returns-in_err-parts-clause-fault : goal.returns-in_err-parts-clause-fault
returns-in_err-parts-clause-fault g c =
    told_as (g.F.Source.files c.args.source.now) (g.F.Source.failures c.args.source.now) (g.F.Source.failures c.loaded.new.source) c.args.options.now
    c.from_residual-in_err-parts.result (Journal c.in_err-parts.field-0.0) c.from_residual-in_err-parts.ensures.1 (
      c.in_ok-journal.journal,
      c.in_ok-journal.ensures.found,
      no_journal _ c.cut_journal.result _ c.in_err-parts.was (rw c.as_slice.ensures.value at c.cut_journal.ensures.not_whole)
          (rw c.as_slice.ensures.value at c.cut_journal.ensures.cut) (rw c.as_slice.ensures.value at c.cut_journal.ensures.no_journal),
    )

pub returns-in_err-counts-clause-fault : goal.returns-in_err-counts-clause-fault
returns-in_err-counts-clause-fault g c =
    told_as (g.F.Source.files c.args.source.now) (g.F.Source.failures c.args.source.now) (g.F.Source.failures c.loaded.new.source) c.args.options.now
    c.from_residual-in_err-counts.result NoMemory c.from_residual-in_err-counts.ensures.1
    (_, journal_in _ _ _ _ c.in_ok-journal.ensures.found (rw c.as_slice.ensures.value at c.in_ok-parts.ensures.found))

pub returns-in_err-write_all-clause-fault : goal.returns-in_err-write_all-clause-fault
returns-in_err-write_all-clause-fault g c =
    told_as (g.F.Source.files c.args.source.now) (g.F.Source.failures c.args.source.now) (g.F.Source.failures c.loaded.new.source) c.args.options.now
    c.from_residual-in_err-write_all.result Sink c.from_residual-in_err-write_all.ensures.1
    (_, journal_in _ _ _ _ c.in_ok-journal.ensures.found (rw c.as_slice.ensures.value at c.in_ok-parts.ensures.found))

pub returns-clause-shown : goal.returns-clause-shown
returns-clause-shown g c =
    all_told _ c.args.options.now c.in-Some.station _ _ _ c.in_ok-counts.counts _ _ _ (search rules) c.in_ok-journal.ensures.found
    (rw c.as_slice.ensures.value at c.in_ok-parts.ensures.found)
    (rw c.new-text.ensures.items at c.in_ok-counts.ensures.ok) c.in_ok-counts.ensures.counts (search rules) (search (rules, tests))
