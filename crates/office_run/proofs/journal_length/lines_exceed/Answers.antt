use Rattle.std.proofs.Common.{◌≡◌, ◌+◌, ◌∙◌, Some, length, drop, ap, sym, arith, length-append}
use Rattle.std.specs.List.{slice_get}
use Rattle.std.proofs.lemmas.List.{drop_all}
use Rattle.std.proofs.lemmas.Option.{slice_get-get_or}
use Rattle.catalogue_core.specs.declared.entry.Entry.{Entry}
use Rattle.station_lines.specs.JournalLines.{journal_text}
use Rattle.office_run.proofs.JournalFileLaws.{text_from}
use Rattle.office_run.proofs.journal_length.lines_exceed.Goals as goal

pub loop-entry-preserved : goal.loop-entry-preserved
loop-entry-preserved c =
    let journal = c.args.journal.now in
    let i = c.loop-entry.entry-index in
    let entry = c.entry-item.result in
    let line = c.in_ok-text.text.now in
    let at : slice_get journal i ≡ Some entry = slice_get-get_or journal i entry c.loop-entry-test.true ∙ ap (λ (e : Entry). Some e) (sym c.entry-item.is) in
    let text = ap length (text_from journal i entry line at c.in_ok-text.ensures.value) ∙ length-append line (journal_text (drop (i + 1) journal)) in
    omega (arith, text, c.loop-entry.invariant)

pub returns : goal.returns
returns c =
    let journal = c.args.journal.now in
    let none : length (journal_text (drop c.loop-entry.entry-index journal)) ≡ 0 = ap (λ es. length (journal_text es)) (drop_all c.loop-entry.entry-index journal (omega (arith, c.loop-entry-test.false))) in
    record { value = (λ more. absurd (cc more), λ less. absurd (omega (arith, none, less, c.loop-entry.invariant))) }
