use Rattle.std.proofs.Common.{◌≡◌, ◌+◌, ◌∙◌, ◌≤◌, Some, [], length, drop, refl, ap, sym, arith, length-append}
use Rattle.std.specs.List.{slice_get}
use Rattle.std.proofs.lemmas.List.{drop_all}
use Rattle.std.proofs.lemmas.Option.{slice_get-get_or}
use Rattle.catalogue_core.specs.declared.entry.Entry.{Entry}
use Rattle.station_lines.specs.JournalLines.{entry_and, line_parts, journal_text}
use Rattle.office_run.proofs.JournalFileLaws.{text_from}
use Rattle.office_run.proofs.journal_length.surely_fit.Goals as goal

pub loop-entry-preserved : goal.loop-entry-preserved
loop-entry-preserved c =
    let journal = c.args.journal.now in
    let i = c.loop-entry.entry-index in
    let entry = c.entry-item.result in
    let line = entry_and (line_parts entry) [] in
    let at : slice_get journal i ≡ Some entry = slice_get-get_or journal i entry c.loop-entry-test.true ∙ ap (λ (e : Entry). Some e) (sym c.entry-item.is) in
    let text = ap length (text_from journal i entry line at refl) ∙ length-append line (journal_text (drop (i + 1) journal)) in
    let bound = c.line_bound-bytes.ensures.bound (omega (arith, c.loop-entry.invariant.1, c.requires.limited)) in
    (omega (arith, text, bound, c.loop-entry.invariant.0), omega (arith, c.loop-entry.invariant.1))

pub returns : goal.returns
returns c =
    let journal = c.args.journal.now in
    let none : length (journal_text (drop c.loop-entry.entry-index journal)) ≡ 0 = ap (λ es. length (journal_text es)) (drop_all c.loop-entry.entry-index journal (omega (arith, c.loop-entry-test.false))) in
    record { fit = λ _. omega (arith, none, c.loop-entry.invariant.0) }
