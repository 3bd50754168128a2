use Rattle.std.proofs.Common.{◌≡◌, ℕ, List, [], ◌+◌, ◌++◌, Some, map, drop, refl, subst, sym, ap, ◌∙◌, append_assoc, arith}
use Rattle.std.specs.List.{slice_get}
use Rattle.std.proofs.lemmas.List.{append-nil, drop_all, take_all}
use Rattle.std.proofs.lemmas.Option.{slice_get-get_or}
use Rattle.byte_io.specs.Laws.Puts.{more_parts}
use Rattle.byte_io.specs.Writer.{more}
use Rattle.catalogue_core.specs.declared.entry.Entry.{Entry}
use Rattle.station_lines.specs.JournalLines.{line_parts, journal_text, HaveSmallNumbers}
use Rattle.office_run.proofs.JournalFileLaws.{text_from, small_more}
use Rattle.office_run.proofs.journal.put_lines.Goals as goal

pub loop-entry-preserved : goal.loop-entry-preserved
loop-entry-preserved g c =
    let journal = c.args.journal.now in
    let i = c.loop-entry.entry-index in
    let entry = c.entry-item.result in
    let before = c.loop-entry.invariant.0 in
    let line = c.in_ok-text.text.now in
    let put = c.put.ensures.put in
    let at : slice_get journal i ≡ Some entry = slice_get-get_or journal i entry c.loop-entry-test.true ∙ ap (λ (e : Entry). Some e) (sym c.entry-item.is) in
    let text : journal_text (drop i journal) ≡ line ++ journal_text (drop (i + 1) journal) = text_from journal i entry line at c.in_ok-text.ensures.value in (
      record {
        front = before.front ++ line;
        whole = append_assoc before.front line _ ∙ ap (λ (l : List ℕ). before.front ++ l) (sym text) ∙ before.whole;
        put = (put.0 ∙ before.put.0, more_parts _ _ _ before.front line _ put.1 before.put.1 refl);
      },
      small_more journal i entry at c.in_ok-text.ensures.small c.loop-entry.invariant.1,
    )

pub returns-in_err-text-clause-front : goal.returns-in_err-text-clause-front
returns-in_err-text-clause-front g c = (_, c.loop-entry.invariant.0)

pub returns-clause-front : goal.returns-clause-front
returns-clause-front g c = (_, c.loop-entry.invariant.0)

pub returns-clause-put : goal.returns-clause-put
returns-clause-put g c =
    let journal = c.args.journal.now in
    let before = c.loop-entry.invariant.0 in
    let none : journal_text (drop c.loop-entry.entry-index journal) ≡ [] = ap journal_text (drop_all c.loop-entry.entry-index journal (omega (arith, c.loop-entry-test.false))) in
    let all : before.front ≡ journal_text journal = sym (append-nil before.front) ∙ ap (λ (l : List ℕ). before.front ++ l) (sym none) ∙ before.whole in
    (before.put.0, before.put.1 ∙ ap (more c.args.out.now.wanted) all)

pub returns-clause-small : goal.returns-clause-small
returns-clause-small g c =
    let journal = c.args.journal.now in
    let all = take_all c.loop-entry.entry-index journal (omega (arith, c.loop-entry-test.false)) in
    subst (λ (es : List Entry). HaveSmallNumbers (map line_parts es)) all c.loop-entry.invariant.1
