use Rattle.std.proofs.Common.{[], ◌++◌, refl, ◌∙◌}
use Rattle.std.proofs.lemmas.List.{append-nil}
use Rattle.byte_io.specs.Laws.Puts.{more_parts}
use Rattle.station_lines.specs.JournalLines.{journal_text}
use Rattle.office_run.specs.JournalFile.{parts_text}
use Rattle.office_run.proofs.JournalFileLaws.{front_in_parts}
use Rattle.office_run.proofs.journal.put_text.Goals as goal

pub returns-clause-front : goal.returns-clause-front
returns-clause-front g c =
    let text = c.args.text.now in
    let lines = journal_text text.entries.now in
    let begun = c.put.new.self.wanted in
    let ended = c.put-2.new.self.wanted in
    let put = c.in_ok-put_lines.ensures.put in
    let rest = more_parts begun c.put_lines.new.out.wanted ended lines text.tail.now (lines ++ text.tail.now) c.put-2.ensures.put.1 put.1 refl in (
      [],
      record {
        front = parts_text text;
        whole = append-nil (parts_text text);
        put = (
          c.put-2.ensures.put.0 ∙ (put.0 ∙ c.put.ensures.put.0),
          more_parts c.args.out.now.wanted begun ended text.head.now (lines ++ text.tail.now) (parts_text text) rest c.put.ensures.put.1 refl,
        );
      },
    )

pub returns-in_err-put_lines-clause-front : goal.returns-in_err-put_lines-clause-front
returns-in_err-put_lines-clause-front g c =
    let text = c.args.text.now in
    let some = c.in_err-put_lines.ensures.front in (
      some.0 ++ text.tail.now,
      record {
        front = text.head.now ++ some.1.front;
        whole = front_in_parts text.head.now some.1.front some.0 (journal_text text.entries.now) text.tail.now some.1.whole;
        put = (
          some.1.put.0 ∙ c.put.ensures.put.0,
          more_parts c.args.out.now.wanted c.put.new.self.wanted c.put_lines.new.out.wanted text.head.now some.1.front (text.head.now ++ some.1.front) some.1.put.1 c.put.ensures.put.1 refl,
        );
      },
    )
