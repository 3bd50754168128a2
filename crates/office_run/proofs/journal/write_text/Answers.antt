use Rattle.std.proofs.Common.{ℕ, List, Option, rules, subst, sym, ◌∙◌}
use Rattle.byte_io.specs.Laws.Puts.{due_all}
use Rattle.byte_io.specs.Laws.Sinks.{front_then}
use Rattle.byte_io.specs.Sink.{grown, IsFront}
use Rattle.office_run.specs.JournalFile.{parts_text}
use Rattle.office_run.proofs.JournalFileLaws.{front_of_whole}
use Rattle.office_run.proofs.journal.write_text.Goals as goal

pub returns-in_err-flush-clause-front : goal.returns-in_err-flush-clause-front
returns-in_err-flush-clause-front g c =
    let begun = g.S.ByteSink.written c.args.sink.now in
    let some = c.put_text-put.ensures.front in
    let all = due_all _ _ begun (g.S.ByteSink.failures c.args.sink.now) some.1.front some.1.put.1 c.new-out.ensures.wanted in
    let h = front_then _ _ _ (rw all at c.in_err-flush.ensures.front) (front_of_whole begun some.1.front some.0 _ some.1.whole) in
    search (h, rules)

pub returns-in_err-put-clause-front : goal.returns-in_err-put-clause-front
returns-in_err-put-clause-front g c =
    let begun = g.S.ByteSink.written c.args.sink.now in
    let some = c.put_text-put.ensures.front in
    let all = due_all _ _ begun (g.S.ByteSink.failures c.args.sink.now) some.1.front some.1.put.1 c.new-out.ensures.wanted in
    let text = grown begun (parts_text c.args.text.now) in
    let h = subst (λ (w : Option (List ℕ)). IsFront w text) (sym (c.in_ok-flush.ensures.wrote ∙ all)) (front_of_whole begun some.1.front some.0 _ some.1.whole) in
    search (h, rules)
