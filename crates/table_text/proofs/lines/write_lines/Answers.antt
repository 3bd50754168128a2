use Rattle.std.proofs.Common.{ℕ, List, ◌++◌, Option, option_copied, rules, subst, sym, ◌∙◌}
use Rattle.byte_io.specs.Laws.Sinks.{front_then}
use Rattle.byte_io.specs.Sink.{grown, IsFront}
use Rattle.table_text.specs.Lines.{lines_in}
use Rattle.table_text.specs.Selection.{selected}
use Rattle.table_text.proofs.Fronts.{due-both, front_of_text}
use Rattle.table_text.proofs.lines.write_lines.Goals as goal

pub returns-in_err-flush-clause-front : goal.returns-in_err-flush-clause-front
returns-in_err-flush-clause-front g c =
    let begun = g.S.ByteSink.written c.args.sink.now in
    let some = c.put_lines-put.ensures.front in
    let all = due-both _ _ _ begun (g.S.ByteSink.failures c.args.sink.now) c.args.heading.now some.1.front c.put.ensures.put.1 some.1.put.1 c.new-out.ensures.wanted in
    let h = front_then _ _ _ (rw all at c.in_err-flush.ensures.front) (front_of_text begun c.args.heading.now some.1.front some.0 _ some.1.whole) in
    search (h, rules)

pub returns-in_err-put-clause-front : goal.returns-in_err-put-clause-front
returns-in_err-put-clause-front g c =
    let begun = g.S.ByteSink.written c.args.sink.now in
    let some = c.put_lines-put.ensures.front in
    let all = due-both _ _ _ begun (g.S.ByteSink.failures c.args.sink.now) c.args.heading.now some.1.front c.put.ensures.put.1 some.1.put.1 c.new-out.ensures.wanted in
    let text = grown begun (c.args.heading.now ++ lines_in c.args.format.now c.args.table.now (selected c.args.table.now (option_copied c.args.order) c.args.selection)) in
    let h = subst (λ (w : Option (List ℕ)). IsFront w text) (sym (c.in_ok-flush.ensures.wrote ∙ all)) (front_of_text begun c.args.heading.now some.1.front some.0 _ some.1.whole) in
    search (h, rules)
