use Rattle.std.proofs.Common.{ℕ, List, ◌++◌, Option, rules, subst, sym, ◌∙◌}
use Rattle.byte_io.specs.Laws.Sinks.{front_then}
use Rattle.byte_io.specs.Sink.{grown, IsFront}
use Rattle.table_diff.specs.ByKey.{match_lines}
use Rattle.table_diff.specs.Matching.{matches_in}
use Rattle.table_diff.proofs.Fronts.{due-both, front_of_text}
use Rattle.table_diff.proofs.diff.write_changes.Goals as goal

pub returns-in_err-flush-clause-front : goal.returns-in_err-flush-clause-front
returns-in_err-flush-clause-front g c =
    let begun = g.S.ByteSink.written c.args.sink.now in
    let some = c.put_record_changes-put.ensures.front in
    let all = due-both _ _ _ begun (g.S.ByteSink.failures c.args.sink.now) c.args.head.now some.1.front c.put.ensures.put.1 some.1.put.1 c.new-out.ensures.wanted in
    let h = front_then _ _ _ (rw all at c.in_err-flush.ensures.front) (front_of_text begun c.args.head.now some.1.front some.0 _ some.1.whole) in
    search (h, rules)

pub returns-in_err-count-clause-front : goal.returns-in_err-count-clause-front
returns-in_err-count-clause-front g c =
    let begun = g.S.ByteSink.written c.args.sink.now in
    let some = c.put_record_changes-put.ensures.front in
    let all = due-both _ _ _ begun (g.S.ByteSink.failures c.args.sink.now) c.args.head.now some.1.front c.put.ensures.put.1 some.1.put.1 c.new-out.ensures.wanted in
    let text = grown begun (c.args.head.now ++ match_lines c.args.old_table.now.table c.args.new_table.now.table (matches_in c.args.matches)) in
    let h = subst (λ (w : Option (List ℕ)). IsFront w text) (sym (c.in_ok-flush.ensures.wrote ∙ all)) (front_of_text begun c.args.head.now some.1.front some.0 _ some.1.whole) in
    search (h, rules)
