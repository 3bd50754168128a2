use Rattle.std.proofs.Common.{rules, of_calls}
use Rattle.files_in_place.proofs.Beside.{first_refused, only_made, all_made, one_refused}
use Rattle.files_in_place.proofs.side_by_side.+beside.Goals as goal

pub returns-then-is_empty-clause-made : goal.returns-then-is_empty-clause-made
returns-then-is_empty-clause-made g t c =
    only_made g.F.Fn c.args.call.now c.args.things.now c.in-Some.others.now c.in-Some.first c.call.result c.in-Some.ensures.cases.0 (search rules) c.call.ensures

pub returns-then-is_empty-clause-refused : goal.returns-then-is_empty-clause-refused
returns-then-is_empty-clause-refused g t c =
    first_refused g.F.Fn c.args.call.now c.args.things.now c.in-Some.others.now c.in-Some.first c.call.result c.in-Some.ensures.cases.0 c.call.ensures

pub returns-clause-made : goal.returns-clause-made
returns-clause-made g t c =
    let met : g.F.Fn.post c.args.call.now (c.in-Some.first, tt) c.join-one.result.0 = search (rules, of_calls) in
    rw c.and.ensures (all_made g.F.Fn c.args.call.now c.args.things.now c.in-Some.others.now c.in-Some.first c.join-one.result.0 c.join-one.result.1 c.in-Some.ensures.cases.0 met c.join-one.ensures.second.0)

pub returns-clause-refused : goal.returns-clause-refused
returns-clause-refused g t c =
    let met : g.F.Fn.post c.args.call.now (c.in-Some.first, tt) c.join-one.result.0 = search (rules, of_calls) in
    rw c.and.ensures (one_refused g.F.Fn c.args.call.now c.args.things.now c.in-Some.others.now c.in-Some.first c.join-one.result.0 c.join-one.result.1 c.in-Some.ensures.cases.0 met c.join-one.ensures.second.1)
