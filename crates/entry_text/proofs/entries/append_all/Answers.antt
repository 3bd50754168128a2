use Rattle.std.proofs.Common.{arith}
use Rattle.entry_text.proofs.EntryLaws.{all_counted, all_shown, none_shown, one_is_first, one_shown, room_for_one, room_for_refused}
use Rattle.entry_text.proofs.entries.append_all.Goals as goal

pub loop-init : goal.loop-init
loop-init c = none_shown c.args.asked c.args.lines.now c.args.text.now.items

pub returns-in_default-clause-ok : goal.returns-in_default-clause-ok
returns-in_default-clause-ok c =
    λ entries are. absurd (one_is_first _ _ _ _ c.args.count _ _ _ entries c.loop.invariant c.loop-test.true c.in_default.ensures.none are)

pub returns-in_default-clause-counts : goal.returns-in_default-clause-counts
returns-in_default-clause-counts c =
    λ entries are. absurd (one_is_first _ _ _ _ c.args.count _ _ _ entries c.loop.invariant c.loop-test.true c.in_default.ensures.none are)

pub both-counts-requires-clause-room : goal.both-counts-requires-clause-room
both-counts-requires-clause-room c =
    room_for_one _ _ _ _ c.args.count _ _ _ c.in_ok-one.one (c.in-Some.entry.station, c.in-Some.entry.command.now, c.in-Some.entry.answer.now) c.loop.invariant
    c.in_ok-one.ensures.counts c.loop-test.true (omega arith)

pub both-counts-requires-clause-refused_room : goal.both-counts-requires-clause-refused_room
both-counts-requires-clause-refused_room c =
    room_for_refused _ _ _ _ c.args.count _ _ _ c.in_ok-one.one (c.in-Some.entry.station, c.in-Some.entry.command.now, c.in-Some.entry.answer.now)
    c.loop.invariant c.in_ok-one.ensures.counts c.loop-test.true (omega arith)

pub loop-preserved : goal.loop-preserved
loop-preserved c =
    one_shown _ _ _ _ _ _ _ _ _ c.in_ok-one.one c.both-counts.result _ c.loop.invariant c.in-Some.ensures.found c.in_ok-one.ensures.ok
    c.in_ok-one.ensures.counts c.both-counts.ensures.all
    c.both-counts.ensures.refused

pub returns-clause-ok : goal.returns-clause-ok
returns-clause-ok c = λ entries are. all_shown _ _ _ _ c.args.count _ _ _ entries c.loop.invariant
    (omega (arith, c.loop.auto.counter-end, c.loop-test.false)) are

pub returns-clause-counts : goal.returns-clause-counts
returns-clause-counts c = λ entries are. all_counted _ _ _ _ c.args.count _ _ _ entries c.loop.invariant
    (omega (arith, c.loop.auto.counter-end, c.loop-test.false)) are
