use Rattle.std.proofs.Common.{◌≡◌, ◌+◌, length, arith}
use Rattle.ndx_index.specs.Walks.{node_seen}
use Rattle.ndx_index.proofs.WalkSteps.{less_work, walk_next}
use Rattle.ndx_index.proofs.read.walk.step.Goals as goal

pub returns-in_err-push_under-clause-walk : goal.returns-in_err-push_under-clause-walk
returns-in_err-push_under-clause-walk c =
    let flags = c.args.flags.now.items in
    let new = c.look_at-view.new.flags.items in
    let same : length new ≡ length flags = omega (arith, c.look_at-view.ensures.same_count, c.args.flags.now.ok.0, c.look_at-view.new.flags.ok.0) in
    walk_next c.args.layout c.args.bytes.now flags new c.args.pending.now.items _ (node_seen c.look_at-view.result) c.args.next.depth c.requires.walk same c.look_at-view.ensures.unmet
    c.requires.depth c.push_under.ensures.shallow

pub returns-clause-walk : goal.returns-clause-walk
returns-clause-walk c =
    let flags = c.args.flags.now.items in
    let new = c.look_at-view.new.flags.items in
    let same : length new ≡ length flags = omega (arith, c.look_at-view.ensures.same_count, c.args.flags.now.ok.0, c.look_at-view.new.flags.ok.0) in
    walk_next c.args.layout c.args.bytes.now flags new c.args.pending.now.items _ (node_seen c.look_at-view.result) c.args.next.depth c.requires.walk same c.look_at-view.ensures.unmet
    c.requires.depth c.push_under.ensures.shallow

pub returns-clause-less : goal.returns-clause-less
returns-clause-less c =
    less_work c.args.flags.now.items c.look_at-view.new.flags.items c.args.pending.now.items c.push_under.new.pending.items c.look_at-view.result (c.args.next.depth + 1)
    c.look_at-view.ensures.unmet c.in_ok-push_under.ensures.pending
