use Rattle.std.proofs.Common.{◌<◌, drop, length, ◌∙◌, arith}
use Rattle.std.proofs.Math.Seq.{map-set_same}
use Rattle.table_core.specs.Indexes.{Follows, FollowsAside, HasRoom, indexed}
use Rattle.table_core.proofs.Turned.{turned-here, turned-set, whole-turned}
use Rattle.table_core.proofs.indexes.all.take_out_named.Goals as goal

pub take_out_named-requires-clause-follows : goal.take_out_named-requires-clause-follows
take_out_named-requires-clause-follows c =
    let t = c.args.records.now.table in
    turned-here (Follows t) (FollowsAside c.args.target t) c.loop-index.index-index c.loop-index.index-items c.index-item.result (omega arith) c.loop-index.invariant.turned

pub loop-index-preserved : goal.loop-index-preserved
loop-index-preserved c =
    let t = c.args.records.now.table in
    let items = c.loop-index.index-items in
    let i = c.loop-index.index-index in
    let d = c.index-item.result in
    let lt : i < length items = omega arith in
    let room = turned-here HasRoom HasRoom i items d lt c.loop-index.invariant.room in
    record {
      turned = turned-set (Follows t) (FollowsAside c.args.target t) i items c.take_out_named.new.self lt c.take_out_named.ensures.aside c.loop-index.invariant.turned;
      room = turned-set HasRoom HasRoom i items c.take_out_named.new.self lt (c.take_out_named.ensures.room room) c.loop-index.invariant.room;
      same = map-set_same indexed items i c.take_out_named.new.self d c.take_out_named.ensures.same ∙ c.loop-index.invariant.same;
    }

pub returns-clause-aside : goal.returns-clause-aside
returns-clause-aside c =
    let t = c.args.records.now.table in
    let items = c.loop-index.index-items in
    whole-turned (Follows t) (FollowsAside c.args.target t) c.loop-index.index-index items (drop (length items) c.args.indexes.now.items) c.args.indexes.now.len (omega arith) (omega arith) c.loop-index.invariant.turned

pub returns-clause-room : goal.returns-clause-room
returns-clause-room c =
    let items = c.loop-index.index-items in
    whole-turned HasRoom HasRoom c.loop-index.index-index items (drop (length items) c.args.indexes.now.items) c.args.indexes.now.len (omega arith) (omega arith) c.loop-index.invariant.room
