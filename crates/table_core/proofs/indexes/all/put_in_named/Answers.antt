use Rattle.std.proofs.Common.{◌<◌, drop, length, ◌∙◌, arith}
use Rattle.std.proofs.Math.Seq.{map-set_same}
use Rattle.table_core.specs.Indexes.{Follows, FollowsAside, HasRoom, indexed}
use Rattle.table_core.proofs.Turned.{turned-here, turned-set, whole-turned}
use Rattle.table_core.proofs.indexes.all.put_in_named.Goals as goal

pub put_in_named-requires-clause-aside : goal.put_in_named-requires-clause-aside
put_in_named-requires-clause-aside c =
    let t = c.args.records.now.table in
    (turned-here (λ ix. FollowsAside c.args.target t ix × HasRoom ix) (Follows t) c.loop-index.index-index c.loop-index.index-items c.index-item.result (omega arith) c.loop-index.invariant.turned).0

pub put_in_named-requires-clause-room : goal.put_in_named-requires-clause-room
put_in_named-requires-clause-room c =
    let t = c.args.records.now.table in
    (turned-here (λ ix. FollowsAside c.args.target t ix × HasRoom ix) (Follows t) c.loop-index.index-index c.loop-index.index-items c.index-item.result (omega arith) c.loop-index.invariant.turned).1

pub loop-index-preserved : goal.loop-index-preserved
loop-index-preserved c =
    let t = c.args.records.now.table in
    let items = c.loop-index.index-items in
    let i = c.loop-index.index-index in
    let lt : i < length items = omega arith in
    record {
      turned = turned-set (λ ix. FollowsAside c.args.target t ix × HasRoom ix) (Follows t) i items c.put_in_named.new.self lt c.put_in_named.ensures.follows c.loop-index.invariant.turned;
      same = map-set_same indexed items i c.put_in_named.new.self c.index-item.result c.put_in_named.ensures.same ∙ c.loop-index.invariant.same;
    }

pub returns-clause-follow : goal.returns-clause-follow
returns-clause-follow c =
    let t = c.args.records.now.table in
    let items = c.loop-index.index-items in
    whole-turned (λ ix. FollowsAside c.args.target t ix × HasRoom ix) (Follows t) c.loop-index.index-index items (drop (length items) c.args.indexes.now.items) c.args.indexes.now.len (omega arith) (omega arith) c.loop-index.invariant.turned
