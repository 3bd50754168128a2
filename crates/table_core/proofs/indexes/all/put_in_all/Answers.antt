use Rattle.std.proofs.Common.{◌<◌, drop, length, ◌∙◌, arith}
use Rattle.std.proofs.Math.Seq.{map-set_same}
use Rattle.table_core.specs.Indexes.{Follows, FollowsBut, HasRoom, indexed}
use Rattle.table_core.proofs.Turned.{turned-here, turned-set, whole-turned}
use Rattle.table_core.proofs.indexes.all.put_in_all.Goals as goal

pub put_in-requires-clause-rest : goal.put_in-requires-clause-rest
put_in-requires-clause-rest c =
    let t = c.args.records.now.table in
    (turned-here (λ ix. FollowsBut c.args.number t ix × HasRoom ix) (Follows t) c.loop-index.index-index c.loop-index.index-items c.index-item.result (omega arith) c.loop-index.invariant.turned).0

pub put_in-requires-clause-room : goal.put_in-requires-clause-room
put_in-requires-clause-room c =
    let t = c.args.records.now.table in
    (turned-here (λ ix. FollowsBut c.args.number t ix × HasRoom ix) (Follows t) c.loop-index.index-index c.loop-index.index-items c.index-item.result (omega arith) c.loop-index.invariant.turned).1

pub loop-index-preserved : goal.loop-index-preserved
loop-index-preserved c =
    let t = c.args.records.now.table in
    let items = c.loop-index.index-items in
    let i = c.loop-index.index-index in
    let lt : i < length items = omega arith in
    record {
      turned = turned-set (λ ix. FollowsBut c.args.number t ix × HasRoom ix) (Follows t) i items c.put_in.new.self lt c.put_in.ensures.follows c.loop-index.invariant.turned;
      same = map-set_same indexed items i c.put_in.new.self c.index-item.result c.put_in.ensures.same ∙ c.loop-index.invariant.same;
    }

pub returns-clause-follow : goal.returns-clause-follow
returns-clause-follow c =
    let t = c.args.records.now.table in
    let items = c.loop-index.index-items in
    whole-turned (λ ix. FollowsBut c.args.number t ix × HasRoom ix) (Follows t) c.loop-index.index-index items (drop (length items) c.args.indexes.now.items) c.args.indexes.now.len (omega arith) (omega arith) c.loop-index.invariant.turned
