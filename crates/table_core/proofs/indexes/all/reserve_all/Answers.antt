use Rattle.std.proofs.Common.{◌<◌, drop, length, map, set, ap, ◌∙◌, arith}
use Rattle.std.proofs.lemmas.List.{length-set}
use Rattle.std.proofs.Math.Seq.{map-set_same}
use Rattle.table_core.specs.Indexes.{HasRoom, seen_index}
use Rattle.table_core.proofs.Turned.{turned-set, whole, whole-turned}
use Rattle.table_core.proofs.indexes.all.reserve_all.Goals as goal

pub returns-in_err-reserve-clause-same : goal.returns-in_err-reserve-clause-same
returns-in_err-reserve-clause-same c =
    let items = c.loop-index.index-items in
    let i = c.loop-index.index-index in
    let now = c.reserve.new.self in
    let long = length-set items i now in
    ap (map seen_index) (whole (set items i now) (drop (length (set items i now)) c.args.indexes.now.items) c.args.indexes.now.len (omega arith))
    ∙ map-set_same seen_index items i now c.index-item.result c.reserve.ensures.same ∙ c.loop-index.invariant.same

pub loop-index-preserved : goal.loop-index-preserved
loop-index-preserved c =
    let items = c.loop-index.index-items in
    let i = c.loop-index.index-index in
    let lt : i < length items = omega arith in
    record {
      room = turned-set (λ _. Unit {0}) HasRoom i items c.reserve.new.self lt c.in_ok-reserve.ensures.ok c.loop-index.invariant.room;
      same = map-set_same seen_index items i c.reserve.new.self c.index-item.result c.reserve.ensures.same ∙ c.loop-index.invariant.same;
    }

pub returns-clause-ok : goal.returns-clause-ok
returns-clause-ok c =
    let items = c.loop-index.index-items in
    whole-turned (λ _. Unit {0}) HasRoom c.loop-index.index-index items (drop (length items) c.args.indexes.now.items) c.args.indexes.now.len (omega arith) (omega arith) c.loop-index.invariant.room
