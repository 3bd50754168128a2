use Rattle.live_stations.proofs.TellingLaws.{one_told}
use Rattle.live_stations.proofs.telling.tell_stations.Goals as goal

pub loop-index-preserved : goal.loop-index-preserved
loop-index-preserved g c =
    one_told (g.W.Write.contents c.args.out.now) (g.W.Write.contents c.loop-index.out) (g.W.Write.contents c.tell_station.new.out) c.args.stations.now c.loop-index.index c.index-stations-index.result
    c.loop-index-test.true c.index-stations-index.is c.loop-index.invariant c.in_ok-tell_station.ensures.text
