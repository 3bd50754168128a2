use Rattle.server_program.proofs.RefusedParts.{printed_more}
use Rattle.server_program.proofs.served.print_stations.Goals as goal

pub loop-index-preserved : goal.loop-index-preserved
loop-index-preserved g c =
    printed_more (g.W.Write.contents c.args.err.now) (g.W.Write.contents c.loop-index.err) (g.W.Write.contents c.print_station.new.err) c.args.refused.now c.loop-index.index c.loop-index-test.true c.loop-index.invariant
    c.in_ok-print_station.ensures.text
