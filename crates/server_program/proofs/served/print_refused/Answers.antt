use Rattle.server_program.proofs.RefusedParts.{refused_line}
use Rattle.server_program.proofs.served.print_refused.Goals as goal

pub returns : goal.returns
returns g c = record {
  text =
      refused_line c.args.counts.now (g.W.Write.contents c.args.err.now) (g.W.Write.contents c.write.new.self) (g.W.Write.contents c.print_stations.new.err) (g.W.Write.contents c.write_all.new.self) c.if-counts-eq0.false
      c.in_ok-write.ensures.bytes (rw c.deref.ensures.value at c.in_ok-print_stations.ensures.text) c.in_ok-write_all.ensures.bytes;
}
