use Rattle.std.proofs.Common.{◌∙◌, ◌∷◌, [], arith, length-append}
use Rattle.live_stations.specs.Stations.{printing_of, IsPrinterOf}
use Rattle.live_stations.proofs.PairLaws.{pair_snoc_by}
use Rattle.live_stations.proofs.threads.join_printers.Goals as goal

pub loop-thread-preserved : goal.loop-thread-preserved
loop-thread-preserved g c = record {
  printed =
      pair_snoc_by (IsPrinterOf g.T.Screen.Write.contents g.T.Terminals.reads) (λ h. printing_of h.promise) c.loop-thread.yielded c.loop-thread.room.items c.push_reserved.new.self.items c.in-Some.thread c.join.result
      c.loop-thread.invariant.printed c.push_reserved.ensures.items c.join.ensures;
  room = c.push_reserved.ensures.capacity ∙ c.loop-thread.invariant.room;
  many = omega (arith, c.push_reserved.ensures.len, c.loop-thread.invariant.many, length-append c.loop-thread.yielded (c.in-Some.thread ∷ []));
}
