use Rattle.std.proofs.Common.{◌∙◌, ◌∷◌, [], arith, length-append}
use Rattle.live_stations.specs.Stations.{typing_of, IsTypistOf}
use Rattle.live_stations.proofs.PairLaws.{pair_snoc_by}
use Rattle.live_stations.proofs.threads.join_typists.Goals as goal

pub loop-thread-preserved : goal.loop-thread-preserved
loop-thread-preserved g c = record {
  typed =
      pair_snoc_by (IsTypistOf g.T.Keyboard.Keyboard.typed g.T.Terminals.types) (λ h. typing_of h.promise) c.loop-thread.yielded c.loop-thread.room.items c.push_reserved.new.self.items c.in-Some.thread c.join.result
      c.loop-thread.invariant.typed c.push_reserved.ensures.items c.join.ensures;
  room = c.push_reserved.ensures.capacity ∙ c.loop-thread.invariant.room;
  many = omega (arith, c.push_reserved.ensures.len, c.loop-thread.invariant.many, length-append c.loop-thread.yielded (c.in-Some.thread ∷ []));
}
