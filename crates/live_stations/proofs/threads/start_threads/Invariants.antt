use Rattle.std.proofs.Common.{◌≡◌, ◌++◌, map}
use Rattle.std.specs.Vec.Iter.{into_iter_items}
use Rattle.live_stations.specs.Stations.{answer_end, line_end, printing_of, typing_of}
use Rattle.live_stations.proofs.threads.start_threads.Given as goal

abbrev pub invariant-loop-end : goal.invariant-loop-end
invariant-loop-end g l = record {
  typists : map (λ h. typing_of h.promise) l.typists.items ≡ map (line_end l.terminals) l.yielded;
  printers : map (λ h. printing_of h.promise) l.printers.items ≡ map (answer_end l.terminals) l.yielded;
  all : l.yielded ++ into_iter_items l.end-iterator ≡ l.fn.ends.items;
}
