use Rattle.std.proofs.Common.{◌≡◌, map}
use Rattle.office_run.specs.Reports.{EndValue, text_of}
use Rattle.office_run.proofs.stations.split_ends.Given as goal

abbrev pub invariant-loop-end : goal.invariant-loop-end
invariant-loop-end g l = record {
  seats : l.seats.items ≡ map (λ (e : EndValue). e.seat) l.yielded;
  answers : l.answers.items ≡ map text_of l.yielded;
}
