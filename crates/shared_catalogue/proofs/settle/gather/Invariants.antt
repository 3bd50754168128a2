use Rattle.std.proofs.Common.{◌≡◌, ◌+◌, ◌≤◌, true, List, ◌++◌, vec_len}
use Rattle.std.specs.Prelude.{All}
use Rattle.std.specs.List.{sum_by}
use Rattle.crossbeam_utils.specs.Seq.{cell_view}
use Rattle.shared_catalogue.specs.Seats.{Seated, IsWithin}
use Rattle.shared_catalogue.proofs.settle.gather.Given as goal

abbrev pub invariant-loop-seat : goal.invariant-loop-seat
invariant-loop-seat g l = record {
  parts : l.whole.parts + vec_len l.seats ≡ vec_len l.initial.seats;
  amount : l.whole.amount + sum_by (λ (z : Seated). z.share) l.seats.items ≡ sum_by (λ (z : Seated). z.share) l.initial.seats.items;
  most : l.whole.parts ≤ g.J.Ledger.parts;
  table : l.pass.table_id ≡ g.J.Naming.board;
  writes : (cell_view l.pass).writes ≡ true;
  known : (cell_view l.pass).known ≡ (cell_view l.fn.pass).known;
  within : (done : List Seated) × (l.initial.seats.items ≡ l.seats.items ++ done) × All (IsWithin (cell_view l.fn.pass).known) done;
}

abbrev pub decreases-loop-seat : goal.decreases-loop-seat
decreases-loop-seat g l = vec_len l.seats
