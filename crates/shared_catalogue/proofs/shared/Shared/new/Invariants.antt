use Rattle.std.proofs.Common.{◌≡◌, ◌+◌}
use Rattle.crossbeam_utils.specs.Seq.{cell_view}
use Rattle.shared_catalogue.specs.Board.{first_view}
use Rattle.shared_catalogue.specs.Seats.{new_seats}
use Rattle.shared_catalogue.proofs.shared.Shared.new.Given as goal

abbrev pub invariant-loop-index : goal.invariant-loop-index
invariant-loop-index g l = record {
  parts : l.whole.parts + l.index ≡ l.stations;
  amount : l.whole.amount ≡ 0;
  table : l.pass.table_id ≡ g.J.Naming.board;
  view : cell_view l.pass ≡ first_view;
  seats : l.seats.items ≡ new_seats l.index;
}
