use Rattle.std.specs.Prelude.{Option}
use Rattle.std.proofs.Common.{◌≡◌, ◌+◌, ◌≤◌, ℕ, Bool, List, length, vec_capacity, vec_len}
use Rattle.live_day.specs.Shows.{ShownLine}
use Rattle.live_stations.specs.Items.{Item}
use Rattle.live_stations.specs.Stations.{AreMeeting, AreMet, HaveLeft}
use Rattle.live_stations.proofs.day.meet_all.Given as goal

abbrev pub invariant-meeting : goal.invariant-meeting
invariant-meeting g l =
    let typed = g.K.Keyboard.typed in
    let contents = g.W.Write.contents in
    record {
      met : AreMet (1 + length l.room.items) l.hearings.rest.items l.answers.rest.items l.typists.rest.items l.printers.rest.items;
      many : length l.room.items + length l.hearings.rest.items ≡ length l.fn.hearings.items;
      room : vec_len l.room + length l.hearings.rest.items ≤ vec_capacity l.room;
      each : (types reads : ℕ → Option (List ℕ)) (items : List Item) (shown : List ShownLine) (all_heard : Bool)
          → AreMeeting typed contents types reads items shown all_heard 1 l.fn.hearings.items l.fn.answers.items l.fn.typists.items l.fn.printers.items
          → HaveLeft typed contents types reads items shown all_heard l.room.items
          × AreMeeting typed contents types reads items shown all_heard (1 + length l.room.items) l.hearings.rest.items l.answers.rest.items l.typists.rest.items l.printers.rest.items;
    }

abbrev pub decreases-meeting : goal.decreases-meeting
decreases-meeting g l = length l.hearings.rest.items
