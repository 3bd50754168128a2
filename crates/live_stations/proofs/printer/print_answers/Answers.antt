use Rattle.std.proofs.Common.{true, ◌≡◌}
use Rattle.rtrb.specs.Ring.{received}
use Rattle.live_stations.proofs.HearingLaws.{same_consumer}
use Rattle.live_stations.proofs.PrinterLaws.{printed_again}
use Rattle.live_stations.proofs.printer.print_answers.Goals as goal

pub returns : goal.returns
returns g c =
    let begun = c.print_begun-screen in
    let dropped = c.drop_lines-was_none in
    record {
      ended = (
        same_consumer c.args.answers begun.new.answers dropped.new.answers begun.ensures.ring dropped.ensures.ring,
        printed_again g.T.Screen.Write.contents (g.T.Terminals.reads c.args.terminals.now c.args.station) begun.result.0 (received begun.new.answers) dropped.ensures.more.0 (received dropped.new.answers) begun.result.1
            c.are_all_printed.result (λ (e : c.are_all_printed.result ≡ true). let both = c.are_all_printed.ensures.both e in (both.0, dropped.ensures.none both.1)) dropped.ensures.more.1 begun.ensures.printed,
      );
    }
