use Rattle.std.proofs.Common.{◌≡◌, ◌<◌, length, get_or, rules}
use Rattle.live_stations.proofs.HearingLaws.{heard_many, heard_same}
use Rattle.live_stations.proofs.heard_lines.has_line_at.Goals as goal

pub returns-in-Some : goal.returns-in-Some
returns-in-Some c =
    let hs = c.args.hearings.now.items in
    let old = c.in-Some.hearing.now in
    let inside : c.args.index < length hs = search rules in
    let at : get_or hs c.args.index old ≡ old = search rules in
    record {
      heard = record {
        many = heard_many hs c.args.index c.has_line.new.hearing;
        each = λ items first are.
            heard_same items first hs c.args.index old c.has_line.new.hearing are inside at
            (record { station = c.has_line.ensures.station; ring = c.has_line.ensures.ring; heard = c.has_line.ensures.heard });
      };
    }
