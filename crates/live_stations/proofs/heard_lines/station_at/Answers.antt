use Rattle.std.proofs.Common.{◌≡◌, ◌<◌, length, get_or, rules}
use Rattle.live_stations.proofs.HearingLaws.{numbered_at}
use Rattle.live_stations.proofs.heard_lines.station_at.Goals as goal

pub returns : goal.returns
returns c =
    let old = c.in_ok-hearing.hearing.now in
    let inside : c.args.index < length c.args.hearings.now = search rules in
    let at : get_or c.args.hearings.now c.args.index old ≡ old = search rules in
    record { numbered = λ items first are. numbered_at c.args.hearings.now c.args.index old inside at items first are }
