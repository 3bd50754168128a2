use Rattle.std.proofs.Common.{◌<◌, ◌^◌, rules}
use Rattle.live_stations.specs.Hearings.{IsNumbered}
use Rattle.live_stations.proofs.HearingLaws.{hearing_named}
use Rattle.live_stations.proofs.heard_lines.HeardLines.name_station.Goals as goal

pub invariant_of-self : goal.invariant_of-self
invariant_of-self g c =
    let numbered : IsNumbered c.args.station c.self.inside.hearings.items = search rules in
    let small : c.args.station < 2 ^ 64 = search rules in
    (hearing_named g.J.Rings.hearings c.self.inside.hearings.items c.self.inside.items c.push.new.self c.self.inside.seated c.args.station c.self.invariant.0 numbered small c.push.ensures.value, c.self.invariant.1)
