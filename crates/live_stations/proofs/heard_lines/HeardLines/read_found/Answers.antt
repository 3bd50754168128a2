use Rattle.std.proofs.Common.{◌≡◌, false, subst, rules}
use Rattle.live_stations.specs.Hearings.{IsSaidNow}
use Rattle.live_stations.proofs.HearingLaws.{hearing_said}
use Rattle.live_stations.proofs.heard_lines.HeardLines.read_found.Goals as goal

pub invariant_of-self-2 : goal.invariant_of-self-2
invariant_of-self-2 g c =
    let old = c.self.inside.hearings.items in
    let new = c.take_line.new.hearings.items in
    let line = c.in-Some-take_line.line in
    let same : c.in-Some.station ≡ c.self.inside.seated = search rules in
    let says : IsSaidNow c.in-Some.station line old new = c.in-Some-take_line.ensures.line in
    let unended : c.self.inside.ended ≡ false = search rules in (
      hearing_said g.J.Rings.hearings old new c.self.inside.items c.push.new.self c.self.inside.seated line c.self.invariant.0
          (subst (λ n. IsSaidNow n line old new) same says) c.push.ensures.value,
      λ ended. absurd (cc),
    )
