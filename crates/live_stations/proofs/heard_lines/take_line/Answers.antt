use Rattle.std.proofs.Common.{◌≡◌, ◌<◌, ◌∙◌, length, get_or, rules}
use Rattle.live_stations.proofs.HearingLaws.{heard_many, heard_said, if_some}
use Rattle.live_stations.proofs.heard_lines.take_line.Goals as goal

pub returns-clause-line : goal.returns-clause-line
returns-clause-line c =
    let hs = c.args.hearings.now.items in
    let old = c.in_ok-hearing.hearing.now in
    let inside : c.args.index < length hs = search rules in
    let at : get_or hs c.args.index old ≡ old = search rules in
    let seat : old.station ≡ c.args.seated = search rules in
    if_some c.take.result c.take.ensures.line
    (λ line heard. record {
      many = heard_many hs c.args.index c.take.new.self;
      each = λ items first are seated.
          heard_said items first hs c.args.index old c.take.new.self line are inside at (seat ∙ seated)
          (record { station = c.take.ensures.station; ring = c.take.ensures.ring; heard = heard });
    })
