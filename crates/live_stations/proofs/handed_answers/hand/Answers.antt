use Rattle.std.proofs.Common.{◌≡◌, ◌<◌, ◌+◌, ◌++◌, ◌∷◌, [], length, get_or, rules}
use Rattle.rtrb.specs.Ring.{sent}
use Rattle.live_stations.proofs.HandedLaws.{handed_more, handed_same}
use Rattle.live_stations.proofs.handed_answers.hand.Goals as goal

pub returns-then-not-send_waiting-clause-same : goal.returns-then-not-send_waiting-clause-same
returns-then-not-send_waiting-clause-same g c shown start are =
    let rings = c.args.answers.now.items in
    let old = c.in-Some-get_mut.ring.now in
    let inside : c.in-Some-checked_sub.index < length rings = search rules in
    let at : get_or rings c.in-Some-checked_sub.index old ≡ old = search rules in
    handed_same shown start rings c.in-Some-checked_sub.index old c.send_waiting.new.items are inside at c.send_waiting.ensures.ring (search rules)

pub returns-clause-handed : goal.returns-clause-handed
returns-clause-handed g c shown start s are station line =
    let rings = c.args.answers.now.items in
    let old = c.in-Some-get_mut.ring.now in
    let inside : c.in-Some-checked_sub.index < length rings = search rules in
    let at : get_or rings c.in-Some-checked_sub.index old ≡ old = search rules in
    let more : sent c.send_waiting.new.items ≡ sent old ++ s.line ∷ [] = search rules in
    let number : s.station ≡ 1 + c.in-Some-checked_sub.index = search rules in
    handed_more shown start rings c.in-Some-checked_sub.index old c.send_waiting.new.items s are inside at c.send_waiting.ensures.ring more number
