use Rattle.std.proofs.Common.{rules}
use Rattle.live_stations.proofs.MeetingLaws.{rings_more}
use Rattle.live_stations.proofs.day.make_rings.Goals as goal

pub loop-index-preserved : goal.loop-index-preserved
loop-index-preserved c =
    let hs = c.loop-index.hearings.items in
    let h = c.in_ok-hearing.hearing in
    record {
      rings =
          rings_more hs c.push.new.self.items c.loop-index.answers.items c.push-in-loop-index.new.self.items c.loop-index.stations.items c.push-in-loop-index-2.new.self.items h c.in_ok-hearing.handed c.in_ok-hearing.ends
          c.loop-index.index c.loop-index.invariant.rings c.loop-index.invariant.many (search rules) (search rules) (search rules) c.in_ok-hearing.ensures.lines c.in_ok-hearing.ensures.answers;
      many = search rules;
    }
