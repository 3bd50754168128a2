use Rattle.std.proofs.Common.{◌≡◌}
use Rattle.live_program.proofs.GreetingLaws.{again_then, told_as}
use Rattle.live_program.proofs.greeting.tell_again.Goals as goal

pub returns-in-Ok : goal.returns-in-Ok
returns-in-Ok g c =
    let is : c.journal.result.now ≡ c.args.catalogue.now.journal = c.journal.ensures.entries in
    record {
      text = told_as c.tell_stations.result _ _
          (λ told. again_then c.args.catalogue.now.opened.stations c.args.catalogue.now.journal _ _ _ (rw is at c.if-count-eq0.false) (rw is at c.in-Ok.ensures.text) told)
          c.tell_stations.ensures.text;
    }
