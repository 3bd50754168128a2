use Rattle.std.proofs.Common.{rules, ◌≡◌, true, false, refl, inl, inr, map}
use Rattle.live_program.specs.Asked.{IsAskedIn}
use Rattle.live_stations.proofs.SetupLaws.{asked_live, unread_live}
use Rattle.live_stations.proofs.words.live_setup.Goals as goal

pub returns-then-not-options : goal.returns-then-not-options
returns-then-not-options g c = record { found = (refl, inr (c.in-Some.options, search rules, search rules)); unread = search rules }

pub returns : goal.returns
returns g c =
    let asked : IsAskedIn (map g.T.AsStr.text c.args.words.now) c.in-Some.options = search rules in
    let live : c.in-Some.options.live ≡ true = search rules in
    record {
      found = asked_live g.S.Source.files g.S.Source.failures c.args.source (map g.T.AsStr.text c.args.words.now) c.in-Some.options c.load_live.result asked live c.load_live.ensures.found;
      unread = unread_live (g.S.Source.files c.args.source) (map g.T.AsStr.text c.args.words.now) c.in-Some.options c.load_live.result asked live c.load_live.ensures.unread;
    }
