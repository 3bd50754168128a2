use Rattle.std.proofs.Common.{rules, ap, subst, ◌∙◌}
use Rattle.folders.specs.Files.{IsFileOf}
use Rattle.live_stations.specs.Setups.{HasNoLive}
use Rattle.live_stations.proofs.words.load_live.Goals as goal

pub returns-in-None-clause-found : goal.returns-in-None-clause-found
returns-in-None-clause-found g c =
    let value = c.new-source.ensures.value in
    let setup = c.in_ok-setup.ensures in
    let text = c.in_ok-setup.setup in
    let found : IsFileOf (g.S.Source.files c.args.source) c.args.path.now text = search rules in
    let none : HasNoLive text = subst HasNoLive c.as_slice.ensures.value (c.in_ok-live.ensures.none c.in-None.is) in
    (ap g.S.Source.files value ∙ setup.kept, (ap g.S.Source.failures value ∙ setup.loads, text, found, none))
