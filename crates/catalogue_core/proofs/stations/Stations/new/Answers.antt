use Rattle.std.proofs.Common.{◌∙◌}
use Rattle.catalogue_core.proofs.StartLaws.{new_stations}
use Rattle.catalogue_core.proofs.stations.Stations.new.Goals as goal

pub returns : goal.returns
returns c = record { value = c.in_ok-resize.ensures.items ∙ new_stations c.args.count _ _ c.new-stations.ensures.items c.new-stations.ensures.len }
