use Rattle.std.proofs.Common.{map, ap, ◌∙◌}
use Rattle.dbf_image.specs.Table.{Table}
use Rattle.table_core.specs.Content.{Content}
use Rattle.catalogue_core.specs.Replay.{History, opened_as, opened_at}
use Rattle.catalogue_core.specs.Rooms.{seen}
use Rattle.catalogue_core.specs.Tables.{kept_table}
use Rattle.catalogue_core.proofs.ReplayLaws.{kept_fields}
use Rattle.catalogue_core.proofs.catalogue.Catalogue.content.Goals as goal

pub returns-clause-fields : goal.returns-clause-fields
returns-clause-fields c =
    ap (λ (t : Table). t.schema) c.in_ok-table.ensures.value ∙ ap (λ (x : Content). x.table.schema) c.table.ensures.value
    ∙ kept_fields (opened_as c.self.inside.stations (map kept_table c.self.inside.opened.items)) (seen c.self.inside.state) c.self.inside.journal.items c.args.number c.self.invariant
    ∙ ap (λ (h : History). (opened_at h.opened c.args.number).table.schema) c.self.view_is
