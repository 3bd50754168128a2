use Rattle.std.proofs.Common.{◌-◌}
use Rattle.catalogue_core.proofs.RoomLaws.{same_seen}
use Rattle.catalogue_core.proofs.state.State.plan_edit.Goals as goal

pub returns-clause-same : goal.returns-clause-same
returns-clause-same c =
    same_seen (record { names = c.self.inside.names; tables = c.self.inside.tables.items; locks = c.self.inside.locks; stations = c.self.inside.stations }) c.args.self.now (c.args.area.table - 1) c.plan.new.self c.index_mut.result.now
    c.self.view_is c.index_mut.ensures.value c.plan.ensures.same
