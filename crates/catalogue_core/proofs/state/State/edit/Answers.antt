use Rattle.catalogue_core.proofs.RoomLaws.{edited_seen}
use Rattle.catalogue_core.proofs.state.State.edit.Goals as goal

pub returns-clause-value : goal.returns-clause-value
returns-clause-value c =
    edited_seen (record { names = c.self.inside.names; tables = c.self.inside.tables.items; locks = c.self.inside.locks; stations = c.self.inside.stations }) c.args.self.now c.args.station c.args.area c.args.planned c.carry_out.new.self c.index_mut.result.now c.carry_out.new.cursor c.put_area.new.self
    c.self.view_is c.requires.can.0 c.index_mut.ensures.value c.carry_out.ensures.content c.carry_out.ensures.cursor c.put_area.ensures.value
