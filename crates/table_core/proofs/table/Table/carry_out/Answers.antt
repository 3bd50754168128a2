use Rattle.std.proofs.Common.{ap, subst, ◌∙◌}
use Rattle.table_core.specs.declared.edits.planned.TableChange.{TableChange}
use Rattle.table_core.specs.Content.{Held}
use Rattle.table_core.specs.Planned.{CanMake, CanAdd}
use Rattle.table_core.proofs.Follows.{room_all}
use Rattle.table_core.proofs.table.Table.carry_out.Goals as goal

pub add_blank-number-requires-clause-room : goal.add_blank-number-requires-clause-room
add_blank-number-requires-clause-room c =
    let can : CanAdd c.args.self.now = subst (λ (change : TableChange). CanMake c.args.self.now change) c.in-AddBlank.is c.requires.planned in
    room_all c.self.inside.indexes.items (ap (λ (h : Held). h.room.for_pairs) c.self.view_is ∙ can.for_pairs)

pub set_cell-requires-clause-room : goal.set_cell-requires-clause-room
set_cell-requires-clause-room c =
    let can = subst (λ (change : TableChange). CanMake c.args.self.now change) c.in-SetCell.is c.requires.planned in
    room_all c.self-in-SetCell.inside.indexes.items (ap (λ (h : Held). h.room.for_pairs) c.self-in-SetCell.view_is ∙ can.for_pairs)
