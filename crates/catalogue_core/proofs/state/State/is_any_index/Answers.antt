use Rattle.std.proofs.Common.{sym, ap, ◌∙◌}
use Rattle.std.specs.List.{list_any}
use Rattle.table_core.specs.Content.{Content, Held, has_index}
use Rattle.table_core.specs.Laws.Lists.{any_mapped}
use Rattle.catalogue_core.specs.Rooms.{WithRoom}
use Rattle.catalogue_core.proofs.state.State.is_any_index.Goals as goal

pub returns : goal.returns
returns c = record {
  value = c.any_has_index.ensures.value
      ∙ ap (list_any (λ (t : Held). has_index t.content c.args.name.now)) (c.deref.ensures.value ∙ ap (λ (w : WithRoom). w.tables) c.self.view_is)
      ∙ sym (any_mapped (λ (t : Held). t.content) (λ (t : Content). has_index t c.args.name.now) c.args.self.now.tables);
}
