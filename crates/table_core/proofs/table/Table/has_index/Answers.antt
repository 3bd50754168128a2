use Rattle.std.proofs.Common.{bytes_eq, sym, ap, ◌∙◌}
use Rattle.table_core.specs.Content.{Held, has_index}
use Rattle.table_core.specs.Indexes.{indexed}
use Rattle.table_core.specs.Laws.Lists.{any_mapped}
use Rattle.table_core.proofs.table.Table.has_index.Goals as goal

pub returns : goal.returns
returns c = record {
  value = c.any_has_name.ensures.value ∙ ap (λ xs. Rattle.std.specs.List.list_any (λ index. bytes_eq c.args.name.now index.name) xs) c.deref.ensures.value
      ∙ sym (any_mapped indexed (λ index. bytes_eq c.args.name.now index.name) c.self.inside.indexes.items)
      ∙ ap (λ (h : Held). has_index h.content c.args.name.now) c.self.view_is;
}
