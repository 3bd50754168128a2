use Rattle.std.proofs.Common.{sym, ◌∙◌}
use Rattle.table_core.specs.Content.{has_index}
use Rattle.table_core.specs.Laws.Lists.{any_mapped}
use Rattle.catalogue_core.specs.Tables.{NamedTable, named_table}
use Rattle.catalogue_core.proofs.opening.index.is_earlier_index.Goals as goal

pub returns : goal.returns
returns c = record { value = c.any_has_index.ensures.value ∙ sym (any_mapped named_table (λ (t : NamedTable). has_index t.content c.args.name.now) c.args.earlier.now) }
