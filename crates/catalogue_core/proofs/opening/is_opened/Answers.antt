use Rattle.std.proofs.Common.{bytes_eq, sym, ◌∙◌}
use Rattle.table_core.specs.Laws.Lists.{any_mapped}
use Rattle.catalogue_core.specs.declared.opening.OpenedTable.{OpenedTable}
use Rattle.catalogue_core.proofs.opening.is_opened.Goals as goal

pub returns : goal.returns
returns c = record { value = c.any_has_name.ensures.value ∙ sym (any_mapped (λ (t : OpenedTable). t.name) (bytes_eq c.args.name.now) c.args.opened.now) }
