use Rattle.std.proofs.Common.{ℕ, List, bytes_eq, map, ap, sym, ◌∙◌}
use Rattle.catalogue_core.specs.Names.{includes_name}
use Rattle.table_core.specs.Laws.Lists.{any_mapped}
use Rattle.catalogue_core.proofs.names.Names.includes.Goals as goal

pub returns : goal.returns
returns c = record {
  value =
      c.contains.ensures
      ∙ sym (any_mapped (λ v. v.items) (bytes_eq c.args.name.now) c.self.inside.names.keys)
      ∙ ap (λ (names : List (List ℕ)). includes_name names c.args.name.now) c.self.view_is;
}
