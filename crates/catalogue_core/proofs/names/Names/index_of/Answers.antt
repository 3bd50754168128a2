use Rattle.std.proofs.Common.{ℕ, List, bytes_eq, map, ap, sym, ◌∙◌}
use Rattle.catalogue_core.specs.Names.{index_named}
use Rattle.catalogue_core.proofs.Mapped.{position_mapped}
use Rattle.catalogue_core.proofs.names.Names.index_of.Goals as goal

pub returns-clause-value : goal.returns-clause-value
returns-clause-value c =
    c.get_index_of.ensures.index
    ∙ sym (position_mapped (λ v. v.items) (bytes_eq c.as_slice.result.now) c.self.inside.names.keys)
    ∙ ap (λ (name : List ℕ). index_named (map (λ v. v.items) c.self.inside.names.keys) name) c.as_slice.ensures.value
    ∙ ap (λ (names : List (List ℕ)). index_named names c.args.name.now) c.self.view_is
