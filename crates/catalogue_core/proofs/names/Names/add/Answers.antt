use Rattle.std.proofs.Common.{◌≡◌, ℕ, Bool, not, List, [], ◌∷◌, ◌++◌, bytes_eq, map, cond, ap, sym, ◌∙◌}
use Rattle.std.specs.List.{list_any}
use Rattle.catalogue_core.specs.Names.{includes_name, with_name}
use Rattle.table_core.specs.Laws.Lists.{any_mapped}
use Rattle.catalogue_core.proofs.Mapped.{mapped_if}
use Rattle.catalogue_core.proofs.names.Names.add.Goals as goal

pub returns-clause-value : goal.returns-clause-value
returns-clause-value c =
    c.in_ok-insert.ensures.added
    ∙ ap not (sym (any_mapped (λ v. v.items) (bytes_eq c.in_ok-copy.copy.items) c.self.inside.names.keys)
    ∙ ap (λ (name : List ℕ). includes_name (map (λ v. v.items) c.self.inside.names.keys) name) (c.in_ok-copy.ensures.items ∙ c.as_slice.ensures.value)
    ∙ ap (λ (names : List (List ℕ)). includes_name names c.args.name.now) c.self.view_is)

pub returns-clause-ok : goal.returns-clause-ok
returns-clause-ok c =
    let keys = c.self.inside.names.keys in
    let names : List (List ℕ) = map (λ v. v.items) keys in
    let name : c.in_ok-copy.copy.items ≡ c.args.name.now = c.in_ok-copy.ensures.items ∙ c.as_slice.ensures.value in
    ap (map (λ v. v.items)) c.in_ok-insert.ensures.keys
    ∙ mapped_if (λ v. v.items) (list_any (λ k. bytes_eq c.in_ok-copy.copy.items k.items) keys) keys c.in_ok-copy.copy
    ∙ ap (λ (b : Bool). cond b names (names ++ c.in_ok-copy.copy.items ∷ [])) (sym (any_mapped (λ v. v.items) (bytes_eq c.in_ok-copy.copy.items) keys))
    ∙ ap (λ (n : List ℕ). with_name names n) name
    ∙ ap (λ (ns : List (List ℕ)). with_name ns c.args.name.now) c.self.view_is
