use Rattle.std.proofs.Common.{◌≡◌, ℕ, true, false, not, List, [], ◌∷◌, ◌++◌, ap, sym, ◌∙◌}
use Rattle.catalogue_core.specs.Names.{includes_name}
use Rattle.setup_check.proofs.DayLaws.{known_path, new_path}
use Rattle.setup_check.proofs.open_days.add_path.Goals as goal

pub returns-then-not-branch : goal.returns-then-not-branch
returns-then-not-branch c =
    let paths = c.args.paths.now.items in
    let path = c.args.path in
    let is : false ≡ not (includes_name c.args.known.now path) = sym c.if-not-branch.true ∙ c.in_ok-add.ensures.value in
    let known : false ≡ not (includes_name paths path) = is ∙ ap (λ (ns : List (List ℕ)). not (includes_name ns path)) c.requires.known in
    record {
      known = c.in_ok-add.ensures.ok ∙ (known_path (includes_name c.args.known.now path) c.args.known.now path is ∙ c.requires.known);
      ok = sym (known_path (includes_name paths path) paths path known);
    }

pub returns : goal.returns
returns c =
    let paths = c.args.paths.now.items in
    let path = c.args.path in
    let is : true ≡ not (includes_name c.args.known.now path) = sym c.if-not-branch.false ∙ c.in_ok-add.ensures.value in
    let fresh : true ≡ not (includes_name paths path) = is ∙ ap (λ (ns : List (List ℕ)). not (includes_name ns path)) c.requires.known in
    record {
      known = c.in_ok-add.ensures.ok ∙ (new_path (includes_name c.args.known.now path) c.args.known.now path is
          ∙ (ap (λ (ns : List (List ℕ)). ns ++ path ∷ []) c.requires.known ∙ sym c.in_ok-push.ensures.items));
      ok = c.in_ok-push.ensures.items ∙ sym (new_path (includes_name paths path) paths path fresh);
    }
