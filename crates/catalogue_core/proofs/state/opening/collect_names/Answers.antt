use Rattle.std.proofs.Common.{◌≡◌, ℕ, ◌<◌, List, length, map, take, get_or, sym, ap, ◌∙◌, arith}
use Rattle.std.proofs.Math.ListN.{get_or-map}
use Rattle.std.proofs.lemmas.List.{length-map, take_all}
use Rattle.catalogue_core.specs.declared.opening.OpenedTable.{OpenedTable}
use Rattle.catalogue_core.specs.Names.{with_name}
use Rattle.catalogue_core.proofs.OpeningLaws.{names_more}
use Rattle.catalogue_core.proofs.state.opening.collect_names.Goals as goal

pub loop-i-preserved : goal.loop-i-preserved
loop-i-preserved c =
    let tables = c.args.opened.now in
    let ns : List (List ℕ) = map (λ (t : OpenedTable). t.name) tables in
    let i = c.loop-i.i in
    let t = c.index-opened-i.result in
    let lt : i < length ns = omega (arith, length-map tables (λ (t : OpenedTable). t.name), c.loop-i-test.true) in
    let name : (get_or tables i t).name ≡ t.name = ap (λ (x : OpenedTable). x.name) (sym c.index-opened-i.is) in
    c.in_ok-add.ensures.ok ∙ ap (λ (ms : List (List ℕ)). with_name ms (get_or tables i t).name) c.loop-i.invariant ∙ ap (with_name (take i ns)) name
    ∙ names_more ns i t.name c.requires.named lt (get_or-map (λ (t : OpenedTable). t.name) tables i t ∙ name)

pub returns : goal.returns
returns c =
    let tables = c.args.opened.now in
    let ns : List (List ℕ) = map (λ (t : OpenedTable). t.name) tables in
    record { value = c.loop-i.invariant ∙ take_all c.loop-i.i ns (omega (arith, length-map tables (λ (t : OpenedTable). t.name), c.loop-i-test.false)) }
