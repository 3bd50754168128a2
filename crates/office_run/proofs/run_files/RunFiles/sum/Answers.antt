use Rattle.std.proofs.Common.{◌≡◌, ◌∙◌, ◌<◌, List, length, map, Some, ap, sym, arith}
use Rattle.std.specs.List.{slice_get}
use Rattle.std.specs.Option.{option_map}
use Rattle.std.proofs.lemmas.List.{length-map}
use Rattle.std.proofs.lemmas.Option.{slice_get-get_or, slice_get-map}
use Rattle.std.proofs.lemmas.Result.{IfOk-weaker}
use Rattle.folders.specs.declared.named.NamedFile.{NamedFile}
use Rattle.office_run.specs.Closing.{file_of}
use Rattle.office_run.specs.FileSums.{sum_of_named}
use Rattle.office_run.specs.declared.planned.Planned.{Planned}
use Rattle.office_run.proofs.run_files.RunFiles.sum.Goals as goal

pub returns-clause-value : goal.returns-clause-value
returns-clause-value c =
    let i = c.args.index in
    let planned : List Planned = c.self.inside.planned.items in
    let inside : i < length planned = omega (arith, ap length c.self.view_is, length-map planned file_of, c.requires.inside) in
    let there : slice_get (map sum_of_named (map file_of planned)) i ≡ Some (sum_of_named (file_of c.index.result.now)) =
    slice_get-map sum_of_named (map file_of planned) i
    ∙ ap (option_map sum_of_named) (slice_get-map file_of planned i ∙ ap (option_map file_of) (slice_get-get_or planned i c.index.result.now inside))
    ∙ ap (λ (p : Planned). Some (sum_of_named (file_of p))) (sym c.index.ensures) in
    IfOk-weaker c.sum_of_planned.result _ (λ sum. slice_get (map sum_of_named c.args.self.now) i ≡ Some sum)
    (λ sum is. ap (λ (files : List NamedFile). slice_get (map sum_of_named files) i) (sym c.self.view_is) ∙ (there ∙ ap Some (sym is))) c.sum_of_planned.ensures.value
