use Rattle.std.proofs.Common.{map, ◌≡◌, ℕ, ◌-◌, ◌<◌, length, List, Some, ap, sym, ◌∙◌, arith}
use Rattle.std.specs.List.{slice_get}
use Rattle.std.specs.Option.{option_map}
use Rattle.std.proofs.lemmas.List.{length-map}
use Rattle.std.proofs.lemmas.Option.{slice_get-get_or, slice_get-map}
use Rattle.catalogue_core.specs.declared.kept_table.KeptTable.{KeptTable}
use Rattle.catalogue_core.specs.Replay.{History, names_of}
use Rattle.catalogue_core.specs.Tables.{NamedTable, kept_table}
use Rattle.catalogue_core.proofs.catalogue.Catalogue.table_name.Goals as goal

pub returns : goal.returns
returns c =
    let xs = c.self.inside.opened.items in
    let i = c.args.number - 1 in
    let name_of : NamedTable → List ℕ = λ t. t.name in
    let count : length (map kept_table xs) ≡ length c.args.self.now.opened.tables = ap (λ (h : History). length h.opened.tables) c.self.view_is in
    let inside : i < length xs = omega (arith, count, length-map xs kept_table, c.requires.counted, c.requires.inside) in
    record {
      value =
          ap (λ (h : History). slice_get (names_of h.opened) i) (sym c.self.view_is)
          ∙ slice_get-map name_of (map kept_table xs) i
          ∙ ap (option_map name_of) (slice_get-map kept_table xs i ∙ ap (option_map kept_table) (slice_get-get_or xs i c.index.result.now inside))
          ∙ ap (λ (t : KeptTable). Some t.name) (sym c.index.ensures);
    }
