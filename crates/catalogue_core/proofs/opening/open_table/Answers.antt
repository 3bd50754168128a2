use Rattle.std.proofs.Common.{◌≡◌, List, [], ◌∷◌, map, Ok, refl, ap, subst, inl, ◌∙◌}
use Rattle.std.specs.Prelude.{None}
use Rattle.std.proofs.lemmas.List.{map-append}
use Rattle.dbf_fields.specs.Faults.{first_fault}
use Rattle.table_core.specs.Content.{Content}
use Rattle.catalogue_core.specs.declared.opening.OpenedTable.{OpenedTable}
use Rattle.catalogue_core.specs.Opening.{Then, Made, IndexesOpening, table_tests, without_indexes}
use Rattle.catalogue_core.specs.Tables.{NamedTable, named_table}
use Rattle.catalogue_core.proofs.OpeningLaws.{passing}
use Rattle.catalogue_core.proofs.opening.open_table.Goals as goal

pub returns-clause-opened : goal.returns-clause-opened
returns-clause-opened c =
    let s = c.args.source in
    let old = c.args.opened.now.items in
    let content = c.in_ok-table.table.content in
    let t : NamedTable = record { name = s.name; content = content } in
    let passed = subst (λ (xs : List OpenedTable). first_fault (table_tests (map named_table xs) s) ≡ None) c.deref.ensures.value c.in_ok-check_table.ensures.accepted in
    let made = subst (λ (xs : List OpenedTable). IndexesOpening c.args.reindex (map named_table xs) (without_indexes s.content) s.indexes.items (Ok content)) c.deref-2.ensures.value c.in_ok-table.ensures.opened in (
      t,
      passing (table_tests (map named_table old) s) (Then (IndexesOpening c.args.reindex (map named_table old) (without_indexes s.content) s.indexes.items) (λ (k : Content). Made (record { name = s.name; content = k }))) (Ok t) passed (inl (content, made, inl refl)),
      ap (map named_table) c.in_ok-push.ensures.items ∙ map-append named_table old (record { name = s.name; table = c.in_ok-table.table } ∷ []),
    )
