use Rattle.std.proofs.Common.{◌≡◌, ◌≤◌, ℕ, List, [], length, map, vec_len, Err, sym, ap, subst, ◌∙◌, arith, rules}
use Rattle.std.specs.Prelude.{None}
use Rattle.dbf_fields.specs.Faults.{first_fault}
use Rattle.catalogue_core.specs.declared.opening.OpenFault.TheVariants.{NoMemory}
use Rattle.catalogue_core.specs.Opening.{count_tests, TablesOpening}
use Rattle.std.proofs.lemmas.List.{length-map}
use Rattle.catalogue_core.specs.declared.entry.Entry.{Entry}
use Rattle.catalogue_core.specs.declared.opening.TheConstants.{MAX_TABLES}
use Rattle.catalogue_core.specs.Kept.{IsKept}
use Rattle.catalogue_core.specs.Replay.{opened_as, start}
use Rattle.catalogue_core.specs.Rooms.{seen}
use Rattle.catalogue_core.specs.Tables.{NamedTable, named_table, kept_table}
use Rattle.catalogue_core.proofs.OpeningLaws.{may_refuse, passing}
use Rattle.catalogue_core.proofs.ReplayLaws.{opened_kept}
use Rattle.catalogue_core.proofs.catalogue.Catalogue.open.Goals as goal

pub invariant_of-result : goal.invariant_of-result
invariant_of-result c =
    let n = c.args.stations in
    let made = c.in_ok-tables.tables.items in
    let kept : List NamedTable = map kept_table c.in-Ok.opened.items in
    let same : kept ≡ map named_table made = c.in-Ok.ensures.value ∙ ap (map named_table) c.deref.ensures.value in
    let count_bounded : length kept ≤ MAX_TABLES = omega (arith, ap length same, length-map made named_table, c.in_ok-tables.ensures.count_bounded) in
    subst (λ (l : List Entry). IsKept (opened_as n kept) (seen c.in-Ok-new.state) l) (sym c.new-2.ensures.items)
    (opened_kept n kept (seen c.in-Ok-new.state) (c.in-Ok-new.ensures.value ∙ ap (λ (ts : List NamedTable). start (opened_as n ts)) (sym same)) count_bounded)

pub returns-in_default-clause-refused : goal.returns-in_default-clause-refused
returns-in_default-clause-refused c =
    let sources = c.args.sources.items in
    let len : vec_len c.args.sources ≡ length sources = search rules in
    let counted = subst (λ (k : ℕ). first_fault (count_tests k c.args.stations) ≡ None) (c.len.ensures ∙ len) c.in_ok-check_counts.ensures.accepted in
    passing (count_tests (length sources) c.args.stations) (TablesOpening c.args.reindex [] sources) (Err NoMemory) counted (may_refuse c.args.reindex [] sources (map named_table c.in_ok-tables.tables.items) c.in_ok-tables.ensures.opened)

pub returns-in_default-new-clause-refused : goal.returns-in_default-new-clause-refused
returns-in_default-new-clause-refused c =
    let sources = c.args.sources.items in
    let len : vec_len c.args.sources ≡ length sources = search rules in
    let counted = subst (λ (k : ℕ). first_fault (count_tests k c.args.stations) ≡ None) (c.len.ensures ∙ len) c.in_ok-check_counts.ensures.accepted in
    passing (count_tests (length sources) c.args.stations) (TablesOpening c.args.reindex [] sources) (Err NoMemory) counted (may_refuse c.args.reindex [] sources (map named_table c.in_ok-tables.tables.items) c.in_ok-tables.ensures.opened)
