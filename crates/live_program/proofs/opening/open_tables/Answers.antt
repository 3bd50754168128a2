use Rattle.std.proofs.Common.{◌∙◌}
use Rattle.office_run.proofs.LoadLaws.{err_exit}
use Rattle.office_run.specs.Loading.{read_of}
use Rattle.live_program.proofs.OpeningLaws.{all_noted, refused_tables, tables_opened, unloaded_tables, unread_tables}
use Rattle.live_program.proofs.opening.open_tables.Goals as goal

pub returns-clause-opened : goal.returns-clause-opened
returns-clause-opened g c =
    let files = g.S.Source.files c.args.source.now in
    tables_opened files c.args.setup.now c.args.reindex c.in_ok-entries.entries.items c.deref.result.now c.deref-2.result.now (read_of c.in_ok-loaded.loaded) c.seat_count-seats.result c.in_ok-catalogue.catalogue.opened
    c.in_ok-entries.ensures.said c.deref.ensures.value c.seat_count-seats.ensures.count (c.deref-2.ensures.value ∙ c.in_ok-tables.ensures.value) (rw c.load_setup.ensures.kept at c.in_ok-loaded.ensures.read) c.in_ok-catalogue.ensures.opened
    c.in_ok-catalogue.ensures.stations

pub returns-in_err-entries-clause-fault : goal.returns-in_err-entries-clause-fault
returns-in_err-entries-clause-fault g c = err_exit _ _ c.from_residual.ensures.1 (unread_tables (g.S.Source.files c.args.source.now) c.args.setup.now c.args.reindex _ c.in_err-entries.ensures.fault)

pub returns-in_err-loaded-clause-fault : goal.returns-in_err-loaded-clause-fault
returns-in_err-loaded-clause-fault g c =
    let files = g.S.Source.files c.args.source.now in
    err_exit _ _ c.from_residual-in_err-loaded.ensures.1 (unloaded_tables files c.args.setup.now c.args.reindex c.in_ok-entries.entries.items c.deref-2.result.now _ c.in_ok-entries.ensures.said
    (c.deref-2.ensures.value ∙ c.in_ok-tables.ensures.value) (rw c.load_setup.ensures.kept at c.in_err-loaded.ensures.fault))

pub returns-in_err-catalogue-clause-fault : goal.returns-in_err-catalogue-clause-fault
returns-in_err-catalogue-clause-fault g c =
    let files = g.S.Source.files c.args.source.now in
    err_exit _ _ c.from_residual-in_err-catalogue.ensures.1 (refused_tables files c.args.setup.now c.args.reindex c.in_ok-entries.entries.items c.deref.result.now c.deref-2.result.now (read_of c.in_ok-loaded.loaded) c.seat_count-seats.result _
    c.in_ok-entries.ensures.said c.deref.ensures.value c.seat_count-seats.ensures.count (c.deref-2.ensures.value ∙ c.in_ok-tables.ensures.value) (rw c.load_setup.ensures.kept at c.in_ok-loaded.ensures.read) c.in_err-catalogue.ensures.fault)

pub returns-clause-read : goal.returns-clause-read
returns-clause-read g c =
    let files = g.S.Source.files c.args.source.now in
    all_noted files c.args.setup.now c.in_ok-entries.entries.items c.deref-2.result.now _ _ c.into_sums.result.items c.in_ok-entries.ensures.said (c.deref-2.ensures.value ∙ c.in_ok-tables.ensures.value)
    (rw c.wanted-sums.ensures.value at c.in_ok-entries.ensures.noted) (rw c.load_setup.ensures.kept at c.in_ok-loaded.ensures.noted) c.into_sums.ensures.sums
