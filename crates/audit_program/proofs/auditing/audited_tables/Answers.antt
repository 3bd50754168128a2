use Rattle.std.proofs.Common.{List, ℕ, sym, subst}
use Rattle.folders.specs.Files.{IsFileOf}
use Rattle.audit_program.proofs.ProgramLaws.{err_exit, failed_entries, read_lines}
use Rattle.audit_program.proofs.auditing.audited_tables.Goals as goal

pub returns-in_err-catalogue-clause-fault : goal.returns-in_err-catalogue-clause-fault
returns-in_err-catalogue-clause-fault g c =
    let files = g.S.Source.files c.args.source.now in
    let options = c.args.options.now in
    let text = c.as_slice.result.now in
    let parts = c.in-Ok.parts in
    let read_file = rw c.as_bytes.ensures.value at c.in_ok-text.ensures.found in
    let found : IsFileOf files options.journal.now text = subst (λ (bytes : List ℕ). IsFileOf files options.journal.now bytes) (sym c.as_slice.ensures.value) read_file in
    let all = rw c.load_journal.ensures.kept at c.in_ok-loaded.ensures.read in
    let noted = rw c.load_journal.ensures.kept at c.in_ok-loaded.ensures.noted in
    let none = c.in_ok-loaded.ensures.same c.in-Ok.ensures.found.journal.read (read_lines text parts c.in-Ok.ensures.found) in
    err_exit _ _ c.from_residual-in_err-catalogue.ensures.1
    (failed_entries files options text parts c.in-Ok.ensures.found _ _ found c.in-Ok.ensures.reindex all noted none c.in_err-catalogue.field-0.0 c.in_err-catalogue.ensures.fault)
