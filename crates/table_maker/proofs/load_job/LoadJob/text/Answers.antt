use Rattle.std.proofs.Common.{◌≡◌, ◌∙◌, Err, List, Result, Some, refl, subst, sym, ℕ}
use Rattle.folders.specs.Files.{load_refusal, IsUnrecovered}
use Rattle.table_reader.specs.Memos.{IsNotHad}
use Rattle.table_maker.specs.declared.load_fault.LoadJobFault.{LoadJobFault}
use Rattle.table_maker.specs.LoadedTable.{IsLoadJobFailure}
use Rattle.table_maker.proofs.LoadLaws.{csv_failure}
use Rattle.table_maker.proofs.load_job.LoadJob.text.Goals as goal

err_same : {T E : Type 0} (r : Result T E) (a b : E) → r ≡ Err a → r ≡ Err b → a ≡ b
err_same r a b first second = let both : Err a ≡ Err b = sym first ∙ second in cc

err_as : {T E : Type 0} (r : Result T E) (a b : E) → r ≡ Err a → a ≡ b → r ≡ Err b
err_as r a b first same = cc

pub returns-in-Err-clause-fault : goal.returns-in-Err-clause-fault
returns-in-Err-clause-fault g c =
    let files = g.S.Source.files c.args.source.now in
    let before = g.S.Source.failures c.args.source.now in
    let after = g.S.Source.failures c.load.new.self in
    subst (λ (fault : LoadJobFault). IsLoadJobFailure files c.args.self.now before after fault) (sym c.unread_text.ensures.value)
    (csv_failure files before after c.args.self.now _ c.in-Err.why refl
    (λ said refused.
    let there = subst (λ (path : List ℕ). load_refusal files path ≡ Some said) (sym c.as_bytes.ensures.value) refused in
    err_same _ _ _ c.in-Err.is (c.load.ensures.early said there))
    (λ is. subst (λ (path : List ℕ). IsNotHad files before after path) c.as_bytes.ensures.value (c.load.ensures.unread (err_as _ _ _ c.in-Err.is is)))
    (λ is. subst (λ (path : List ℕ). IsUnrecovered files path) c.as_bytes.ensures.value (c.load.ensures.unrecovered (err_as _ _ _ c.in-Err.is is)))
    (λ is. c.load.ensures.seen (err_as _ _ _ c.in-Err.is is))
    (λ is. c.load.ensures.memory (err_as _ _ _ c.in-Err.is is)))
