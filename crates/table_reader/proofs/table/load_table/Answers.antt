use Rattle.std.proofs.Common.{◌≡◌, ◌∙◌, Err, List, ℕ, Ok, Result, Some, subst, sym}
use Rattle.folders.specs.Files.{load_refusal}
use Rattle.table_reader.proofs.MemoLaws.{none_failed}
use Rattle.table_reader.proofs.table.load_table.Goals as goal

ok_not_err : {T E : Type 0} (r : Result T E) (x : T) (e : E) → r ≡ Ok x → r ≡ Err e → ⊥
ok_not_err r x e ok err = let clash : Ok x ≡ Err e = sym ok ∙ err in cc

pub returns-clause-no_failure : goal.returns-clause-no_failure
returns-clause-no_failure g c =
    none_failed _ _ _ _ c.in_ok-table.ensures.found (λ some. c.in-Ok.ensures.had some ∙ c.in_ok-dbf.ensures.no_failure)
    (λ none. c.in-Ok.ensures.unwanted (rw c.as_slice.ensures.value none) ∙ c.in_ok-dbf.ensures.no_failure)

-- a file that was loaded is one that no load refuses
pub returns-clause-early : goal.returns-clause-early
returns-clause-early g c why refused =
    let there = subst (λ (path : List ℕ). load_refusal (g.F.Source.files c.args.source.now) path ≡ Some why) (sym c.as_bytes.ensures.value) refused in
    absurd (ok_not_err _ _ _ c.in_ok-dbf.was (c.load.ensures.early why there))
