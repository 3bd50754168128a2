use Rattle.std.proofs.Common.{◌≡◌, Some, List, ℕ, Result, Ok, Err, sym, ◌∙◌, subst}
use Rattle.folders.specs.Files.{load_refusal}
use Rattle.tool_program.proofs.order.read_order.Goals as goal

ok_not_err : {T E : Type 0} (r : Result T E) (x : T) (e : E) → r ≡ Ok x → r ≡ Err e → ⊥
ok_not_err r x e ok err = let clash : Ok x ≡ Err e = sym ok ∙ err in cc

-- a file that was loaded is one that no load refuses
pub returns-in_err-pairs-clause-unread : goal.returns-in_err-pairs-clause-unread
returns-in_err-pairs-clause-unread g c = λ why refused.
    let there = subst (λ (path : List ℕ). load_refusal (g.F.Source.files c.args.source.now) path ≡ Some why) (sym c.as_bytes.ensures.value) refused in
    absurd (ok_not_err _ _ _ c.in_ok-bytes.was (c.load.ensures.early why there))

pub returns-in_err-numbers-clause-unread : goal.returns-in_err-numbers-clause-unread
returns-in_err-numbers-clause-unread g c = λ why refused.
    let there = subst (λ (path : List ℕ). load_refusal (g.F.Source.files c.args.source.now) path ≡ Some why) (sym c.as_bytes.ensures.value) refused in
    absurd (ok_not_err _ _ _ c.in_ok-bytes.was (c.load.ensures.early why there))

pub returns-clause-unread : goal.returns-clause-unread
returns-clause-unread g c = λ why refused.
    let there = subst (λ (path : List ℕ). load_refusal (g.F.Source.files c.args.source.now) path ≡ Some why) (sym c.as_bytes.ensures.value) refused in
    absurd (ok_not_err _ _ _ c.in_ok-bytes.was (c.load.ensures.early why there))
