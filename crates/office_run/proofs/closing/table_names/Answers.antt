use Rattle.std.proofs.Common.{◌≡◌, ℕ, ◌+◌, ◌-◌, ◌++◌, ◌∷◌, [], List, Some, take, ap, sym, subst, ◌∙◌, arith}
use Rattle.std.specs.List.{slice_get}
use Rattle.std.proofs.lemmas.List.{take_more}
use Rattle.std.proofs.lemmas.Option.{get_or_from_slice_get, slice_get_within}
use Rattle.catalogue_core.specs.Replay.{names_of}
use Rattle.office_run.proofs.closing.table_names.Goals as goal

pub loop-i-preserved : goal.loop-i-preserved
loop-i-preserved c =
    let all = names_of c.args.closed.now.opened in
    let i = c.loop-i.i in
    let name = c.in_ok-copy.field-0 in
    let back : i + 1 - 1 ≡ i = omega arith in
    let at : slice_get all i ≡ Some name = subst (λ (k : ℕ). slice_get all k ≡ Some c.table_name.result.now) back c.table_name.ensures.value ∙ ap Some (sym c.in_ok-copy.ensures.value) in
    c.in_ok-push.ensures.items ∙ ap (λ (l : List (List ℕ)). l ++ name ∷ []) c.loop-i.invariant
    ∙ ap (λ (x : List ℕ). take i all ++ x ∷ []) (sym (get_or_from_slice_get all i name name at))
    ∙ sym (take_more all i name (slice_get_within all i name at))
