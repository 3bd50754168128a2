use Rattle.std.proofs.Common.{◌≡◌, ℕ, ◌<◌, List, [], ◌∷◌, ◌++◌, Some, length, sym, ap, subst, ◌∙◌, rules}
use Rattle.std.specs.Prelude.{slice_get}
use Rattle.std.proofs.lemmas.Option.{slice_get-get_or}
use Rattle.shared_catalogue.specs.Seats.{Seated}
use Rattle.office_run.specs.Reports.{EndValue, HasEnded, HaveEnded}
use Rattle.office_run.proofs.EndLaws.{have_ended-push}
use Rattle.office_run.proofs.stations.+run_from.Goals as goal

pub returns-clause-each : goal.returns-clause-each
returns-clause-each g t c =
    let zs : List Seated = c.pop.new.self.items in
    let z : Seated = c.in-Some.seat in
    let old : List EndValue = c.in_ok-ends.ends.items in
    let e : EndValue = c.join.result in
    let script : List ℕ = c.index-scripts-len.result in
    let n = c.len.result in
    let p = c.in_ok-worker.ensures in
    let items : c.push_reserved.new.self.items ≡ old ++ e ∷ [] = c.push_reserved.ensures.items ∙ ap (λ (l : List EndValue). l ++ e ∷ []) c.in_ok-reserve.ensures.items in
    let zlen : length zs ≡ n = search rules in
    let elen : length old ≡ n = search rules in
    let within : n < length c.args.scripts.now = search rules in
    let there : slice_get c.args.scripts.now n ≡ Some script = slice_get-get_or c.args.scripts.now n script within ∙ ap Some (sym c.index-scripts-len.is) in
    let has : HasEnded z script e = subst (λ (l : List ℕ). HasEnded z l e) p.ok.1 (subst (λ (k : Seated). HasEnded k c.in_ok-worker.worker.promise.script.value e) p.ok.0 c.join.ensures) in
    let new = have_ended-push c.args.scripts.now zs z old e script n c.in_ok-ends.ensures.each zlen elen there has in
    subst (λ (l : List Seated). HaveEnded c.args.scripts.now l c.push_reserved.new.self.items) (sym c.in-Some.ensures.items) (subst (λ (l : List EndValue). HaveEnded c.args.scripts.now (zs ++ z ∷ []) l) (sym items) new)
