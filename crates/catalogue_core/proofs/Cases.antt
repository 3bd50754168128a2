-- What holds of all that is done where it is not refused, of a value that it gave.
use Rattle.std.proofs.Common.{◌≡◌, subst, Result, Ok, Err}
use Rattle.std.specs.Prelude.{IfOk, IfErr}
use Rattle.std.specs.Result.{IsErrAnd}
use Rattle.table_core.specs.declared.refusal.Refusal.{Refusal}

pub when_ok : {Y : Type 0} (P : Y → Type 0) (r : Result Y Refusal) (y : Y) → IfOk r P → r ≡ Ok y → P y
when_ok P (Ok z) y holds e = let same : z ≡ y = cc in subst P same holds
when_ok P (Err refusal) y holds e = cc

-- what the exit of a `?` answers
pub err_exit : {Y E : Type 0} {fault : E} (r : Result Y E) (P : E → Type 0) → IsErrAnd r (λ e. e ≡ fault) → P fault → IfErr r P
err_exit (Ok y) P is given = tt
err_exit (Err e) P is given = rw is given
