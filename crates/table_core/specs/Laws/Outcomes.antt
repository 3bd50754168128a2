-- What holds of all that is done where it is not refused, holds of the outcome.
use Rattle.std.proofs.Common.{◌≡◌, Bool, true, false, List, ℕ, Option, Some, None, Result, Ok, Err, refl}
use Rattle.std.specs.Prelude.{IfOk}
use Rattle.dbf_fields.specs.declared.cell.CellFault.{CellFault}
use Rattle.table_core.specs.declared.refusal.Refusal.{Refusal}
use Rattle.table_core.specs.declared.refusal.Refusal.TheVariants.{TypeMismatch, BadDate, NumberTooWide}
use Rattle.table_core.specs.CellFaults.{kept, is_of_type, is_no_bad_date, cell_of}
use Rattle.table_core.specs.Outcomes.{found, granted, passed}

pub of_found : {X Y : Type 0} (P : Y → Type 0) (o : Option X) (refusal : Refusal) (act : X → Result Y Refusal) → ((x : X) → o ≡ Some x → IfOk (act x) P) → IfOk (found o refusal act) P
of_found P None refusal act does = tt
of_found P (Some x) refusal act does = does x refl

pub of_granted : {Y : Type 0} (P : Y → Type 0) (b : Bool) (refusal : Refusal) (outcome : Result Y Refusal) → (b ≡ true → IfOk outcome P) → IfOk (granted b refusal outcome) P
of_granted P true refusal outcome does = does refl
of_granted P false refusal outcome does = tt

pub of_passed : {X Y : Type 0} (P : Y → Type 0) (r : Result X Refusal) (act : X → Result Y Refusal) → ((x : X) → r ≡ Ok x → IfOk (act x) P) → IfOk (passed r act) P
of_passed P (Ok x) act does = does x refl
of_passed P (Err refusal) act does = tt

pub of_kept : {Y : Type 0} (P : Y → Type 0) (cell : Result (List ℕ) CellFault) (act : List ℕ → Result Y Refusal) → ((c : List ℕ) → IfOk (act c) P) → IfOk (kept cell act) P
of_kept P cell act does =
    of_granted P (is_of_type cell) TypeMismatch (granted (is_no_bad_date cell) BadDate (found (cell_of cell) NumberTooWide act)) (λ _.
    of_granted P (is_no_bad_date cell) BadDate (found (cell_of cell) NumberTooWide act) (λ _.
    of_found P (cell_of cell) NumberTooWide act (λ c _. does c)))
