use Rattle.std.proofs.Common.{◌≡◌, ℕ, List, true, rules, arith, sym, subst, ◌∙◌}
use Rattle.lock_table.specs.Locks.{free_records}
use Rattle.catalogue_core.specs.Planned.{AreLockable}
use Rattle.catalogue_core.specs.Step.{are_records}
use Rattle.catalogue_core.proofs.ListedRecords.{listed_counted, listed_some, listed_fit}
use Rattle.catalogue_core.proofs.plan.areas.plan_record_locks.Goals as goal

pub records_of-requires : goal.records_of-requires
records_of-requires c =
    let there : are_records c.record_count.result c.as_slice-numbers.result.now ≡ true = sym c.are_records.ensures.value ∙ c.if-not-are_records.false in
    record { records = listed_fit c.record_count.result c.as_slice-numbers.result.now c.record_count.type_inv there }

pub returns-clause-can : goal.returns-clause-can
returns-clause-can c =
    let there : are_records c.record_count.result c.as_slice-numbers.result.now ≡ true = sym c.are_records.ensures.value ∙ c.if-not-are_records.false in
    let lockable : AreLockable c.as_slice-numbers.result.now = (
      listed_some c.record_count.result c.as_slice-numbers.result.now there,
      omega arith,
      listed_counted c.record_count.result c.as_slice-numbers.result.now there,
    ) in
    let free : free_records c.args.state.now.locks.locks c.args.station c.in_ok-area.area.table c.as_slice.result.now ≡ true = sym c.is_free_records.ensures.value ∙ c.if-not-is_free_records.false in
    let P : List ℕ → Type 0 = λ ns. AreLockable ns in
    let Q : List ℕ → Type 0 = λ ns. free_records c.args.state.now.locks.locks c.args.station c.in_ok-area.area.table ns ≡ true in
    (search rules, subst P (sym c.in_ok-records.ensures.value) lockable, subst Q c.as_slice.ensures.value free)
