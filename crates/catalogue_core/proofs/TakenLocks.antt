-- A call for locks that is answered .T. has got them.
use Rattle.std.proofs.Common.{◌≡◌, inl, inr, ℕ, Bool, true, false, List, length, Some, Ok, Err, sym, ap, subst, ◌∙◌}
use Rattle.std.specs.Prelude.{IfOk, nat_le}
use Rattle.std.proofs.lemmas.Option.{same_Some}
use Rattle.lock_table.specs.declared.TheConstants.{MAX_RECORD_LOCKS}
use Rattle.lock_table.specs.Locks.{Lock, lock_of, free_record, free_records, free_whole, with_lock, with_records, IsHeld}
use Rattle.lock_table.specs.Laws.{held_new, listed_is_held}
use Rattle.lock_table.specs.Numbers.{IsListed}
use Rattle.table_core.specs.declared.refusal.Refusal.TheVariants.{NoTableInUse, OutOfRange, EndOfFile, TooManyLocks}
use Rattle.table_core.specs.Content.{record_count}
use Rattle.table_core.specs.Laws.Outcomes.{of_found, of_granted}
use Rattle.catalogue_core.specs.declared.answer.Answer.{Answer}
use Rattle.catalogue_core.specs.declared.answer.Answer.TheVariants.{Truth}
use Rattle.catalogue_core.specs.declared.area.Area.{Area}
use Rattle.catalogue_core.specs.declared.command.Command.{Command}
use Rattle.catalogue_core.specs.declared.command.Command.TheVariants.{RecordLock, RecordLocks, FileLock}
use Rattle.catalogue_core.specs.State.{State, area_of, table_of}
use Rattle.catalogue_core.specs.Stays.{TakesTheLock}
use Rattle.catalogue_core.specs.Step.{Outcome, lock, lock_record, lock_records, are_records, lock_file, settled}
use Rattle.catalogue_core.proofs.KeptLaws.{some_is}

-- what is asked of an outcome: where its answer is .T. the lock is held
abbrev Gives : Lock → State × Answer → Type 0
Gives l end = end.1 ≡ Truth true → IsHeld end.0.locks.locks l

gives : (free : Bool) (s : State) (locks : List Lock) (l : Lock) → IsHeld locks l → Gives l (lock free s locks)
gives true s locks l held = λ _. held
gives false s locks l held = λ e. cc

settled_gives : (s : State) (o : Outcome) (l : Lock) → IfOk o (Gives l) → Gives l (settled s o)
settled_gives s (Ok end) l holds = holds
settled_gives s (Err refusal) l holds = λ e. cc

given_record : (s : State) (station : ℕ) (area : Area) (number : ℕ) → area_of s station ≡ Some area → area.cursor.at ≡ Some number → IfOk (lock_record s station) (Gives (lock_of area.table station number))
given_record s station area number here at =
    let l : Lock = lock_of area.table station number in
    let one : Area → ℕ → Lock = λ x n. lock_of x.table station n in
    of_found (Gives l) (area_of s station) NoTableInUse _ (λ x is.
    of_found (Gives l) x.cursor.at EndOfFile _ (λ n there.
    let same : x ≡ area = some_is x area (sym is ∙ here) in
    let number_is : n ≡ number = same_Some n number (sym there ∙ ap (λ (y : Area). y.cursor.at) same ∙ at) in
    let lock_is : one x n ≡ l = ap (λ (y : Area). one y n) same ∙ ap (one area) number_is in
    let P : Lock → Type 0 = λ m. Gives m (lock (free_record s.locks.locks station x.table n) s (with_lock s.locks.locks station x.table n)) in
    subst P lock_is (gives (free_record s.locks.locks station x.table n) s (with_lock s.locks.locks station x.table n) (one x n) (held_new s.locks.locks station x.table n))))

given_records : (s : State) (station : ℕ) (area : Area) (numbers : List ℕ) (number : ℕ) → area_of s station ≡ Some area → IsListed numbers number → IfOk (lock_records s station numbers) (Gives (lock_of area.table station number))
given_records s station area numbers number here listed =
    let l : Lock = lock_of area.table station number in
    of_found (Gives l) (area_of s station) NoTableInUse _ (λ x is.
    of_granted (Gives l) (nat_le (length numbers) MAX_RECORD_LOCKS) TooManyLocks _ (λ _.
    of_granted (Gives l) (are_records (record_count (table_of s x)) numbers) OutOfRange _ (λ _.
    let same : x ≡ area = some_is x area (sym is ∙ here) in
    let P : Lock → Type 0 = λ m. Gives m (lock (free_records s.locks.locks station x.table numbers) s (with_records s.locks.locks station x.table numbers)) in
    subst P (ap (λ (y : Area). lock_of y.table station number) same)
    (gives (free_records s.locks.locks station x.table numbers) s (with_records s.locks.locks station x.table numbers) (lock_of x.table station number) (listed_is_held s.locks.locks station x.table numbers number listed)))))

given_file : (s : State) (station : ℕ) (area : Area) → area_of s station ≡ Some area → IfOk (lock_file s station) (Gives (lock_of area.table station 0))
given_file s station area here =
    let l : Lock = lock_of area.table station 0 in
    of_found (Gives l) (area_of s station) NoTableInUse _ (λ x is.
    let same : x ≡ area = some_is x area (sym is ∙ here) in
    let P : Lock → Type 0 = λ m. Gives m (lock (free_whole s.locks.locks station x.table) s (with_lock s.locks.locks station x.table 0)) in
    subst P (ap (λ (y : Area). lock_of y.table station 0) same)
    (gives (free_whole s.locks.locks station x.table) s (with_lock s.locks.locks station x.table 0) (lock_of x.table station 0) (held_new s.locks.locks station x.table 0)))

pub takes_the_lock : (s : State) (station : ℕ) (command : Command) → TakesTheLock s station command
takes_the_lock s station RecordLock area number here asked got = inl (settled_gives s (lock_record s station) (lock_of area.table station number) (given_record s station area number here asked) got)
takes_the_lock s station (RecordLocks numbers) area number here asked got =
    inl (settled_gives s (lock_records s station numbers) (lock_of area.table station number) (given_records s station area numbers number here asked) got)
takes_the_lock s station FileLock area number here asked got = inr (settled_gives s (lock_file s station) (lock_of area.table station 0) (given_file s station area here) got)
takes_the_lock s station _ area number here asked got = absurd asked
