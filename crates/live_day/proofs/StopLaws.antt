-- When a day takes no more lines, and what is said then.
use Rattle.std.proofs.Common.{◌≡◌, refl, sym, subst, ap, Option, Some, Result, Ok, Err}
use Rattle.std.specs.Prelude.{◌↔◌, ⊤, Bool, true, false, IfErr, IsErrAnd}
use Rattle.catalogue_core.specs.Replay.{History}
use Rattle.files_in_place.specs.Disk.{DiskMeaning}
use Rattle.live_log.specs.declared.faults.LogFault.{LogFault}
use Rattle.live_log.specs.declared.faults.LogFault.TheVariants as of_log
use Rattle.live_day.specs.declared.run_fault.RunFault.{RunFault}
use Rattle.live_day.specs.declared.run_fault.RunFault.TheVariants.{Log, Screen, Unread, NoMemory}
use Rattle.live_day.specs.declared.keyboard.TypingFault.{TypingFault}
use Rattle.live_day.specs.declared.keyboard.TypingFault.TheVariants as of_typing
use Rattle.live_day.specs.declared.typing.Then.{Then}
use Rattle.live_day.specs.declared.typing.Then.TheVariants as of_then
use Rattle.live_day.specs.Faults.{IsDayFault, IsGroupFault, IsLogTooLong, IsOfLog, typing_fault_of}

-- it takes lines still, and something is said of the screen or of the keyboard
pub goes_on_err : {T : Type 0} (told : Result T RunFault) (why : RunFault) (takes : Bool) → takes ≡ true → IsErrAnd told (λ fault. fault ≡ why) → (IsOfLog why → ⊥) → IsErrAnd told IsOfLog ↔ (takes ≡ false)
goes_on_err (Ok t) why takes is says other = absurd says
goes_on_err (Err fault) why takes is says other = (λ of_log. absurd (other (subst IsOfLog says of_log)), λ no. absurd cc)

-- what a keyboard says
pub of_no_log : (why : TypingFault) → IsOfLog (typing_fault_of why) → ⊥
of_no_log of_typing.NoMemory never = never
of_no_log of_typing.Failed never = never

-- the same is said
pub stopped_same : {T : Type 0} (told : Result T RunFault) (why : RunFault) (takes : Bool) → IsErrAnd told (λ fault. fault ≡ why) → (IsOfLog why ↔ (takes ≡ false)) → IsErrAnd told IsOfLog ↔ (takes ≡ false)
stopped_same (Ok t) why takes says stopped = absurd says
stopped_same (Err fault) why takes says stopped = (λ of_log. stopped.0 (subst IsOfLog says of_log), λ no. subst IsOfLog (sym says) (stopped.1 no))

-- the log took no group
pub stopped_log : {T : Type 0} (told : Result T RunFault) (fault : LogFault) (takes : Bool) → IsErrAnd told (λ why. why ≡ Log fault) → takes ≡ false → IsErrAnd told IsOfLog ↔ (takes ≡ false)
stopped_log (Ok t) fault takes says is = absurd says
stopped_log (Err why) fault takes says is = (λ of_log. is, λ no. subst IsOfLog (sym says) tt)

-- ---- why

-- what holds of the fault holds of the one that is told
pub told_err : {T E : Type 0} (P : E → Type 0) (told : Result T E) (why : E) → IsErrAnd told (λ e. e ≡ why) → P why → IfErr told P
told_err P (Ok t) why says holds = absurd says
told_err P (Err e) why says holds = subst P (sym says) holds

module _ {D : Type 0} (m : DiskMeaning D) where
  -- the log took no group
  pub group_fault : (h : History) (put : Result ⊤ LogFault) (fault : LogFault) → put ≡ Err fault → (put ≡ Err of_log.Closed → ⊥) → (put ≡ Err of_log.TooLong → IsLogTooLong m h)
      → IsGroupFault m h fault
  group_fault h put of_log.Closed is unclosed long = unclosed is
  group_fault h put of_log.TooLong is unclosed long = long is
  group_fault h put of_log.NoMemory is unclosed long = tt
  group_fault h put of_log.Failed is unclosed long = tt

  -- where lines are obeyed no keyboard fails
  pub unread_never : (unshown unread : Type 0) (h : History) (why : RunFault) → IsDayFault m unshown ⊥ h why → IsDayFault m unshown unread h why
  unread_never unshown unread h (Log why) is = is
  unread_never unshown unread h Screen is = is
  unread_never unshown unread h Unread is = absurd is
  unread_never unshown unread h NoMemory is = tt

  -- and so it is told
  pub told_unread : {T : Type 0} (unshown unread : Type 0) (h : History) (told : Result T RunFault) (why : RunFault) → IsErrAnd told (λ fault. fault ≡ why)
      → IsDayFault m unshown ⊥ h why → IfErr told (IsDayFault m unshown unread h)
  told_unread unshown unread h told why says is = told_err (IsDayFault m unshown unread h) told why says (unread_never unshown unread h why is)

  -- a line could not be read
  pub unread_fault : (unshown unread : Type 0) (h : History) (fault : TypingFault) → (fault ≡ of_typing.Failed → unread) → IsDayFault m unshown unread h (typing_fault_of fault)
  unread_fault unshown unread h of_typing.NoMemory failed = tt
  unread_fault unshown unread h of_typing.Failed failed = failed refl

abbrev fault_or : TypingFault → Option Then → TypingFault
fault_or other (Some (of_then.Failed fault)) = fault
fault_or other then = other

-- what comes after the lines of a group is the one failure, and so this
pub failed_is : (f other : TypingFault) → Some (of_then.Failed f) ≡ Some (of_then.Failed other) → f ≡ other
failed_is f other is = ap (fault_or f) is
