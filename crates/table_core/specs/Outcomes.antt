-- What comes of a command: a value, or the first refusal.
use Rattle.std.specs.Prelude.{◌≡◌, Bool, if◌then◌else◌, Option, Some, None, Result, Ok, Err, IsOk}
use Rattle.table_core.specs.declared.refusal.Refusal.{Refusal}
use Rattle.table_core.specs.declared.fault.TableFault.{TableFault}
use Rattle.table_core.specs.declared.fault.TableFault.TheVariants.{Refused, NoMemory}

-- what is looked for, or a refusal where there is none
abbrev pub found : {X Y : Type 0} → Option X → Refusal → (X → Result Y Refusal) → Result Y Refusal
found None refusal act = Err refusal
found (Some x) refusal act = act x

-- an outcome, or a refusal where it is not allowed
abbrev pub granted : {Y : Type 0} → Bool → Refusal → Result Y Refusal → Result Y Refusal
granted allowed refusal outcome = if allowed then outcome else Err refusal

-- what comes of a value, or the refusal that stands for it
abbrev pub passed : {X Y : Type 0} → Result X Refusal → (X → Result Y Refusal) → Result Y Refusal
passed (Ok x) act = act x
passed (Err refusal) act = Err refusal

-- a fault is the refusal of the outcome, and want of memory comes only where the outcome is no refusal
abbrev pub IsFaultOf : {Y : Type 0} → TableFault → Result Y Refusal → Type 0
IsFaultOf (Refused refusal) outcome = outcome ≡ Err refusal
IsFaultOf NoMemory outcome = IsOk outcome
