-- Whether the server opens all.
use Rattle.std.proofs.Common.{◌≡◌, ◌≢◌, inr, Ok, ◌++◌, Bool, List, ℕ, Option, Some, None, true, false, refl}
use Rattle.std.specs.Prelude.{IfSome, Result, is_none, is_some, not}
use Rattle.folders.specs.declared.named.NamedFile.{NamedFile}
use Rattle.station_lines.specs.declared.setup.entry.SetupEntry.{SetupEntry}
use Rattle.setup_files.specs.declared.content.EntryContent.{EntryContent}
use Rattle.setup_files.specs.declared.fault.EntryFault.{EntryFault}
use Rattle.catalogue_core.specs.declared.opening.OpenFault.{OpenFault}
use Rattle.office_run.specs.declared.fault.ServeFault.{ServeFault}
use Rattle.office_run.specs.declared.fault.ServeFault.TheVariants.{Setup, File, Refused, Run, Close, NoMemory}
use Rattle.office_run.specs.Loading.{Read, nothing, IsFaultIn, LoadAll}
use Rattle.office_run.specs.OpenedSetup.{IsOpenFault, IsUnopened}
use Rattle.office_run.specs.WholeRun.{IsSaid}
use Rattle.tool_program.specs.Check.{IsFirstFault, IsOpening, IsSetupRead, IsVerdict, Loads}

-- all is opened exactly where no fault is told
pub verdict_of : (files : Option (List NamedFile)) (loads : Loads) (path : List ℕ) (entries : List SetupEntry) (reads : List (Result EntryContent EntryFault)) (days : List ℕ) (fault : Option ServeFault) (b : Bool)
    → is_some fault ≡ not b → IsOpening files path fault → IsSetupRead files loads path entries reads days → IfSome fault (IsFirstFault entries reads) → IsVerdict files loads path b
verdict_of files loads path entries reads days None true e h k first = h
verdict_of files loads path entries reads days None false e h k first = absurd cc
verdict_of files loads path entries reads days (Some fault) true e h k first = absurd cc
verdict_of files loads path entries reads days (Some fault) false e h k first = (fault, h, entries, reads, days, k, first)

-- ---- what was read of a setup, opened

-- the fault of an entry is why nothing is opened
pub unopened_at : (files : Option (List NamedFile)) (path : List ℕ) (entries : List SetupEntry) (fault : ServeFault) → IsSaid files path (Ok entries) → IsFaultIn files entries fault → IsUnopened files path false fault
unopened_at files path entries (Setup number) said h = absurd h.is_fault
unopened_at files path entries (File at why) said h = inr (entries, said, h)
unopened_at files path entries (Refused why) said h = absurd h.is_fault
unopened_at files path entries (Run why) said h = absurd h.is_fault
unopened_at files path entries (Close why) said h = absurd h.is_fault
unopened_at files path entries NoMemory said h = tt

-- and so is one of opening
pub unopened_from : (files : Option (List NamedFile)) (path : List ℕ) (entries : List SetupEntry) (read : Read) (fault : ServeFault)
    → IsSaid files path (Ok entries) → LoadAll files entries nothing read → IsOpenFault false read fault → IsUnopened files path false fault
unopened_from files path entries read (Setup number) said all h = absurd h
unopened_from files path entries read (File at why) said all h = absurd h
unopened_from files path entries read (Refused why) said all h = (read, record { entries = entries; said = said; loaded = all }, h)
unopened_from files path entries read (Run why) said all h = absurd h
unopened_from files path entries read (Close why) said all h = absurd h
unopened_from files path entries read NoMemory said all h = tt

pub refused_by : (read : Read) (fault : ServeFault) → IsOpenFault false read fault → fault ≢ NoMemory → (why : OpenFault) × (fault ≡ Refused why)
refused_by read (Setup number) h ne = absurd h
refused_by read (File at why) h ne = absurd h
refused_by read (Refused why) h ne = (why, refl)
refused_by read (Run why) h ne = absurd h
refused_by read (Close why) h ne = absurd h
refused_by read NoMemory h ne = absurd (ne refl)

-- the same of the answer, whether no fault is told
pub none_told : (fault : Option ServeFault) (b : Bool) → is_some fault ≡ not b → b ≡ is_none fault
none_told None true e = refl
none_told None false e = absurd cc
none_told (Some fault) true e = absurd cc
none_told (Some fault) false e = refl

-- parts that are appended one after another, each after it was passed on
pub parts_appended : (first second third fourth last report kept kept_passed two third_passed three fourth_passed four whole : List ℕ)
    → report ≡ first → kept ≡ second → kept_passed ≡ kept → two ≡ report ++ kept_passed
    → third_passed ≡ third → three ≡ two ++ third_passed → fourth_passed ≡ fourth → four ≡ three ++ fourth_passed → whole ≡ four ++ last
    → whole ≡ (((first ++ second) ++ third) ++ fourth) ++ last
parts_appended first second third fourth last report kept kept_passed two third_passed three fourth_passed four whole e f g h i j k l m = cc
