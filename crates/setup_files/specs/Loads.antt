-- What happens to the count of loads that failed.
use Rattle.std.specs.Prelude.{◌≡◌, ◌⊎◌, ℕ, List, [], ◌∷◌, Option, Some, Result, Ok, Err}
use Rattle.byte_io.specs.Sink.{Rises}
use Rattle.folders.specs.declared.named.NamedFile.{NamedFile}
use Rattle.folders.specs.Files.{IsTooLong}
use Rattle.station_lines.specs.declared.setup.entry.SetupEntry.{SetupEntry}
use Rattle.setup_files.specs.declared.content.EntryContent.{EntryContent}
use Rattle.setup_files.specs.declared.fault.EntryFault.{EntryFault}
use Rattle.setup_files.specs.declared.fault.EntryFault.TheVariants.{Unloaded, UnloadedMemos}
use Rattle.setup_files.specs.declared.fault.LoadRefusal.{LoadRefusal}
use Rattle.setup_files.specs.declared.fault.LoadRefusal.TheVariants.{CannotRead, Unrecovered}
use Rattle.setup_files.specs.EntryFiles.{refused_path}

-- by why no bytes of a path's file were had: one more load failed, or the file is over the limit; where a set's list lies
-- beside it, no load has failed
abbrev pub IsRefusedLoad : Option (List NamedFile) → List ℕ → Option ℕ → Option ℕ → LoadRefusal → Type 0
IsRefusedLoad files path before after CannotRead = Rises before after ⊎ IsTooLong files path
IsRefusedLoad files path before after Unrecovered = after ≡ before

-- by whether the bytes of a path's file were had
abbrev pub IsFileLoad : Option (List NamedFile) → List ℕ → Option ℕ → Option ℕ → Result (List ℕ) LoadRefusal → Type 0
IsFileLoad files path before after (Err why) = IsRefusedLoad files path before after why
IsFileLoad files path before after (Ok bytes) = after ≡ before

-- the same of a memo file, where one is named
abbrev pub IsMemosLoad : Option (List NamedFile) → Option (List ℕ) → Option ℕ → Option ℕ → Result (Option (List ℕ)) LoadRefusal → Type 0
IsMemosLoad files (Some path) before after (Err why) = IsRefusedLoad files path before after why
IsMemosLoad files path before after look = after ≡ before

-- by why the files of an entry are refused: a load failed only where a file can't be read
abbrev pub IsFailureAt : Option (List NamedFile) → Option ℕ → Option ℕ → SetupEntry → EntryFault → Type 0
IsFailureAt files before after entry (Unloaded why) = IsRefusedLoad files (refused_path entry (Unloaded why)) before after why
IsFailureAt files before after entry (UnloadedMemos why) = IsRefusedLoad files (refused_path entry (UnloadedMemos why)) before after why
IsFailureAt files before after entry fault = after ≡ before

-- at an entry one more load failed exactly if it is found that a file can't be read, or the file is over the limit
abbrev pub IsEntryLoad : Option (List NamedFile) → Option ℕ → Option ℕ → SetupEntry → Result EntryContent EntryFault → Type 0
IsEntryLoad files before after entry (Ok found) = after ≡ before
IsEntryLoad files before after entry (Err fault) = IsFailureAt files before after entry fault

-- the same of each of some entries, one after another
abbrev pub AreEntryLoads : Option (List NamedFile) → Option ℕ → Option ℕ → List SetupEntry → List (Result EntryContent EntryFault) → Type 0
AreEntryLoads files before after [] [] = after ≡ before
AreEntryLoads files before after [] (read ∷ reads) = ⊥
AreEntryLoads files before after (entry ∷ entries) [] = ⊥
AreEntryLoads files before after (entry ∷ entries) (read ∷ reads) =
    (next : Option ℕ) × IsEntryLoad files before next entry read × AreEntryLoads files next after entries reads
