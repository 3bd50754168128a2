-- What the program says on standard error before its day begins.
use Rattle.std.specs.Prelude.{◌≡◌, ◌⊎◌, Bool, ℕ, List, Option, Ok}
use Rattle.std.specs.Io.KnownBytes.{Keeps}
use Rattle.catalogue_core.specs.Replay.{History}
use Rattle.clap.specs.Words.{Text}
use Rattle.files_in_place.specs.Folder.{Folder}
use Rattle.folders.specs.declared.named.NamedFile.{NamedFile}
use Rattle.office_run.specs.WholeRun.{IsSaid}
use Rattle.setup_check.specs.KeptLines.{kept_lines}
use Rattle.station_lines.specs.declared.setup.entry.SetupEntry.{SetupEntry}
use Rattle.live_program.specs.Asked.{IsAskedIn}
use Rattle.live_program.specs.Consoles.{AppendsFront}
use Rattle.live_program.specs.Greetings.{start_text}
use Rattle.live_program.specs.Lives.{IsFound}
use Rattle.live_program.specs.Openings.{AreTablesOpened}
use Rattle.live_program.specs.declared.options.Options.{Options}

-- which files of the setup stay as they are
abbrev pub IsKeptText : Option (List NamedFile) → List ℕ → List ℕ → Type 0
IsKeptText files setup text = (entries : List SetupEntry) × IsSaid files setup (Ok entries) × (text ≡ kept_lines entries)

-- what of a log was performed once more on the tables of the setup, and how many commands an earlier day had
abbrev pub IsAgainText : Option (List NamedFile) → List ℕ → Bool → List ℕ → Type 0
IsAgainText files setup reindex text =
    (last : History) × (earlier : ℕ) × AreTablesOpened files setup reindex last.opened × (text ≡ start_text earlier last.opened.stations last.journal)

-- a stream has taken nothing, or the first of such a text, or all of it
abbrev pub IsSaidOf : (List ℕ → Type 0) → Option (List ℕ) → Option (List ℕ) → Type 0
IsSaidOf is_text old now = Keeps old now ⊎ ((text : List ℕ) × is_text text × AppendsFront old now text)

-- Both were said, one after the other, and nothing else.
pub record HasSaidAtStart (files : Option (List NamedFile)) (options : Options) (old now : Option (List ℕ)) : Type 0 where
  pub between : Option (List ℕ)
  pub kept_files : IsSaidOf (IsKeptText files options.setup.now) old between
  pub again : IsSaidOf (IsAgainText files options.setup.now options.reindex) between now

-- what was found in a folder: the entries of its log, on the tables of the setup, and how many commands the day had that was closed before
abbrev pub IsFoundText : Option (List NamedFile) → Options → Folder → List ℕ → Type 0
IsFoundText files options folder text =
    (head : List ℕ) × (first : History) × (earlier : ℕ) × IsFound files options folder head first earlier
    × (text ≡ start_text earlier first.opened.stations first.journal)

-- Both were said, the other one of what was found in this folder, and nothing else.
pub record HasToldFound (files : Option (List NamedFile)) (options : Options) (folder : Folder) (old now : Option (List ℕ)) : Type 0 where
  pub between : Option (List ℕ)
  pub kept_files : IsSaidOf (IsKeptText files options.setup.now) old between
  pub found : IsSaidOf (IsFoundText files options folder) between now

-- nothing was said, or both as the words ask for it
abbrev pub HasSaidFor : Option (List NamedFile) → List Text → Option (List ℕ) → Option (List ℕ) → Type 0
HasSaidFor files words old now = Keeps old now ⊎ ((options : Options) × IsAskedIn words options × HasSaidAtStart files options old now)
