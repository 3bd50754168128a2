-- What the words of a command line, and the setup that they name, say of live stations.
use Rattle.std.specs.Prelude.{◌≡◌, ◌≤◌, ◌<◌, ◌⊎◌, true, ℕ, List, [], ◌∷◌, length, Option, None, Ok, Err, flat_map}
use Rattle.clap.specs.Words.{takes, Text}
use Rattle.catalogue_core.specs.declared.opening.TheConstants.{MAX_STATIONS}
use Rattle.folders.specs.declared.named.NamedFile.{NamedFile}
use Rattle.folders.specs.Files.{load_refusal, IsFileOf}
use Rattle.station_lines.specs.declared.setup.entry.SetupEntry.{SetupEntry}
use Rattle.station_lines.specs.declared.setup.entry.SetupEntry.TheVariants.{Station}
use Rattle.station_lines.specs.Setup.{IsSetup}
use Rattle.live_program.specs.Asked.{prompt_app, IsDateBadIn}

-- The file of a path was read, and these are its bytes: a load of it is not refused.
pub record IsLoaded (files : Option (List NamedFile)) (path bytes : List ℕ) : Type 0 where
  pub file : IsFileOf files path bytes
  pub free : load_refusal files path ≡ None

-- the path of an entry, where it is a station's
abbrev pub script_of : SetupEntry → List (List ℕ)
script_of (Station script) = script ∷ []
script_of entry = []

-- the paths of the stations that entries name, in their order
abbrev pub scripts_in : List SetupEntry → List (List ℕ)
scripts_in entries = flat_map script_of entries

-- The text of a setup names stations of these paths: one at least, and no more than there may be.
pub record NamesLive (text : List ℕ) (paths : List (List ℕ)) : Type 0 where
  pub entries : List SetupEntry
  pub says : IsSetup text (Ok entries)
  pub paths_are : paths ≡ scripts_in entries
  pub some : 1 ≤ length paths
  pub few : length paths ≤ MAX_STATIONS

-- none, or more than there may be
abbrev pub IsNoneOrMany : ℕ → Type 0
IsNoneOrMany count = (count ≡ 0) ⊎ (MAX_STATIONS < count)

-- the text of a setup has no stations that can be live: a line of it is bad, or it names none, or too many
abbrev pub HasNoLive : List ℕ → Type 0
HasNoLive text =
    ((number : ℕ) × IsSetup text (Err number))
    ⊎ ((entries : List SetupEntry) × IsSetup text (Ok entries) × IsNoneOrMany (length (scripts_in entries)))

-- words that can't be read: they are not taken, or the date is bad
abbrev pub IsUntaken : List Text → Type 0
IsUntaken words = (takes prompt_app words ≡ true → ⊥) ⊎ IsDateBadIn words
