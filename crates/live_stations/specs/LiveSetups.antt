-- Which stations are live.
use Rattle.std.specs.Prelude.{◌≡◌, ◌⊎◌, true, false, ℕ, List, Option}
use Rattle.clap.specs.Words.{Text}
use Rattle.folders.specs.declared.named.NamedFile.{NamedFile}
use Rattle.folders.specs.Files.{IsFileOf}
use Rattle.live_program.specs.declared.options.Options.{Options}
use Rattle.live_program.specs.Asked.{IsAskedIn}
use Rattle.live_stations.specs.declared.words.LiveSetup.{LiveSetup}
use Rattle.live_stations.specs.declared.words.LiveSetup.TheVariants.{Live, NoneLive, NotAsked}
use Rattle.live_stations.specs.Setups.{HasNoLive, IsUntaken, NamesLive}
use Rattle.office_run.specs.Loading.{IsFileFault}
use Rattle.office_run.specs.declared.fault.ServeFault.{ServeFault}
use Rattle.office_run.specs.declared.fault.ServeFault.TheVariants.{NoMemory}

-- a load gave the text of this path's file, and this holds of it
abbrev pub WasLoaded : {S : Type 0} → (S → Option (List NamedFile)) → (S → Option ℕ) → S → S → List ℕ → (List ℕ → Type 0) → Type 0
WasLoaded files failures old new path holds = (failures new ≡ failures old) × (text : List ℕ) × IsFileOf (files old) path text × holds text

-- the setup of this path was read, and names live stations, or has none that can be live
abbrev pub IsSetupAsked : {S : Type 0} → (S → Option (List NamedFile)) → (S → Option ℕ) → S → List ℕ → LiveSetup S → Type 0
IsSetupAsked files failures source path (Live left paths) =
    (files left ≡ files source) × WasLoaded files failures source left path (λ text. NamesLive text paths.items)
IsSetupAsked files failures source path (NoneLive left) = (files left ≡ files source) × WasLoaded files failures source left path HasNoLive
IsSetupAsked files failures source path (NotAsked left) = ⊥

-- the words ask for live stations, with a setup for which this holds
abbrev pub AskForLive : List Text → (List ℕ → Type 0) → Type 0
AskForLive words holds = (options : Options) × IsAskedIn words options × (options.live ≡ true) × holds options.setup.now

-- the words can't be read, or don't ask for live stations
abbrev pub AskForNone : List Text → Type 0
AskForNone words = IsUntaken words ⊎ ((options : Options) × IsAskedIn words options × (options.live ≡ false))

-- What the words say of live stations: they ask for them, and the setup was read and names these, or none that can be live; or they don't ask
-- for it. The files are the same.
abbrev pub IsLiveAsked : {S : Type 0} → (S → Option (List NamedFile)) → (S → Option ℕ) → S → List Text → LiveSetup S → Type 0
IsLiveAsked files failures source words (Live left paths) = AskForLive words (λ path. IsSetupAsked files failures source path (Live left paths))
IsLiveAsked files failures source words (NoneLive left) = AskForLive words (λ path. IsSetupAsked files failures source path (NoneLive left))
IsLiveAsked files failures source words (NotAsked left) = (left ≡ source) × AskForNone words

-- why it is not known whether stations are live: the words ask for them, and the setup is not read; or memory was refused
abbrev pub IsLiveUnread : Option (List NamedFile) → List Text → ServeFault → Type 0
IsLiveUnread files words fault = (fault ≡ NoMemory) ⊎ AskForLive words (λ path. IsFileFault files path fault)
