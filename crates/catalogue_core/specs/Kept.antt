-- What a catalogue keeps.
use Rattle.std.specs.Prelude.{◌≡◌, ◌≤◌, List, length, map}
use Rattle.catalogue_core.specs.declared.catalogue.TheConstants.{MAX_ENTRIES}
use Rattle.catalogue_core.specs.declared.entry.Entry.{Entry}
use Rattle.catalogue_core.specs.Replay.{Opened, replay, IsLegal, AreOfStations}
use Rattle.catalogue_core.specs.State.{State, schemas_of, KeepIndexes, IsState}

-- What every catalogue keeps: its state is the replay of the journal on the opened tables, and each stored answer is the one that
-- its command has at its place; each entry is of one of the stations; what is true of every state is true of this one, which has
-- all stations, and tables of the fields that were opened, with the indexes that were opened first among theirs.
pub record IsKept (opened : Opened) (state : State) (journal : List Entry) : Type 0 where
  pub replayed : state ≡ replay opened journal
  pub legal : IsLegal opened journal
  pub of_stations : AreOfStations opened journal
  pub count_bounded : length journal ≤ MAX_ENTRIES
  pub ok : IsState state
  pub stations : length state.stations ≡ opened.stations
  pub fields : schemas_of state.tables ≡ schemas_of (map (λ t. t.content) opened.tables)
  pub indexes : KeepIndexes (map (λ t. t.content) opened.tables) state.tables
