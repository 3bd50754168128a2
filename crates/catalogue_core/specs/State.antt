-- What commands read and change: the tables, the locks, and the areas of each station. Tables, stations,
-- areas and records count from 1.
use Rattle.std.specs.Prelude.{◌≡◌, ◌≢◌, ℕ, ◌-◌, ◌<◌, ◌≤◌, Bool, false, ◌&&◌, ◌||◌, ◌==◌, List, [], ◌++◌, length, map, take, drop, replicate, slice_index_or, slice_set, Option, Some, None}
use Rattle.std.specs.List.{list_any}
use Rattle.dbf_image.specs.Table.{empty_table}
use Rattle.lock_table.specs.Locks.{Lock, HeldLocks, held, without, IsHeld, AreApart}
use Rattle.table_core.specs.declared.cursor.Cursor.{Cursor}
use Rattle.dbf_fields.specs.declared.field.Field.{Field}
use Rattle.table_core.specs.Content.{Content, Indexed}
use Rattle.table_core.specs.Cursors.{IsCursor}
use Rattle.catalogue_core.specs.declared.area.Area.{Area}
use Rattle.catalogue_core.specs.declared.area.Station.{Station}
use Rattle.catalogue_core.specs.declared.area.TheConstants.{MAX_AREAS}
use Rattle.catalogue_core.specs.declared.opening.TheConstants.{MAX_TABLES}

-- the tables with their names, the locks that are held, and the areas of each station
pub record State : Type 0 where
  pub names : List (List ℕ)
  pub tables : List Content
  pub locks : HeldLocks
  pub stations : List Station

-- a station at opening: area 1 is the current one, and no table is open in any
abbrev pub new_station : Station
new_station = record { current = 1; areas = replicate MAX_AREAS None }

-- the station of a number
abbrev pub station_in : List Station → ℕ → Station
station_in stations station = slice_index_or stations (station - 1) new_station

abbrev pub station_at : State → ℕ → Station
station_at s station = station_in s.stations station

-- all stations but one have the areas that they had
abbrev pub OtherStationsStay : ℕ → State → State → Type 0
OtherStationsStay station before after = (other : ℕ) → 1 ≤ other → other ≢ station → station_at after other ≡ station_at before other

-- the station's current area, where a table is open in it
abbrev pub area_in : List Station → ℕ → Option Area
area_in stations station = slice_index_or (station_in stations station).areas ((station_in stations station).current - 1) None

abbrev pub area_of : State → ℕ → Option Area
area_of s station = area_in s.stations station

-- a table without fields, records and indexes
abbrev pub no_content : Content
no_content = record { table = empty_table []; indexes = [] }

-- the table of a number
abbrev pub table_at : List Content → ℕ → Content
table_at tables number = slice_index_or tables (number - 1) no_content

-- the table that is open in an area
abbrev pub table_of : State → Area → Content
table_of s area = table_at s.tables area.table

-- the station's areas beside the current one
abbrev pub other_areas : Station → List (Option Area)
other_areas st = take (st.current - 1) st.areas ++ drop st.current st.areas

-- the stations beside the one of a number
abbrev pub other_stations : List Station → ℕ → List Station
other_stations stations station = take (station - 1) stations ++ drop station stations

-- the table is open in the area
abbrev pub has_open : ℕ → Option Area → Bool
has_open number None = false
has_open number (Some area) = area.table == number

-- the table is open in the area, and one of the two wants it exclusively
abbrev pub bars_use : ℕ → Bool → Option Area → Bool
bars_use number exclusive None = false
bars_use number exclusive (Some area) = area.table == number && (area.exclusive || exclusive)

-- the table is open in another area of the station
abbrev pub is_open_beside : List Station → ℕ → ℕ → Bool
is_open_beside stations station number = list_any (has_open number) (other_areas (station_in stations station))

-- another station has the table open, and one of the two wants it exclusively
abbrev pub is_in_use : List Station → ℕ → ℕ → Bool → Bool
is_in_use stations station number exclusive = list_any (λ st. list_any (bars_use number exclusive) st.areas) (other_stations stations station)

-- another area is the current one of a station
abbrev pub with_current_in : List Station → ℕ → ℕ → List Station
with_current_in stations station number = slice_set stations (station - 1) (record { current = number; areas = (station_in stations station).areas })

-- this is in the current area of a station
abbrev pub with_area_in : List Station → ℕ → Option Area → List Station
with_area_in stations station area =
    slice_set stations (station - 1) (record {
      current = (station_in stations station).current;
      areas = slice_set (station_in stations station).areas ((station_in stations station).current - 1) area;
    })

-- the state with another table of a number, with other locks, or with other stations
abbrev pub with_table_at : State → ℕ → Content → State
with_table_at s number table = record { names = s.names; tables = slice_set s.tables (number - 1) table; locks = s.locks; stations = s.stations }

abbrev pub with_held : State → List Lock → State
with_held s locks = record { names = s.names; tables = s.tables; locks = held s.locks.stations s.locks.tables locks; stations = s.stations }

abbrev pub with_stations : State → List Station → State
with_stations s stations = record { names = s.names; tables = s.tables; locks = s.locks; stations = stations }

-- another area is the station's current one
abbrev pub with_current : State → ℕ → ℕ → State
with_current s station number = with_stations s (with_current_in s.stations station number)

-- this is in the station's current area
abbrev pub with_area : State → ℕ → Option Area → State
with_area s station area = with_stations s (with_area_in s.stations station area)

-- the area with another cursor
abbrev pub area_with : Area → Cursor → Area
area_with area cursor = record { table = area.table; exclusive = area.exclusive; cursor = cursor }

abbrev pub with_cursor : State → ℕ → Area → Cursor → State
with_cursor s station area cursor = with_area s station (Some (area_with area cursor))

-- the station's locks in the area's table are released, where a table is open in the area
abbrev pub without_lock : State → ℕ → Option Area → State
without_lock s station None = s
without_lock s station (Some area) = with_held s (without s.locks.locks station area.table)

-- no table is open in the station's current area, and the locks in the one that was open there are released
abbrev pub closed : State → ℕ → State
closed s station = with_area (without_lock s station (area_of s station)) station None

-- what is open in the area of an index at the station of an index, where indexes count from 0
abbrev pub area_at : State → ℕ → ℕ → Option Area
area_at s station area = slice_index_or (slice_index_or s.stations station new_station).areas area None

-- the table is open in an area of the station
abbrev pub IsOpenAt : State → ℕ → ℕ → Type 0
IsOpenAt s station number = (k : ℕ) × (x : Area) × (area_at s (station - 1) k ≡ Some x) × (x.table ≡ number)

-- an area has a table that there is, and its cursor is in it
pub record IsArea (tables : List Content) (area : Area) : Type 0 where
  pub counted : 1 ≤ area.table
  pub inside : area.table ≤ length tables
  pub cursor : IsCursor (table_at tables area.table) area.cursor

-- a station has its areas, and one of them is the current one
pub record IsStation (st : Station) : Type 0 where
  pub areas : length st.areas ≡ MAX_AREAS
  pub counted : 1 ≤ st.current
  pub inside : st.current ≤ MAX_AREAS

-- what is true of every state: there are no more tables than may be, each with a name; each open area has its cursor in its table; a station
-- has a table open in one area at most; a table that is open exclusively is open at no other station; no
-- record is locked by two stations; and a station has locks only in tables that it has open
pub record IsState (s : State) : Type 0 where
  pub count_bounded : length s.tables ≤ MAX_TABLES
  pub named : length s.names ≡ length s.tables
  pub lockable : s.locks.tables ≡ length s.tables
  pub lockers : s.locks.stations ≡ length s.stations
  pub each : (a : ℕ) → a < length s.stations → IsStation (slice_index_or s.stations a new_station)
  pub areas : (a k : ℕ) (x : Area) → area_at s a k ≡ Some x → IsArea s.tables x
  pub once : (a k l : ℕ) (x y : Area) → k ≢ l → area_at s a k ≡ Some x → area_at s a l ≡ Some y → x.table ≢ y.table
  pub alone : (a b k l : ℕ) (x y : Area) → a ≢ b → area_at s a k ≡ Some x → area_at s b l ≡ Some y → x.table ≡ y.table → x.exclusive ≡ false
  pub apart : AreApart s.locks.locks
  pub open_ : (l : Lock) → IsHeld s.locks.locks l → (1 ≤ l.station) × IsOpenAt s l.station l.table

-- there is a station of this number, and its areas are as those of every station
pub record HasStationIn (stations : List Station) (station : ℕ) : Type 0 where
  pub counted : 1 ≤ station
  pub inside : station ≤ length stations
  pub each : IsStation (station_in stations station)

abbrev pub HasStation : State → ℕ → Type 0
HasStation s station = HasStationIn s.stations station

-- the tables' fields, which no command changes
abbrev pub schemas_of : List Content → List (List Field)
schemas_of tables = map (λ content. content.table.schema) tables

-- the indexes that were there are the first ones
abbrev pub AreFirst : List Indexed → List Indexed → Type 0
AreFirst was now = (added : List Indexed) × (now ≡ was ++ added)

-- each table has the indexes that it had, and after them maybe others
abbrev pub KeepIndexes : List Content → List Content → Type 0
KeepIndexes was now = (number : ℕ) → AreFirst (table_at was number).indexes (table_at now number).indexes
