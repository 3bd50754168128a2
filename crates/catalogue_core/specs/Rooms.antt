-- A state whose tables tell what room they have.
use Rattle.std.specs.Prelude.{ℕ, ◌-◌, false, List, map, slice_index_or}
use Rattle.lock_table.specs.Locks.{HeldLocks as Locked}
use Rattle.table_core.specs.Content.{Held}
use Rattle.catalogue_core.specs.declared.area.Station.{Station}
use Rattle.catalogue_core.specs.State.{State, no_content}

pub record WithRoom : Type 0 where
  pub names : List (List ℕ)
  pub tables : List Held
  pub locks : Locked
  pub stations : List Station

-- the state without its tables' room
abbrev pub seen : WithRoom → State
seen w = record { names = w.names; tables = map (λ t. t.content) w.tables; locks = w.locks; stations = w.stations }

abbrev pub no_held : Held
no_held = record { content = no_content; room = record { for_record = false; for_text = 0; for_pairs = false; blocks_in_use = 0 } }

-- the table of a number, with its room
abbrev pub held_at : List Held → ℕ → Held
held_at tables number = slice_index_or tables (number - 1) no_held
