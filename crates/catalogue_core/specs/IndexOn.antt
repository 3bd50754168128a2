-- What INDEX ON tests, in order.
use Rattle.std.specs.Prelude.{ℕ, Bool, not, ◌&&◌, nat_le, nat_lt, List, length, slice_index, Result, Ok}
use Rattle.std.specs.List.{list_any, list_all}
use Rattle.std.specs.Int.{is_in_range}
use Rattle.std.specs.Char.{is_ascii_alphabetic}
use Rattle.dbf_fields.specs.Name.{is_name_char}
use Rattle.key_expr.specs.declared.format.TheConstants.{MAX_EXPRESSION_BYTES}
use Rattle.key_expr.specs.Expression.{Expression}
use Rattle.table_core.specs.declared.refusal.Refusal.{Refusal}
use Rattle.table_core.specs.declared.refusal.Refusal.TheVariants.{NoTableInUse, NeedsExclusive, BadCommand, BadExpression, IndexNameUsed, TooManyIndexes}
use Rattle.table_core.specs.Content.{Content, Indexed, has_index}
use Rattle.table_core.specs.Outcomes.{found, granted, passed}
use Rattle.catalogue_core.specs.declared.area.Area.{Area}
use Rattle.catalogue_core.specs.declared.opening.TheConstants.{MAX_INDEXES}
use Rattle.catalogue_core.specs.declared.plan.index_on.TheConstants.{MAX_INDEX_NAME_BYTES}
use Rattle.catalogue_core.specs.State.{State, area_of, table_of}

-- a name that an index can have: letters, digits or `_`, a letter first, and no more than may be
abbrev pub is_index_name : List ℕ → Bool
is_index_name name = is_in_range 1 MAX_INDEX_NAME_BYTES (length name) && (is_ascii_alphabetic (slice_index name 0) && list_all is_name_char name)

-- an index of one of the tables has the name, whether the table is open or not
abbrev pub is_any_index : List Content → List ℕ → Bool
is_any_index tables name = list_any (λ content. has_index content name) tables

-- the current area, where the name is one for an index, and the table is open exclusively
abbrev pub index_target : State → ℕ → List ℕ → Result Area Refusal
index_target s station name =
    granted (is_index_name name) BadCommand (
    found (area_of s station) NoTableInUse (λ area.
    granted area.exclusive NeedsExclusive (Ok area)))

-- what is tested before memory is asked for: that target, and that the text is no longer than an expression can be
abbrev pub index_early : State → ℕ → List ℕ → List ℕ → Result Area Refusal
index_early s station text name =
    passed (index_target s station name) (λ area. granted (nat_le (length text) MAX_EXPRESSION_BYTES) BadExpression (Ok area))

-- the index of the name and the expression, where no index has the name, and the table can have one more
abbrev pub new_index : State → Area → List ℕ → Expression → Result Indexed Refusal
new_index s area name e =
    granted (not (is_any_index s.tables name)) IndexNameUsed (
    granted (nat_lt (length (table_of s area).indexes) MAX_INDEXES) TooManyIndexes (Ok (record { name = name; expr = e })))
