-- Where the tables of a setup stand among its entries.
use Rattle.std.specs.Prelude.{◌≡◌, ℕ, List, Option, Some, None, bytes_eq, if◌then◌else◌}
use Rattle.std.specs.Option.{option_or}
use Rattle.std.specs.HashMap.{get_by}
use Rattle.station_lines.specs.declared.setup.entry.SetupEntry.{SetupEntry}
use Rattle.setup_check.specs.declared.table_places.TablePlaces.{TablePlaces}
use Rattle.setup_check.specs.Findings.{first_table}

-- the place that is known of the first table of a name
abbrev pub place_of : TablePlaces → List ℕ → Option ℕ
place_of tables name = get_by (λ own. bytes_eq name own.items) tables.places

-- of each name, it is where the first table of the name stands among these entries
abbrev pub ArePlacesIn : TablePlaces → List SetupEntry → Type 0
ArePlacesIn tables entries = (name : List ℕ) → place_of tables name ≡ first_table name entries

-- the places, and this one of a name of which none was known
abbrev pub HasPlace : TablePlaces → List ℕ → ℕ → TablePlaces → Type 0
HasPlace old own place new = (name : List ℕ) → place_of new name ≡ option_or (place_of old name) (if bytes_eq own name then Some place else None)
