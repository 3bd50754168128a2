-- What a setup says: its entries in their order, or the number of its first bad line.
use Rattle.std.specs.Prelude.{◌≡◌, ◌⊎◌, ℕ, ◌+◌, Bool, true, false, not, List, [], ◌∷◌, ◌++◌, length, slice_get, take, nat_le, bytes_eq, codes, Option, Some, None, Result, Ok, Err, if◌then◌else◌}
use Rattle.std.specs.List.{list_all, list_any}
use Rattle.std.specs.Char.{is_ascii}
use Rattle.station_lines.specs.declared.setup.entry.SetupEntry.{SetupEntry}
use Rattle.station_lines.specs.declared.setup.entry.SetupEntry.TheVariants.{Table, Index, Station}
use Rattle.station_lines.specs.declared.setup.said.TheConstants.{MAX_NAME_BYTES}
use Rattle.station_lines.specs.Script.Words.{is_gap, HasWords, begins_with_asterisk}
use Rattle.station_lines.specs.Script.Parts.{name_in}
use Rattle.station_lines.specs.Script.Lines.{AreLines}

abbrev pub has_no_gap : List ℕ → Bool
has_no_gap word = list_all (λ b. not (is_gap b)) word

-- a byte or more, none of them a blank or a tab
abbrev pub is_word : List ℕ → Bool
is_word [] = false
is_word (b ∷ bs) = has_no_gap (b ∷ bs)

-- the line is these words, apart by blanks or tabs
abbrev pub AreWords : List (List ℕ) → List ℕ → Type 0
AreWords words line = HasWords words line × (list_all is_word words ≡ true)

-- the words of the line are this one and those of what stands after it
abbrev pub HasFirstWord : List ℕ → List ℕ → List ℕ → Type 0
HasFirstWord line word rest =
    (words : List (List ℕ)) → AreWords words line → (others : List (List ℕ)) × AreWords others rest × (words ≡ word ∷ others)

-- a line without words says nothing, and one whose first word begins with `*`
abbrev pub skips : List (List ℕ) → Bool
skips [] = true
skips (word ∷ words) = begins_with_asterisk word

-- the name that a word is, in capitals: 1 to 8 letters, digits or `_`, a letter first
abbrev pub short_name : List ℕ → Option (List ℕ)
short_name word = if nat_le (length word) MAX_NAME_BYTES then name_in word else None

-- the words of each entry
abbrev pub SaysEntry : List (List ℕ) → SetupEntry → Type 0
SaysEntry words (Table name dbf None) =
    (word : List ℕ) × (words ≡ codes "TABLE" ∷ word ∷ dbf ∷ []) × (short_name word ≡ Some name)
SaysEntry words (Table name dbf (Some dbt)) =
    (word : List ℕ) × (words ≡ codes "TABLE" ∷ word ∷ dbf ∷ dbt ∷ []) × (short_name word ≡ Some name)
SaysEntry words (Index table name ndx) =
    (first : List ℕ) × (second : List ℕ) × (words ≡ codes "INDEX" ∷ first ∷ second ∷ ndx ∷ []) × (short_name first ≡ Some table) × (short_name second ≡ Some name)
SaysEntry words (Station script) = words ≡ codes "STATION" ∷ script ∷ []

-- the line of a setup says nothing
abbrev pub IsSkipped : List ℕ → Type 0
IsSkipped line = (words : List (List ℕ)) × AreWords words line × (skips words ≡ true)

-- the line of a setup says this entry, and has no byte over 127
abbrev pub IsEntry : List ℕ → SetupEntry → Type 0
IsEntry line entry = (words : List (List ℕ)) × AreWords words line × (list_all is_ascii line ≡ true) × SaysEntry words entry

abbrev pub is_table_of : List ℕ → SetupEntry → Bool
is_table_of table (Table name dbf dbt) = bytes_eq name table
is_table_of table entry = false

-- an index stands after its table's line
abbrev pub may_follow : List SetupEntry → SetupEntry → Bool
may_follow before (Index table name ndx) = list_any (is_table_of table) before
may_follow before entry = true

-- each index's table is that of an earlier entry
abbrev pub IndexesFollowTables : List SetupEntry → Type 0
IndexesFollowTables entries =
    (i : ℕ) (table name ndx : List ℕ) → slice_get entries i ≡ Some (Index table name ndx) → list_any (is_table_of table) (take i entries) ≡ true

-- the line of a setup says this entry, which may stand after these
abbrev pub IsNext : List SetupEntry → List ℕ → SetupEntry → Type 0
IsNext before line entry = IsEntry line entry × (may_follow before entry ≡ true)

-- what a line makes of the entries before it
abbrev pub Adds : List SetupEntry → List ℕ → List SetupEntry → Type 0
Adds before line after =
    (IsSkipped line × (after ≡ before))
    ⊎ ((entry : SetupEntry) × IsEntry line entry × (may_follow before entry ≡ true) × (after ≡ before ++ entry ∷ []))

-- the line is neither skipped nor says what may stand after these entries
abbrev pub IsBadAfter : List SetupEntry → List ℕ → Type 0
IsBadAfter before line =
    (IsSkipped line → ⊥) × ((entry : SetupEntry) → IsEntry line entry → may_follow before entry ≡ true → ⊥)

-- what lines make of the entries before them, one after another
abbrev pub AddAll : List SetupEntry → List (List ℕ) → List SetupEntry → Type 0
AddAll before [] after = after ≡ before
AddAll before (line ∷ lines) after = (next : List SetupEntry) × Adds before line next × AddAll next lines after

-- the line of this number is bad, and none before it is
pub record HasBadLine (text : List ℕ) (number : ℕ) : Type 0 where
  pub good : List (List ℕ)
  pub bad : List ℕ
  pub others : List (List ℕ)
  pub entries : List SetupEntry
  pub cut : AreLines (good ++ bad ∷ others) text
  pub said : AddAll [] good entries
  pub is_bad : IsBadAfter entries bad
  pub counted : number ≡ length good + 1

-- the text has a line that says what may stand after the lines before it, none of which is bad
pub record HasNextEntry (text : List ℕ) : Type 0 where
  pub good : List (List ℕ)
  pub line : List ℕ
  pub others : List (List ℕ)
  pub entries : List SetupEntry
  pub entry : SetupEntry
  pub cut : AreLines (good ++ line ∷ others) text
  pub said : AddAll [] good entries
  pub is_next : IsNext entries line entry

-- what a text says as a setup: the entries of its lines in their order, or the number of its first bad line
abbrev pub IsSetup : List ℕ → Result (List SetupEntry) ℕ → Type 0
IsSetup text (Ok entries) = (lines : List (List ℕ)) × AreLines lines text × AddAll [] lines entries
IsSetup text (Err number) = HasBadLine text number
