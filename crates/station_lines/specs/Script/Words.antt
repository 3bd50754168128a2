-- The words of a script line.
use Rattle.std.specs.Prelude.{◌≡◌, ◌⊎◌, ℕ, Bool, true, false, not, ◌||◌, ◌==◌, List, [], ◌∷◌, ◌++◌}
use Rattle.std.specs.List.{list_all}
use Rattle.dbf_fields.specs.declared.format.TheConstants.{BLANK, ASTERISK}
use Rattle.station_lines.specs.declared.script.format.TheConstants.{TAB}

-- a blank or a tab
abbrev pub is_gap : ℕ → Bool
is_gap b = b == BLANK || b == TAB

-- blanks and tabs, or nothing
abbrev pub are_gaps : List ℕ → Bool
are_gaps text = list_all is_gap text

-- a byte is next that is neither blank nor tab
abbrev pub begins_word : List ℕ → Bool
begins_word [] = false
begins_word (b ∷ bs) = not (is_gap b)

-- nothing is next, or a blank or a tab
abbrev pub ends_word : List ℕ → Bool
ends_word [] = true
ends_word (b ∷ bs) = is_gap b

-- The line is these words, one after another, apart by blanks or tabs. Those at both ends are dropped.
abbrev pub HasWords : List (List ℕ) → List ℕ → Type 0
HasWords [] line = are_gaps line ≡ true
HasWords (word ∷ words) line =
    (gap : List ℕ) × (rest : List ℕ) × (line ≡ gap ++ (word ++ rest)) × (are_gaps gap ≡ true) × (ends_word rest ≡ true) × HasWords words rest

abbrev pub begins_with_asterisk : List ℕ → Bool
begins_with_asterisk [] = false
begins_with_asterisk (b ∷ bs) = b == ASTERISK

-- a line of nothing or of a remark: without words, or with a first word that begins with `*`
abbrev pub IsBlankLine : List ℕ → Type 0
IsBlankLine line =
    (gap : List ℕ) × (rest : List ℕ) × (line ≡ gap ++ rest) × (are_gaps gap ≡ true) × ((rest ≡ []) ⊎ (begins_with_asterisk rest ≡ true))
