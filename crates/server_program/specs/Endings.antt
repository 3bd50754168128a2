-- What is printed of a run that wrote all its files.
use Rattle.std.specs.Prelude.{ℕ, ◌+◌, ◌==◌, List, ◌++◌, ◌∷◌, [], codes, if◌then◌else◌}
use Rattle.std.specs.Fmt.{decimal}
use Rattle.station_lines.specs.declared.script.format.TheConstants.{LF}
use Rattle.office_run.specs.Closing.{answer_name}
use Rattle.office_run.specs.declared.counts.CommandCounts.{CommandCounts}

-- the line on standard output if all files are written, its LF too
abbrev pub count_line : ℕ → List ℕ
count_line count = codes "station_server: " ++ (decimal count ++ (codes " commands" ++ LF ∷ []))

-- the file of a station's answers and how many of its commands were refused, each after a blank, where any was
abbrev pub refused_part : ℕ → ℕ → List ℕ
refused_part station count = if count == 0 then [] else codes " " ++ (answer_name station ++ (codes " " ++ decimal count))

-- the same of stations, the first of which has this number
abbrev pub refused_parts : ℕ → List ℕ → List ℕ
refused_parts station [] = []
refused_parts station (count ∷ rest) = refused_part station count ++ refused_parts (station + 1) rest

-- The line on refused commands, on standard error, its LF too: how many, and of each station that has some its answer file and how
-- many. Nothing if there is none.
abbrev pub refused_text : CommandCounts → List ℕ
refused_text counts =
    if counts.refused == 0 then []
    else codes "station_server: " ++ (decimal counts.refused ++ (codes " refused:" ++ (refused_parts 1 counts.refused_by_station.items ++ LF ∷ [])))
