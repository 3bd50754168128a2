-- What is said at a start on the log of an earlier life.
use Rattle.std.specs.Prelude.{ℕ, zero, suc, ◌==◌, List, [], ◌∷◌, ◌++◌, length, codes, Option, None, Some, if◌then◌else◌}
use Rattle.std.specs.Fmt.{decimal}
use Rattle.catalogue_core.specs.declared.entry.Entry.{Entry}
use Rattle.station_lines.specs.AnswerLines.{line_of}
use Rattle.station_lines.specs.CommandLines.{text_of_command}
use Rattle.station_lines.specs.declared.script.format.TheConstants.{LF}
use Rattle.setup_check.specs.ScriptLines.{shown_line}

-- how many commands were performed once more at the start, its LF too
abbrev pub again_line : ℕ → List ℕ
again_line count = codes "station_prompt: " ++ (decimal count ++ (codes " commands performed again" ++ LF ∷ []))

-- a station, before what is said of it
abbrev pub station_named : ℕ → List ℕ
station_named station = codes "station " ++ (decimal station ++ codes ": ")

-- a station's last command and its answer, its LF too
abbrev pub last_line : ℕ → List ℕ → List ℕ → List ℕ
last_line station command answer = station_named station ++ (command ++ (codes ": " ++ (answer ++ LF ∷ [])))

-- the entry, where it is the station's
abbrev pub own_entry : ℕ → Entry → Option Entry
own_entry station e = if e.station == station then Some e else None

-- this one, or what there is else
abbrev pub or_before : Option Entry → Option Entry → Option Entry
or_before (Some e) before = Some e
or_before None before = before

-- the last entry of a station in a journal
abbrev pub last_entry : ℕ → List Entry → Option Entry
last_entry station [] = None
last_entry station (e ∷ es) = or_before (last_entry station es) (own_entry station e)

-- the line of an entry that is a station's last, if there is one: the first 200 bytes of the command and of the answer, with each control byte escaped
abbrev pub last_said : ℕ → Option Entry → List ℕ
last_said station None = []
last_said station (Some e) = last_line station (shown_line (text_of_command e.command)) (shown_line (line_of e.answer))

-- the last entries of the first so many stations, each in a line
abbrev pub last_lines : ℕ → List Entry → List ℕ
last_lines zero journal = []
last_lines (suc n) journal = last_lines n journal ++ last_said (suc n) (last_entry (suc n) journal)

-- All that a start says of a log, whose journal was performed once more: how many commands there are, and the last one of each
-- station with its answer. Nothing if it has none.
abbrev pub again_text : ℕ → List Entry → List ℕ
again_text stations [] = []
again_text stations (e ∷ es) = again_line (length (e ∷ es)) ++ last_lines stations (e ∷ es)

-- what is said of a day that was closed before with so many commands, its LF too
abbrev pub earlier_line : ℕ → List ℕ
earlier_line count = codes "station_prompt: an earlier day was closed: " ++ (decimal count ++ (codes " commands" ++ LF ∷ []))

-- nothing where it had none
abbrev pub earlier_text : ℕ → List ℕ
earlier_text zero = []
earlier_text (suc n) = earlier_line (suc n)

-- nor where the day that is open has a command of its own
abbrev pub earlier_said : ℕ → List Entry → List ℕ
earlier_said earlier [] = earlier_text earlier
earlier_said earlier (e ∷ es) = []

-- what is said of the log at a start
abbrev pub start_text : ℕ → ℕ → List Entry → List ℕ
start_text earlier stations journal = earlier_said earlier journal ++ again_text stations journal
