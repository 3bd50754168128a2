-- What of a script line its meaning keeps.
use Rattle.std.specs.Prelude.{Bool, true, false}
use Rattle.catalogue_core.specs.declared.command.Command.TheVariants.{UseTable, Seek, Replace, Memo, IndexOn, Show, RecordLocks}
use Rattle.station_lines.specs.declared.script.line.Line.{Line}
use Rattle.station_lines.specs.declared.script.line.Line.TheVariants.{Run}

-- a command that keeps a name, a text, an expression or a list of records of its line
abbrev pub keeps_text : Line → Bool
keeps_text (Run (UseTable name exclusive)) = true
keeps_text (Run (Seek text)) = true
keeps_text (Run (Replace field value)) = true
keeps_text (Run (Memo field text)) = true
keeps_text (Run (IndexOn expr name)) = true
keeps_text (Run (Show field)) = true
keeps_text (Run (RecordLocks numbers)) = true
keeps_text line = false
