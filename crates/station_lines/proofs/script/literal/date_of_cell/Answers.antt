use Rattle.std.proofs.Common.{sym}
use Rattle.station_lines.proofs.ScriptLaws.Dates.{date_said, blank_cell, bad_date}
use Rattle.station_lines.proofs.script.literal.date_of_cell.Goals as goal

pub returns-in-Is : goal.returns-in-Is
returns-in-Is c = record { value = sym (date_said c.args.cell.now c.in-Is.day c.in-Is.ensures.value) }

pub returns-in-Blank : goal.returns-in-Blank
returns-in-Blank c = record { value = blank_cell c.args.cell.now c.in-Blank.ensures.value }

pub returns-in-Odd : goal.returns-in-Odd
returns-in-Odd c = record { value = sym (bad_date c.args.cell.now c.in-Odd.ensures.value.1) }
