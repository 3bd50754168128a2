use Rattle.std.proofs.Common.{◌≡◌, Bool, true, false, not, sym}
use Rattle.std.proofs.lemmas.Bool.{false≢true}
use Rattle.station_lines.specs.SetupReading.{entry_of}
use Rattle.station_lines.proofs.SetupLaws.LineLaws.{bad_after, unplaced}
use Rattle.station_lines.proofs.setup.bad_setup_line.is_bad_after.Goals as goal

barred : (may follows : Bool) → may ≡ follows → not may ≡ true → follows ≡ false
barred true follows is e = absurd (false≢true e)
barred false follows is e = sym is

pub returns-in-Bad-clause-bad : goal.returns-in-Bad-clause-bad
returns-in-Bad-clause-bad c e = bad_after c.args.entries.now c.args.line.now c.in-Bad.ensures.judged

pub returns-in-Good-clause-bad : goal.returns-in-Good-clause-bad
returns-in-Good-clause-bad c e =
    unplaced c.args.entries.now c.args.line.now (entry_of c.in-Good.said) c.in-Good.ensures.judged (barred c.may_follow.result _ c.may_follow.ensures.value e)
