use Rattle.std.proofs.Common.{sym}
use Rattle.station_lines.specs.SetupReading.{entry_of}
use Rattle.station_lines.proofs.SetupLaws.LineLaws.{is_skipped, says_that}
use Rattle.station_lines.proofs.setup.line.judge.Goals as goal

pub returns-then-is_skipped : goal.returns-then-is_skipped
returns-then-is_skipped c = record { judged = is_skipped c.args.line.now c.if-is_skipped.ensures.value }

pub returns-in-Some : goal.returns-in-Some
returns-in-Some c = record {
  judged = says_that c.args.line.now (entry_of c.in-Some.said) (sym c.if-not-is_plain.ensures.value) c.in-Some.ensures.value;
}
