use Rattle.std.proofs.Common.{◌∙◌}
use Rattle.live_program.proofs.FileLaws.{stations_of_bytes, stations_written}
use Rattle.live_program.proofs.answers.write_answers.Goals as goal

pub loop-done-preserved : goal.loop-done-preserved
loop-done-preserved g c = record {
  wrote = stations_written _ _ _ c.loop-done.done c.args.journal.now c.loop-done.invariant.wrote c.in_ok-write_station.ensures.wrote;
  bytes = stations_of_bytes c.loop-done.done c.args.journal.now c.loop-done.invariant.bytes c.in_ok-write_station.ensures.bytes;
  no_failure = c.in_ok-write_station.ensures.no_failure ∙ c.loop-done.invariant.no_failure;
}
