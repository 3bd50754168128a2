use Rattle.memory_disk.specs.Seen.{seen_after}
use Rattle.memory_disk.proofs.Tearing.{on_both, copied_moves}
use Rattle.memory_disk.proofs.crash.steps.rename_in_part.Goals as goal

pub returns-then-choose-2 : goal.returns-then-choose-2
returns-then-choose-2 c = record {
  moved = on_both c.copy_file.result (copied_moves c.args.from.now c.args.to.now (seen_after c.args.left.now.items) (seen_after c.copy_file.new.left.items)) c.copy_file.ensures.there c.copy_file.ensures.others;
}
