use Rattle.std.proofs.Common.{length}
use Rattle.memory_disk.proofs.Tearing.{writes_torn}
use Rattle.memory_disk.proofs.crash.steps.write_in_part.Goals as goal

pub returns : goal.returns
returns c = record {
  torn = writes_torn c.args.name.now c.in_ok-name.name c.args.offset (length c.args.bytes.now) c.in_ok-torn.torn c.args.left.now.items c.push_call.new.calls.items c.in_ok-name.ensures.value c.in_ok-torn.ensures.no_more c.in_ok-push_call.ensures.pushed;
}
