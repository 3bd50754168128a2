use Rattle.memory_disk.proofs.Tearing.{durable_in_place}
use Rattle.memory_disk.proofs.disk.MemoryDiskDiskInPlace.sync_in_place.Goals as goal

pub returns-clause-durable : goal.returns-clause-durable
returns-clause-durable c keeps =
    durable_in_place c.args.name.now c.in_ok-name.name c.args.self.now.calls c.do_call.new.self.calls c.in_ok-name.ensures.value (c.requires.named keeps) c.in_ok-do_call.ensures.done
