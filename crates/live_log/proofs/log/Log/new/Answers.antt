use Rattle.std.proofs.Common.{◌-◌, length, arith}
use Rattle.live_log.proofs.Putting.{new_between, some_whole}
use Rattle.live_log.proofs.log.Log.new.Goals as goal

pub overflow_sub-result : goal.overflow_sub-result
overflow_sub-result g c = some_whole c.args.log.now c.args.head c.requires.whole.0 c.requires.whole.1 c.requires.whole.2

pub invariant_of-result : goal.invariant_of-result
invariant_of-result g c = (
  c.requires.short,
  λ keeps takes.
      new_between g.D.Disk.meaning c.args.name c.args.disk c.args.log.now c.args.head c.requires.whole.0 (length c.args.log.now - 1) c.requires.whole.1 c.requires.whole.2 (c.requires.there keeps) (c.requires.synced keeps) (c.requires.clean keeps)
      (omega (arith, some_whole c.args.log.now c.args.head c.requires.whole.0 c.requires.whole.1 c.requires.whole.2)),
)
