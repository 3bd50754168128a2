use Rattle.memory_disk.proofs.AnyDisk.{without_files}
use Rattle.memory_disk.proofs.any_disk.+do_calls_in_place.Goals as goal

pub returns-in_default-clause-no_more : goal.returns-in_default-clause-no_more
returns-in_default-clause-no_more g t c promised =
    without_files (g.D.Disk.meaning.seen c.args.disk.now) (g.D.Disk.meaning.is_whole c.args.disk.now) (g.D.Disk.meaning.may_leave c.args.disk.now) c.args.calls.now c.in_default.len_below (c.requires.empty promised) (c.requires.synced promised)
