use Rattle.std.proofs.Common.{Vec, List, subst}
use Rattle.std.specs.declared.alloc.Global.{Global}
use Rattle.memory_disk.specs.declared.disk_call.DiskCall.{DiskCall}
use Rattle.memory_disk.specs.Seen.{seen_after}
use Rattle.memory_disk.specs.Outcomes.{MayLeave}
use Rattle.memory_disk.specs.Crashes.{KeepsWhole}
use Rattle.memory_disk.proofs.Tearing.{if_ok, rest_is, may_tear, stepped}
use Rattle.memory_disk.proofs.crash.+left_by_crash.Goals as goal

pub returns-in-SyncFolder : goal.returns-in-SyncFolder
returns-in-SyncFolder t c = record {
  may = if_ok (λ (left : Vec DiskCall Global). KeepsWhole c.args.calls.now (seen_after left.items)) (λ (left : Vec DiskCall Global). MayLeave c.args.calls.now (seen_after left.items)) c.left_by_sync.result
      (λ left keeps. may_tear c.args.calls.now (seen_after left.items) keeps) c.left_by_sync.ensures.kept;
}

pub returns-in_ok-take_step-in_default-last : goal.returns-in_ok-take_step-in_default-last
returns-in_ok-take_step-in_default-last t c = record {
  may = stepped c.args.calls.now c.last-item.result (seen_after c.in_ok-left-in_default-last.left.items) (seen_after c.take_step.new.left.items) c.in-len1-up.len_at_least c.last-item.is
      c.in_default-last.not-SyncFolder c.in_default-last.not-SyncInPlace (subst (λ (l : List DiskCall). MayLeave l (seen_after c.in_ok-left-in_default-last.left.items)) (rest_is c.args.calls.now) c.in_ok-left-in_default-last.ensures.may) c.in_ok-take_step-in_default-last.ensures.step;
}
