use Rattle.std.proofs.Common.{arith, subst}
use Rattle.files_in_place.proofs.Each.{at_next}
use Rattle.files_in_place.proofs.Runs.{reads_both, reads_none}
use Rattle.files_in_place.proofs.disk.Disk.sync_files.Goals as goal

pub loop-name-init : goal.loop-name-init
loop-name-init g c = record { whole = λ k d lt. absurd (omega arith); only = reads_none g.Self.Disk.meaning _; later = omega arith }

pub loop-name-preserved : goal.loop-name-preserved
loop-name-preserved g c =
    let m = g.Self.Disk.meaning in
    let new = m.is_whole c.sync_file.new.self in
    record {
      whole = at_next new c.args.names.now c.loop-name.name-index c.name-item.result c.loop-name-test.true c.name-item.is
          (λ k d lt. c.sync_file.ensures.only.whole _ (c.loop-name.invariant.whole k d lt))
          (subst new c.as_slice.ensures.value c.in_ok-sync_file.ensures.durable);
      only = reads_both m _ _ _ c.loop-name.invariant.only c.sync_file.ensures.only;
      later = omega (arith, c.loop-name.invariant.later, c.sync_file.ensures.cause.later);
    }

pub returns-in_err-sync_file-clause-only : goal.returns-in_err-sync_file-clause-only
returns-in_err-sync_file-clause-only g c =
    reads_both g.Self.Disk.meaning _ _ _ c.loop-name.invariant.only c.sync_file.ensures.only
