use Rattle.std.proofs.Common.{◌≡◌, true, None, arith, subst}
use Rattle.files_in_place.specs.Folder.{Name, is_reserved}
use Rattle.files_in_place.specs.Recovery.{LosesReserved}
use Rattle.files_in_place.proofs.Runs.{and_then}
use Rattle.files_in_place.proofs.Meaning.{loses_step}
use Rattle.files_in_place.proofs.Each.{each_next}
use Rattle.files_in_place.proofs.Ending.{still_removed}
use Rattle.files_in_place.proofs.clean.remove_reserved.Goals as goal

pub loop-name-preserved : goal.loop-name-preserved
loop-name-preserved g c =
    let m = g.D.Disk.meaning in
    record {
      done = λ promised.
          let P : Name → Type 0 = λ name. is_reserved name ≡ true → m.seen c.remove_if_reserved.new.disk name ≡ None in
          each_next P c.args.names.now c.loop-name.name-index c.name-item.result c.loop-name-test.true c.name-item.is
          (still_removed _ _ _ (c.in_ok-remove_if_reserved.ensures.others promised) (c.loop-name.invariant.done promised))
          (subst P c.as_slice.ensures.value (c.in_ok-remove_if_reserved.ensures.done promised));
      others = λ promised. loses_step.both _ _ _ (c.loop-name.invariant.others promised) (c.in_ok-remove_if_reserved.ensures.others promised);
      whole = λ n was. c.remove_if_reserved.ensures.whole n (c.loop-name.invariant.whole n was);
      steps = and_then m LosesReserved loses_step _ _ _ c.loop-name.invariant.steps c.remove_if_reserved.ensures.steps;
      later = omega (arith, c.loop-name.invariant.later, c.remove_if_reserved.ensures.cause.later);
    }
