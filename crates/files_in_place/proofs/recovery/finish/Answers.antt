use Rattle.std.proofs.Common.{◌≡◌, None, arith, subst}
use Rattle.files_in_place.specs.Folder.{Name, Folder, temporary}
use Rattle.files_in_place.specs.Recovery.{KeepsRecovery}
use Rattle.files_in_place.proofs.Runs.{and_then}
use Rattle.files_in_place.proofs.Meaning.{goes_on_step}
use Rattle.files_in_place.proofs.Each.{each_by, each_next}
use Rattle.files_in_place.proofs.recovery.finish.Goals as goal

pub returns-in-Err-clause-steps : goal.returns-in-Err-clause-steps
returns-in-Err-clause-steps g c promised =
    and_then g.D.Disk.meaning KeepsRecovery goes_on_step _ _ _ (c.loop-name.invariant.steps promised) (c.finish_one.ensures.steps promised)

pub loop-name-preserved : goal.loop-name-preserved
loop-name-preserved g c =
    let m = g.D.Disk.meaning in
    record {
      counted = omega (arith, c.loop-name.invariant.counted);
      done = λ promised.
          let P : Folder → Name → Type 0 = λ f name. f (temporary name) ≡ None in
          let new = m.seen c.finish_one.new.disk in
          each_next (P new) c.args.names.now c.loop-name.name-index c.name-item.result c.loop-name-test.true c.name-item.is
          (each_by (P (m.seen c.loop-name.disk)) (P new) _ (c.in_default.ensures.gone promised) (c.loop-name.invariant.done promised))
          (subst (P new) c.as_slice.ensures.value (c.in_default.ensures.done promised));
      keeps = λ promised. goes_on_step.both _ _ _ (c.loop-name.invariant.keeps promised) (c.in_default.ensures.keeps promised);
      can = λ promised. c.in_default.ensures.can promised;
      whole = λ promised n was. c.in_default.ensures.whole promised n (c.loop-name.invariant.whole promised n was);
      steps = λ promised. and_then m KeepsRecovery goes_on_step _ _ _ (c.loop-name.invariant.steps promised) (c.finish_one.ensures.steps promised);
      later = omega (arith, c.loop-name.invariant.later, c.finish_one.ensures.cause.later);
    }
