use Rattle.files_in_place.specs.Recovery.{LosesReserved, StillRecovers}
use Rattle.files_in_place.proofs.Runs.{and_then, steps_where}
use Rattle.files_in_place.proofs.Meaning.{still_step, lost_still}
use Rattle.files_in_place.proofs.recovery.recover_listed.Goals as goal

pub returns-in_err-clean-clause-steps : goal.returns-in_err-clean-clause-steps
returns-in_err-clean-clause-steps g c promised =
    let m = g.D.Disk.meaning in
    let can = c.in_ok-finish_listed.ensures.can promised in
    let cleaned = steps_where m LosesReserved StillRecovers _ _ c.clean.ensures.steps (λ d was f loses. lost_still d f (can.always d was) loses) in
    and_then m StillRecovers still_step _ _ _ (c.finish_listed.ensures.steps promised) cleaned

pub returns-clause-steps : goal.returns-clause-steps
returns-clause-steps g c promised =
    let m = g.D.Disk.meaning in
    let can = c.in_ok-finish_listed.ensures.can promised in
    let cleaned = steps_where m LosesReserved StillRecovers _ _ c.clean.ensures.steps (λ d was f loses. lost_still d f (can.always d was) loses) in
    and_then m StillRecovers still_step _ _ _ (c.finish_listed.ensures.steps promised) cleaned
