use Rattle.std.proofs.Common.{◌∙◌, ap, inr}
use Rattle.live_program.proofs.FailureLaws.{err_failed}
use Rattle.live_program.proofs.LifeLaws.{log_fits, placed_as}
use Rattle.live_program.proofs.life.begin_found.Goals as goal

pub start_day-requires-clause-name : goal.start_day-requires-clause-name
start_day-requires-clause-name g c = rw c.requires.name log_fits

pub returns-in-Ok-clause-others : goal.returns-in-Ok-clause-others
returns-in-Ok-clause-others g c promised n free other =
    c.in-Ok.ensures.others promised n free (λ is. other (is ∙ c.requires.name)) ∙ ap (λ d. g.D.Disk.meaning.seen d n) c.new.ensures.disk

pub returns-in-Ok-clause-any_moment : goal.returns-in-Ok-clause-any_moment
returns-in-Ok-clause-any_moment g c promised =
    placed_as g.D.Disk.meaning c.args.disk c.new.result.disk _ _ _ _ c.new.ensures.disk c.requires.name (c.as_slice.ensures.value ∙ c.requires.log) (c.in-Ok.ensures.any_moment promised)

pub returns-clause-moment_of_fault : goal.returns-clause-moment_of_fault
returns-clause-moment_of_fault g c promised =
    rw c.failed.ensures.disk
    (placed_as g.D.Disk.meaning c.args.disk c.new.result.disk _ _ _ _ c.new.ensures.disk c.requires.name (c.as_slice.ensures.value ∙ c.requires.log) (c.in-Err.ensures.moment_of_fault promised))

pub returns-clause-refused : goal.returns-clause-refused
returns-clause-refused g c = err_failed c.failed.result.ended _ c.failed.ensures.ended

pub returns-clause-fault : goal.returns-clause-fault
returns-clause-fault g c = (c.unstarted.result, inr (c.in-Err.stopped.fault, c.unstarted.ensures.value), c.failed.ensures.ended)

pub returns-in-Ok-clause-said : goal.returns-in-Ok-clause-said
returns-in-Ok-clause-said g c = rw c.as_slice-in-Ok.ensures.value at c.print_bytes.ensures.front
