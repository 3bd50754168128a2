use Rattle.std.proofs.Common.{◌≡◌, ◌∙◌, ap, Err}
use Rattle.files_in_place.specs.declared.phase.Phase.TheVariants.{Staging}
use Rattle.program_frame.proofs.EndLaws.{ends_given_up, ends_placed, ends_unplaced}
use Rattle.program_frame.proofs.in_place.end_in_place.Goals as goal

pub returns-in-Err-clause-ends : goal.returns-in-Err-clause-ends
returns-in-Err-clause-ends g c = ends_given_up g.D.Disk.meaning (g.J.Job.writes c.args.job.now (g.S.Source.files c.args.source.now)) c.into_disk.result c.give_up-fault.result g.O.Origin.origin c.into_disk.ensures.since

pub returns-in-Ok-default-clause-ends : goal.returns-in-Ok-default-clause-ends
returns-in-Ok-default-clause-ends g c =
    let staging : c.args.folder.set.phase ≡ Staging = c.finish.ensures.staging (rw c.in-Ok.is at c.requires.no_failure) in
    ends_placed g.D.Disk.meaning (g.J.Job.writes c.args.job.now (g.S.Source.files c.args.source.now)) c.finish.result.1 _ c.in-Ok.report c.args.folder.written g.O.Origin.origin (rw c.in-Ok.is at c.requires.done)
    (λ promised. c.finish.ensures.since promised staging) (λ promised. c.finish.ensures.free promised staging) (λ promised. rw c.in-Ok-default.is-0 at (c.finish.ensures.placed_since promised))
    (λ promised. rw c.in-Ok-default.is-0 at (c.finish.ensures.synced promised))

pub returns-in-Err-default-clause-ends : goal.returns-in-Err-default-clause-ends
returns-in-Err-default-clause-ends g c =
    let staging : c.args.folder.set.phase ≡ Staging = c.finish.ensures.staging (rw c.in-Ok.is at c.requires.no_failure) in
    ends_unplaced g.D.Disk.meaning (g.J.Job.writes c.args.job.now (g.S.Source.files c.args.source.now)) c.finish.result.1 _ c.in-Ok.report c.args.folder.written g.O.Origin.origin _ c.in-Err-default.fault c.unplaced.result
    c.from.result c.from.ensures c.unplaced.ensures.value (rw c.in-Ok.is at c.requires.done) (λ promised. c.finish.ensures.since promised staging)
    (λ promised other. (rw c.in-Err-default.is-0 at (c.finish.ensures.undone promised staging)) other) (λ promised is. c.finish.ensures.begun promised staging (c.in-Err-default.is-0 ∙ ap Err is))
    c.finish.ensures.counted (λ is. c.finish.ensures.unwritten staging (c.in-Err-default.is-0 ∙ ap Err is))
