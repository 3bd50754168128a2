use Rattle.std.proofs.Common.{◌≡◌, ◌≢◌, ◌∙◌, sym, subst}
use Rattle.files_in_place.specs.Disk.{LeavesOnly}
use Rattle.files_in_place.specs.Recovery.{HasOldFiles}
use Rattle.files_in_place.proofs.Ending.{without_free}
use Rattle.files_in_place.specs.declared.phase.Phase.TheVariants.{Staging, Ended}
use Rattle.folders.specs.Placed.{KeepsOld, NewFiles}
use Rattle.folders.proofs.PlacedLaws.{written_none}
use Rattle.folders.proofs.SinceLaws.{fails_on, has_risen, keeps_removed, since_any}
use Rattle.folders.proofs.disk_folder.DiskFolder.abandon.Goals as goal

pub invariant_of-self-in-Err : goal.invariant_of-self-in-Err
invariant_of-self-in-Err g c =
    let m = g.D.Disk.meaning in (
      λ promised staging. let clash : Staging ≡ Ended = sym staging ∙ c.in-Err.ensures.ended in absurd cc,
      λ none. absurd (has_risen c.self.inside.failures c.count.new.self c.count.ensures.value none),
      λ promised. since_any g.O.Origin.origin (λ start. KeepsOld m start c.self.inside.set) (λ start. KeepsOld m start c.abandon.new.self)
          (λ start. keeps_removed m start c.self.inside.set c.abandon.new.self (λ ended. (c.abandon.ensures.closed ended).1) (c.abandon.ensures.any_moment promised) (λ goes still. absurd (still c.in-Err.ensures.ended)))
          (c.self.invariant.2 promised),
      fails_on g.O.Origin.origin m.faults c.self.inside.set.disk c.abandon.new.self.disk c.abandon.ensures.cause.later c.self.invariant.3,
    )

pub invariant_of-self : goal.invariant_of-self
invariant_of-self g c =
    let m = g.D.Disk.meaning in (
      λ promised staging. written_none c.empty.result c.abandon.new.self.names c.abandon.new.self.current (m.seen c.abandon.new.self.disk) c.empty.ensures.value c.in-Ok.ensures.empty.0 c.in-Ok.ensures.empty.1,
      λ none. c.in-Ok.ensures.staging,
      λ promised. since_any g.O.Origin.origin (λ start. KeepsOld m start c.self.inside.set) (λ start. KeepsOld m start c.abandon.new.self)
          (λ start. keeps_removed m start c.self.inside.set c.abandon.new.self (λ ended. (c.abandon.ensures.closed ended).1) (c.abandon.ensures.any_moment promised)
          (λ goes still n free. c.in-Ok.ensures.done promised n ∙ without_free (m.seen c.self.inside.set.disk) n free))
          (c.self.invariant.2 promised),
      fails_on g.O.Origin.origin m.faults c.self.inside.set.disk c.abandon.new.self.disk c.abandon.ensures.cause.later c.self.invariant.3,
    )

pub returns-in-Err-clause-any_moment : goal.returns-in-Err-clause-any_moment
returns-in-Err-clause-any_moment g c promised going =
    let m = g.D.Disk.meaning in
    subst (λ (f : NewFiles g.row.D.Denot). f.set.phase ≢ Ended → LeavesOnly m f.set.disk c.abandon.new.self.disk (HasOldFiles (m.seen f.set.disk))) c.self.view_is
    (c.abandon.ensures.any_moment promised) going
