use Rattle.std.proofs.Common.{◌≡◌, ◌∙◌, IfSome, ap, subst, sym}
use Rattle.byte_io.specs.Laws.OfBytes.{slice_is_bytes}
use Rattle.files_in_place.specs.declared.phase.Phase.TheVariants.{Staging}
use Rattle.files_in_place.specs.Staged.{Set}
use Rattle.folders.specs.Placed.{AreWritten, KeepsOld}
use Rattle.folders.proofs.PlacedLaws.{staging_by, begun_by}
use Rattle.folders.proofs.SinceLaws.{begun_free, fails_on, has_risen, keeps_after, since_any}
use Rattle.folders.proofs.disk_folder.DiskFolderFolder.begin.Given as given
use Rattle.folders.proofs.disk_folder.DiskFolderFolder.begin.Goals as goal

keeps : (g : given.Over) (c : goal.After-begin-in-Ok g) → g.D.Disk.meaning.keeps_promises → IfSome g.O.Origin.origin (λ start. KeepsOld g.D.Disk.meaning start c.begin.new.self)
keeps g c promised =
    let m = g.D.Disk.meaning in
    since_any g.O.Origin.origin (λ start. KeepsOld m start c.self.inside.set) (λ start. KeepsOld m start c.begin.new.self)
    (λ start. keeps_after m start c.self.inside.set c.begin.new.self (λ other. (c.begin.ensures.closed other).1) (c.begin.ensures.any_moment promised)
    (λ staging. begun_free c.args.name.now (m.seen c.self.inside.set.disk) (m.seen c.begin.new.self.disk) c.begin.ensures.others)) (c.self.invariant.2 promised)

keeps-in-Err : (g : given.Over) (c : goal.After-fail g) → g.D.Disk.meaning.keeps_promises → IfSome g.O.Origin.origin (λ start. KeepsOld g.D.Disk.meaning start c.begin.new.self)
keeps-in-Err g c promised =
    let m = g.D.Disk.meaning in
    since_any g.O.Origin.origin (λ start. KeepsOld m start c.self.inside.set) (λ start. KeepsOld m start c.begin.new.self)
    (λ start. keeps_after m start c.self.inside.set c.begin.new.self (λ other. (c.begin.ensures.closed other).1) (c.begin.ensures.any_moment promised)
    (λ staging. begun_free c.args.name.now (m.seen c.self.inside.set.disk) (m.seen c.begin.new.self.disk) c.begin.ensures.others)) (c.self.invariant.2 promised)

pub invariant_of-self : goal.invariant_of-self
invariant_of-self g c =
    let m = g.D.Disk.meaning in (
      λ promised staging.
          let old = m.seen c.self.inside.set.disk in
          let phase : c.self.inside.set.phase ≡ Staging = staging_by c.self.inside.set.phase c.begin.result c.in-Ok.field-0 c.in-Ok.is c.begin.ensures.closed in
          begun_by c.self.inside.written c.self.inside.set.names c.self.inside.set.current old (m.seen c.begin.new.self.disk) c.args.name.now c.begin-in-Ok.new.self c.begin.new.self.names c.begin.new.self.current
          c.self.inside.set.phase c.begin.result c.in-Ok.field-0 c.in-Ok.is phase c.begin.ensures.bad_name c.begin.ensures.same_name
          (c.self.invariant.0 promised phase) (slice_is_bytes c.args.name.now c.type_inv.name) c.begin.ensures.others (c.in-Ok.ensures.empty promised) c.begin-in-Ok.ensures.value c.in-Ok.ensures.begun c.in-Ok.ensures.current,
      λ _. c.in-Ok.ensures.staging,
      keeps g c,
      fails_on g.O.Origin.origin m.faults c.self.inside.set.disk c.begin.new.self.disk c.begin.ensures.cause.later c.self.invariant.3,
    )

pub invariant_of-self-in-Err : goal.invariant_of-self-in-Err
invariant_of-self-in-Err g c =
    let m = g.D.Disk.meaning in (
      λ promised staging.
          let same : c.begin.new.self ≡ c.self.inside.set = c.in-Err.ensures.unchanged staging in
          subst (λ (s : Set g.row.D.Denot). AreWritten c.self.inside.written s.names s.current (m.seen s.disk)) (sym same) (c.self.invariant.0 promised (ap (λ (s : Set g.row.D.Denot). s.phase) (sym same) ∙ staging)),
      λ none. absurd (has_risen c.self.inside.failures c.fail.new.failures c.fail.ensures.counted none),
      keeps-in-Err g c,
      fails_on g.O.Origin.origin m.faults c.self.inside.set.disk c.begin.new.self.disk c.begin.ensures.cause.later c.self.invariant.3,
    )
