use Rattle.std.proofs.Common.{◌≡◌, ◌∙◌, IfSome, ap, subst, sym}
use Rattle.byte_io.specs.Laws.OfBytes.{slice_is_bytes}
use Rattle.files_in_place.specs.declared.phase.Phase.TheVariants.{Staging}
use Rattle.files_in_place.specs.Staged.{Set}
use Rattle.folders.specs.Placed.{AreWritten, KeepsOld}
use Rattle.folders.proofs.PlacedLaws.{staging_by, written_by}
use Rattle.folders.proofs.SinceLaws.{fails_on, has_risen, keeps_after, since_any, written_free}
use Rattle.folders.proofs.disk_folder.DiskFolderByteSink.write.Given as given
use Rattle.folders.proofs.disk_folder.DiskFolderByteSink.write.Goals as goal

keeps : (g : given.Over) (c : goal.After-append g) → g.D.Disk.meaning.keeps_promises → IfSome g.O.Origin.origin (λ start. KeepsOld g.D.Disk.meaning start c.write.new.self)
keeps g c promised =
    let m = g.D.Disk.meaning in
    since_any g.O.Origin.origin (λ start. KeepsOld m start c.self.inside.set) (λ start. KeepsOld m start c.write.new.self)
    (λ start. keeps_after m start c.self.inside.set c.write.new.self (λ other. (c.write.ensures.closed other).1) (c.write.ensures.any_moment promised)
    (λ staging. written_free c.self.inside.written c.self.inside.set.names c.self.inside.set.current (m.seen c.self.inside.set.disk) (m.seen c.write.new.self.disk) (c.self.invariant.0 promised staging) c.write.ensures.others)) (c.self.invariant.2 promised)

keeps-in-Err : (g : given.Over) (c : goal.After-fail g) → g.D.Disk.meaning.keeps_promises → IfSome g.O.Origin.origin (λ start. KeepsOld g.D.Disk.meaning start c.write.new.self)
keeps-in-Err g c promised =
    let m = g.D.Disk.meaning in
    since_any g.O.Origin.origin (λ start. KeepsOld m start c.self.inside.set) (λ start. KeepsOld m start c.write.new.self)
    (λ start. keeps_after m start c.self.inside.set c.write.new.self (λ other. (c.write.ensures.closed other).1) (c.write.ensures.any_moment promised)
    (λ staging. written_free c.self.inside.written c.self.inside.set.names c.self.inside.set.current (m.seen c.self.inside.set.disk) (m.seen c.write.new.self.disk) (c.self.invariant.0 promised staging) c.write.ensures.others)) (c.self.invariant.2 promised)

pub invariant_of-self : goal.invariant_of-self
invariant_of-self g c =
    let m = g.D.Disk.meaning in (
      λ promised staging.
          let old = m.seen c.self.inside.set.disk in
          let phase : c.self.inside.set.phase ≡ Staging = staging_by c.self.inside.set.phase c.write.result c.in-Ok.field-0 c.in-Ok.is c.write.ensures.closed in
          written_by c.self.inside.written c.self.inside.set.names c.self.inside.set.current old (m.seen c.write.new.self.disk) c.args.bytes.now c.append.new.self c.write.new.self.names c.write.new.self.current c.write.result c.in-Ok.field-0 c.in-Ok.is
          (c.write.ensures.not_begun phase) (c.self.invariant.0 promised phase) (slice_is_bytes c.args.bytes.now c.type_inv.bytes) (c.in-Ok.ensures.written promised) c.write.ensures.others c.append.ensures.value c.write.ensures.names c.write.ensures.current,
      λ _. c.in-Ok.ensures.staging,
      keeps g c,
      fails_on g.O.Origin.origin m.faults c.self.inside.set.disk c.write.new.self.disk c.write.ensures.cause.later c.self.invariant.3,
    )

pub invariant_of-self-in-Err : goal.invariant_of-self-in-Err
invariant_of-self-in-Err g c =
    let m = g.D.Disk.meaning in (
      λ promised staging.
          let same : c.write.new.self ≡ c.self.inside.set = c.in-Err.ensures.unchanged staging in
          subst (λ (s : Set g.row.D.Denot). AreWritten c.self.inside.written s.names s.current (m.seen s.disk)) (sym same) (c.self.invariant.0 promised (ap (λ (s : Set g.row.D.Denot). s.phase) (sym same) ∙ staging)),
      λ none. absurd (has_risen c.self.inside.failures c.fail.new.failures c.fail.ensures.counted none),
      keeps-in-Err g c,
      fails_on g.O.Origin.origin m.faults c.self.inside.set.disk c.write.new.self.disk c.write.ensures.cause.later c.self.invariant.3,
    )
