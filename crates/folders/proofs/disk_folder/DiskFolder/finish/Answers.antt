use Rattle.std.proofs.Common.{◌≡◌, ◌≤◌, List, inl, ap, ◌∙◌, sym, subst, IfSome}
use Rattle.files_in_place.specs.Disk.{LeavesOnly}
use Rattle.files_in_place.specs.Folder.{Name}
use Rattle.files_in_place.specs.Recovery.{HasOldFiles}
use Rattle.files_in_place.specs.Staged.{HasBeenReady, SameUnstaged, Set}
use Rattle.files_in_place.specs.declared.phase.Phase.TheVariants.{Staging, Ended}
use Rattle.folders.specs.declared.finish_fault.FinishFault.TheVariants as finish
use Rattle.folders.specs.Files.{files_in}
use Rattle.folders.specs.Placed.{names_of, AreUnreserved, AreTemporary, NewFiles, IsPlaced, IsOldOrPlaced, KeepsOld}
use Rattle.folders.proofs.PlacedLaws.{staging_by, placed_by, leaves_placed, told_free, told_names, told_there}
use Rattle.folders.proofs.SinceLaws.{going, has_ended, kept_since, placed_from_start, ready_since, placed_since, since_any, undone_leaves}
use Rattle.folders.proofs.disk_folder.DiskFolder.finish.Given as given
use Rattle.folders.proofs.disk_folder.DiskFolder.finish.Goals as goal

-- ---- where the files did not all take their places

undone_placed : (g : given.Over) (c : goal.After-drop-self-inside-in-Err g) → g.D.Disk.meaning.keeps_promises → c.self.inside.set.phase ≡ Staging
    → LeavesOnly g.D.Disk.meaning c.self.inside.set.disk c.into_disk.result (IsOldOrPlaced c.self.inside.written (g.D.Disk.meaning.seen c.self.inside.set.disk))
undone_placed g c promised phase =
    let m = g.D.Disk.meaning in
    undone_leaves m c.self.inside.set.disk c.finish.new.self c.undo-why.new.set c.into_disk.result (IsOldOrPlaced c.self.inside.written (m.seen c.self.inside.set.disk)) c.into_disk.ensures.disk
    (leaves_placed m c.self.inside.set.disk c.finish.new.self.disk c.self.inside.written c.self.inside.set.names c.self.inside.set.current (m.seen c.self.inside.set.disk) (c.self.invariant.0 promised phase) (c.finish.ensures.any_moment promised phase))
    (λ left has. inl has) (λ goes. (c.in-Err.ensures.undone promised phase goes).same) c.undo-why.ensures.kept (c.undo-why.ensures.any_moment promised)

pub returns-in-Err-clause-there : goal.returns-in-Err-clause-there
returns-in-Err-clause-there g c promised is =
    let m = g.D.Disk.meaning in
    let phase : c.self.inside.set.phase ≡ Staging = ap (λ (f : NewFiles g.row.D.Denot). f.set.phase) c.self.view_is ∙ is in
    subst (λ (f : NewFiles g.row.D.Denot). AreTemporary (files_in f.written) (m.seen f.set.disk)) c.self.view_is
    (told_there c.self.inside.written c.self.inside.set.names c.self.inside.set.current (m.seen c.self.inside.set.disk) (c.self.invariant.0 promised phase))

pub returns-in-Err-clause-free : goal.returns-in-Err-clause-free
returns-in-Err-clause-free g c promised is =
    let phase : c.self.inside.set.phase ≡ Staging = ap (λ (f : NewFiles g.row.D.Denot). f.set.phase) c.self.view_is ∙ is in
    subst (λ (f : NewFiles g.row.D.Denot). AreUnreserved (files_in f.written)) c.self.view_is
    (told_free c.self.inside.written c.self.inside.set.names c.self.inside.set.current (g.D.Disk.meaning.seen c.self.inside.set.disk) (c.self.invariant.0 promised phase))

pub returns-in-Err-clause-any_moment : goal.returns-in-Err-clause-any_moment
returns-in-Err-clause-any_moment g c promised is =
    let m = g.D.Disk.meaning in
    let phase : c.self.inside.set.phase ≡ Staging = ap (λ (f : NewFiles g.row.D.Denot). f.set.phase) c.self.view_is ∙ is in
    subst (λ (f : NewFiles g.row.D.Denot). LeavesOnly m f.set.disk c.into_disk.result (IsOldOrPlaced f.written (m.seen f.set.disk))) c.self.view_is (undone_placed g c promised phase)

pub returns-in-Err-clause-others : goal.returns-in-Err-clause-others
returns-in-Err-clause-others g c promised is =
    let m = g.D.Disk.meaning in
    let phase : c.self.inside.set.phase ≡ Staging = ap (λ (f : NewFiles g.row.D.Denot). f.set.phase) c.self.view_is ∙ is in
    subst (λ (f : NewFiles g.row.D.Denot). LeavesOnly m f.set.disk c.into_disk.result (SameUnstaged f.set.names (m.seen f.set.disk))) c.self.view_is
    (undone_leaves m c.self.inside.set.disk c.finish.new.self c.undo-why.new.set c.into_disk.result (SameUnstaged c.self.inside.set.names (m.seen c.self.inside.set.disk)) c.into_disk.ensures.disk
    (c.finish.ensures.others promised phase) (λ left has n free _. has.same n free) (λ goes. (c.in-Err.ensures.undone promised phase goes).same) c.undo-why.ensures.kept (c.undo-why.ensures.any_moment promised))

pub returns-in-Err-clause-since : goal.returns-in-Err-clause-since
returns-in-Err-clause-since g c promised is =
    let m = g.D.Disk.meaning in
    let phase : c.self.inside.set.phase ≡ Staging = ap (λ (f : NewFiles g.row.D.Denot). f.set.phase) c.self.view_is ∙ is in
    subst (λ (f : NewFiles g.row.D.Denot). IfSome g.O.Origin.origin (λ start. LeavesOnly m start c.into_disk.result (IsOldOrPlaced f.written (m.seen start)))) c.self.view_is
    (since_any g.O.Origin.origin (λ start. KeepsOld m start c.self.inside.set) (λ start. LeavesOnly m start c.into_disk.result (IsOldOrPlaced c.self.inside.written (m.seen start)))
    (λ start. placed_since m start c.self.inside.set c.into_disk.result c.self.inside.written phase (undone_placed g c promised phase)) (c.self.invariant.2 promised))

pub returns-in-Err-clause-undone : goal.returns-in-Err-clause-undone
returns-in-Err-clause-undone g c promised is other =
    let m = g.D.Disk.meaning in
    let phase : c.self.inside.set.phase ≡ Staging = ap (λ (f : NewFiles g.row.D.Denot). f.set.phase) c.self.view_is ∙ is in
    let run = c.in-Err.ensures.undone promised phase (going c.finish.new.self.phase c.undo-why.result c.undo-why.ensures.ended other) in
    let leaves : LeavesOnly m c.self.inside.set.disk c.into_disk.result (HasOldFiles (m.seen c.self.inside.set.disk)) =
    undone_leaves m c.self.inside.set.disk c.finish.new.self c.undo-why.new.set c.into_disk.result (HasOldFiles (m.seen c.self.inside.set.disk)) c.into_disk.ensures.disk run.moments
    (λ left has. has) (λ _. run.same) c.undo-why.ensures.kept (c.undo-why.ensures.any_moment promised) in
    since_any g.O.Origin.origin (λ start. KeepsOld m start c.self.inside.set) (λ start. LeavesOnly m start c.into_disk.result (HasOldFiles (m.seen start)))
    (λ start. kept_since m start c.self.inside.set c.into_disk.result phase leaves) (c.self.invariant.2 promised)

pub returns-in-Err-clause-begun : goal.returns-in-Err-clause-begun
returns-in-Err-clause-begun g c promised is told =
    let m = g.D.Disk.meaning in
    let phase : c.self.inside.set.phase ≡ Staging = ap (λ (f : NewFiles g.row.D.Denot). f.set.phase) c.self.view_is ∙ is in
    let said : c.undo-why.result ≡ finish.Unfinished = cc in
    let ended : c.finish.new.self.phase ≡ Ended = has_ended c.finish.new.self.phase c.in-Err.fault c.undo-why.result c.undo-why.ensures.memory c.undo-why.ensures.other (c.in-Err.ensures.open phase) said in
    let now : c.into_disk.result ≡ c.finish.new.self.disk = c.into_disk.ensures.disk ∙ ap (λ (s : Set g.row.D.Denot). s.disk) (c.undo-why.ensures.kept ended) in
    let listed : c.self.inside.set.names ≡ names_of (files_in c.self.inside.written) = told_names c.self.inside.written c.self.inside.set.names c.self.inside.set.current (m.seen c.self.inside.set.disk) (c.self.invariant.0 promised phase) in
    let was : HasBeenReady m (names_of (files_in c.self.inside.written)) (m.moment c.self.inside.set.disk) (m.seen c.self.inside.set.disk) c.into_disk.result =
    subst (λ (d : g.row.D.Denot). HasBeenReady m (names_of (files_in c.self.inside.written)) (m.moment c.self.inside.set.disk) (m.seen c.self.inside.set.disk) d) (sym now)
    (subst (λ (l : List Name). HasBeenReady m l (m.moment c.self.inside.set.disk) (m.seen c.self.inside.set.disk) c.finish.new.self.disk) listed (c.in-Err.ensures.begun promised phase ended)) in
    subst (λ (f : NewFiles g.row.D.Denot). IfSome g.O.Origin.origin (λ start. HasBeenReady m (names_of (files_in f.written)) (m.moment start) (m.seen start) c.into_disk.result)) c.self.view_is
    (since_any g.O.Origin.origin (λ start. KeepsOld m start c.self.inside.set) (λ start. HasBeenReady m (names_of (files_in c.self.inside.written)) (m.moment start) (m.seen start) c.into_disk.result)
    (λ start. ready_since m (names_of (files_in c.self.inside.written)) start c.self.inside.set c.into_disk.result phase was) (c.self.invariant.2 promised))

pub returns-in-Err-clause-counted : goal.returns-in-Err-clause-counted
returns-in-Err-clause-counted g c =
    let m = g.D.Disk.meaning in
    subst (λ (f : NewFiles g.row.D.Denot). IfSome g.O.Origin.origin (λ start. m.faults start ≤ m.faults f.set.disk)) c.self.view_is c.self.invariant.3

-- ---- where they did

all_placed : (g : given.Over) (c : goal.After-drop-self-inside-3 g) → g.D.Disk.meaning.keeps_promises → c.self.inside.set.phase ≡ Staging
    → LeavesOnly g.D.Disk.meaning c.self.inside.set.disk c.into_disk-2.result (IsOldOrPlaced c.self.inside.written (g.D.Disk.meaning.seen c.self.inside.set.disk))
all_placed g c promised phase =
    let m = g.D.Disk.meaning in
    subst (λ (d : g.row.D.Denot). LeavesOnly m c.self.inside.set.disk d (IsOldOrPlaced c.self.inside.written (m.seen c.self.inside.set.disk))) (sym c.into_disk-2.ensures.disk)
    (leaves_placed m c.self.inside.set.disk c.finish.new.self.disk c.self.inside.written c.self.inside.set.names c.self.inside.set.current (m.seen c.self.inside.set.disk) (c.self.invariant.0 promised phase) (c.finish.ensures.any_moment promised phase))

is_placed : (g : given.Over) (c : goal.After-drop-self-inside-3 g) → g.D.Disk.meaning.keeps_promises → IsPlaced c.self.inside.written (g.D.Disk.meaning.seen c.self.inside.set.disk) (g.D.Disk.meaning.seen c.into_disk-2.result)
is_placed g c promised =
    let m = g.D.Disk.meaning in
    let phase : c.self.inside.set.phase ≡ Staging = staging_by c.self.inside.set.phase c.finish.result c.in_default.field-0 c.in_default.is c.finish.ensures.closed in
    subst (λ (d : g.row.D.Denot). IsPlaced c.self.inside.written (m.seen c.self.inside.set.disk) (m.seen d)) (sym c.into_disk-2.ensures.disk)
    (placed_by c.self.inside.written c.self.inside.set.names c.self.inside.set.current (m.seen c.self.inside.set.disk) (m.seen c.finish.new.self.disk) (c.self.invariant.0 promised phase) (c.in_default.ensures.done promised))

pub returns-clause-placed : goal.returns-clause-placed
returns-clause-placed g c promised =
    let m = g.D.Disk.meaning in
    subst (λ (f : NewFiles g.row.D.Denot). IsPlaced f.written (m.seen f.set.disk) (m.seen c.into_disk-2.result)) c.self.view_is (is_placed g c promised)

pub returns-clause-placed_since : goal.returns-clause-placed_since
returns-clause-placed_since g c promised =
    let m = g.D.Disk.meaning in
    let phase : c.self.inside.set.phase ≡ Staging = staging_by c.self.inside.set.phase c.finish.result c.in_default.field-0 c.in_default.is c.finish.ensures.closed in
    subst (λ (f : NewFiles g.row.D.Denot). IfSome g.O.Origin.origin (λ start. IsPlaced f.written (m.seen start) (m.seen c.into_disk-2.result))) c.self.view_is
    (since_any g.O.Origin.origin (λ start. KeepsOld m start c.self.inside.set) (λ start. IsPlaced c.self.inside.written (m.seen start) (m.seen c.into_disk-2.result))
    (λ start. placed_from_start m c.self.inside.written start c.self.inside.set c.into_disk-2.result phase (is_placed g c promised)) (c.self.invariant.2 promised))

pub returns-clause-there : goal.returns-clause-there
returns-clause-there g c promised is =
    let m = g.D.Disk.meaning in
    let phase : c.self.inside.set.phase ≡ Staging = ap (λ (f : NewFiles g.row.D.Denot). f.set.phase) c.self.view_is ∙ is in
    subst (λ (f : NewFiles g.row.D.Denot). AreTemporary (files_in f.written) (m.seen f.set.disk)) c.self.view_is
    (told_there c.self.inside.written c.self.inside.set.names c.self.inside.set.current (m.seen c.self.inside.set.disk) (c.self.invariant.0 promised phase))

pub returns-clause-free : goal.returns-clause-free
returns-clause-free g c promised is =
    let phase : c.self.inside.set.phase ≡ Staging = ap (λ (f : NewFiles g.row.D.Denot). f.set.phase) c.self.view_is ∙ is in
    subst (λ (f : NewFiles g.row.D.Denot). AreUnreserved (files_in f.written)) c.self.view_is
    (told_free c.self.inside.written c.self.inside.set.names c.self.inside.set.current (g.D.Disk.meaning.seen c.self.inside.set.disk) (c.self.invariant.0 promised phase))

pub returns-clause-any_moment : goal.returns-clause-any_moment
returns-clause-any_moment g c promised is =
    let m = g.D.Disk.meaning in
    let phase : c.self.inside.set.phase ≡ Staging = ap (λ (f : NewFiles g.row.D.Denot). f.set.phase) c.self.view_is ∙ is in
    subst (λ (f : NewFiles g.row.D.Denot). LeavesOnly m f.set.disk c.into_disk-2.result (IsOldOrPlaced f.written (m.seen f.set.disk))) c.self.view_is (all_placed g c promised phase)

pub returns-clause-since : goal.returns-clause-since
returns-clause-since g c promised is =
    let m = g.D.Disk.meaning in
    let phase : c.self.inside.set.phase ≡ Staging = ap (λ (f : NewFiles g.row.D.Denot). f.set.phase) c.self.view_is ∙ is in
    subst (λ (f : NewFiles g.row.D.Denot). IfSome g.O.Origin.origin (λ start. LeavesOnly m start c.into_disk-2.result (IsOldOrPlaced f.written (m.seen start)))) c.self.view_is
    (since_any g.O.Origin.origin (λ start. KeepsOld m start c.self.inside.set) (λ start. LeavesOnly m start c.into_disk-2.result (IsOldOrPlaced c.self.inside.written (m.seen start)))
    (λ start. placed_since m start c.self.inside.set c.into_disk-2.result c.self.inside.written phase (all_placed g c promised phase)) (c.self.invariant.2 promised))

pub returns-clause-counted : goal.returns-clause-counted
returns-clause-counted g c =
    let m = g.D.Disk.meaning in
    subst (λ (f : NewFiles g.row.D.Denot). IfSome g.O.Origin.origin (λ start. m.faults start ≤ m.faults f.set.disk)) c.self.view_is c.self.invariant.3
