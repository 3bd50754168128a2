use Rattle.std.proofs.Common.{◌≡◌, rules, subst}
use Rattle.files_in_place.specs.Folder.{Name, without_reserved}
use Rattle.files_in_place.specs.Disk.{LeavesOnly}
use Rattle.files_in_place.specs.Recovery.{HasOldFiles}
use Rattle.files_in_place.specs.Staged.{Set}
use Rattle.files_in_place.proofs.Runs.{leaves_by}
use Rattle.files_in_place.proofs.Uncommitted.{staged_none, loses_means}
use Rattle.files_in_place.proofs.Sets.{in_staging, in_ended, abandoned_clean}
use Rattle.files_in_place.proofs.file_set.FileSet.abandon.Goals as goal

pub returns-in_err-clean-clause-any_moment : goal.returns-in_err-clean-clause-any_moment
returns-in_err-clean-clause-any_moment g c promised going =
    let m = g.D.Disk.meaning in
    let left = (c.self.invariant promised).left (search rules) in
    subst (λ (s : Set g.row.D.Denot). LeavesOnly m s.disk c.clean.new.disk (HasOldFiles (m.seen s.disk))) c.self.view_is
    (leaves_by m _ _ _ (HasOldFiles (m.seen c.self.inside.disk)) c.clean.ensures.steps.moments
    (loses_means (m.seen c.self.inside.disk) (m.may_leave c.self.inside.disk) left.uncommitted))

pub returns-clause-any_moment : goal.returns-clause-any_moment
returns-clause-any_moment g c promised going =
    let m = g.D.Disk.meaning in
    let left = (c.self.invariant promised).left (search rules) in
    subst (λ (s : Set g.row.D.Denot). LeavesOnly m s.disk c.clean.new.disk (HasOldFiles (m.seen s.disk))) c.self.view_is
    (leaves_by m _ _ _ (HasOldFiles (m.seen c.self.inside.disk)) c.clean.ensures.steps.moments
    (loses_means (m.seen c.self.inside.disk) (m.may_leave c.self.inside.disk) left.uncommitted))

pub returns-clause-done : goal.returns-clause-done
returns-clause-done g c promised =
    let m = g.D.Disk.meaning in
    subst (λ (s : Set g.row.D.Denot). (n : Name) → m.seen c.clean.new.disk n ≡ without_reserved (m.seen s.disk) n) c.self.view_is (c.in_ok-clean.ensures.done promised)

pub invariant_of-self-2 : goal.invariant_of-self-2
invariant_of-self-2 g c promised =
    let m = g.D.Disk.meaning in
    in_staging m _ _ _
    (staged_none m c.new.result.items c.clean.new.disk c.new.ensures.items
    (abandoned_clean (m.seen c.self.inside.disk) (m.seen c.clean.new.disk) (c.in_ok-clean.ensures.done promised)) (c.in_ok-clean.ensures.synced promised ((c.self.invariant promised).left (search rules)).whole))

pub invariant_of-self : goal.invariant_of-self
invariant_of-self g c promised =
    let m = g.D.Disk.meaning in
    in_ended m c.self.inside.names.items c.self.inside.current c.clean.new.disk
