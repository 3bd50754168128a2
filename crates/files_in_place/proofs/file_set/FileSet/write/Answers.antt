use Rattle.std.proofs.Common.{◌≡◌, ◌≢◌, ◌++◌, Some, rules, subst, sym, ◌∙◌, ap, option_map}
use Rattle.files_in_place.specs.declared.phase.Phase.TheVariants.{Staging}
use Rattle.files_in_place.specs.Folder.{Name}
use Rattle.files_in_place.specs.Disk.{LeavesOnly}
use Rattle.files_in_place.specs.Recovery.{HasOldFiles}
use Rattle.files_in_place.specs.Staged.{Set}
use Rattle.files_in_place.proofs.Runs.{started}
use Rattle.files_in_place.proofs.Uncommitted.{run_written, some_inj, uncommitted_old}
use Rattle.files_in_place.proofs.Sets.{in_staging, in_failed, staged_written}
use Rattle.files_in_place.proofs.file_set.FileSet.write.Goals as goal

pub append-requires : goal.append-requires
append-requires g c = record {
  new = λ promised.
      let phase : c.self.inside.phase ≡ Staging = search rules in
      let staged = (c.self.invariant promised).staged phase in
      let is : c.self.inside.current ≡ Some c.as_slice.result.now = search rules in
      staged.fresh c.as_slice.result.now is;
}

pub invariant_of-self : goal.invariant_of-self
invariant_of-self g c promised =
    let m = g.D.Disk.meaning in
    let phase : c.self.inside.phase ≡ Staging = search rules in
    let staged = (c.self.invariant promised).staged phase in
    let is : c.self.inside.current ≡ Some c.as_slice.result.now = search rules in
    let run = run_written m _ _ _ _ _ staged is c.append.ensures.changes in
    in_failed m c.self.inside.names.items c.self.inside.current c.append.new.self run.left

pub invariant_of-self-2 : goal.invariant_of-self-2
invariant_of-self-2 g c promised =
    let m = g.D.Disk.meaning in
    let phase : c.self.inside.phase ≡ Staging = search rules in
    let staged = (c.self.invariant promised).staged phase in
    let is : c.self.inside.current ≡ Some c.as_slice.result.now = search rules in
    let run = run_written m _ _ _ _ _ staged is c.append.ensures.changes in
    in_staging m _ _ _
    (staged_written m c.self.inside.names.items c.self.inside.current c.self.inside.disk c.append.new.self c.as_slice.result.now c.args.bytes.now staged
    is c.append.ensures.changes.others (c.in_ok-append.ensures.done promised) c.append.ensures.changes.whole c.in_ok-append.ensures.new run.left.uncommitted)

pub returns-in_err-append-clause-any_moment : goal.returns-in_err-append-clause-any_moment
returns-in_err-append-clause-any_moment g c promised staging =
    let m = g.D.Disk.meaning in
    let phase : c.self.inside.phase ≡ Staging = search rules in
    let staged = (c.self.invariant promised).staged phase in
    let is : c.self.inside.current ≡ Some c.as_slice.result.now = search rules in
    let run = run_written m _ _ _ _ _ staged is c.append.ensures.changes in
    subst (λ (s : Set g.row.D.Denot). LeavesOnly m s.disk c.append.new.self (HasOldFiles (m.seen s.disk))) c.self.view_is
    run.moments

pub returns-in_err-append-clause-others : goal.returns-in_err-append-clause-others
returns-in_err-append-clause-others g c =
    let m = g.D.Disk.meaning in
    let is : c.self.inside.current ≡ Some c.as_slice.result.now = search rules in
    let here : (n : Name) → c.self.inside.current ≢ Some n → m.seen c.append.new.self n ≡ m.seen c.self.inside.disk n = λ n other. c.append.ensures.changes.others n (λ same. other (is ∙ ap (λ (name : Name). Some name) (sym same))) in
    subst (λ (s : Set g.row.D.Denot). (n : Name) → s.current ≢ Some n → m.seen c.append.new.self n ≡ m.seen s.disk n) c.self.view_is here

pub returns-clause-any_moment : goal.returns-clause-any_moment
returns-clause-any_moment g c promised staging =
    let m = g.D.Disk.meaning in
    let phase : c.self.inside.phase ≡ Staging = search rules in
    let staged = (c.self.invariant promised).staged phase in
    let is : c.self.inside.current ≡ Some c.as_slice.result.now = search rules in
    let run = run_written m _ _ _ _ _ staged is c.append.ensures.changes in
    subst (λ (s : Set g.row.D.Denot). LeavesOnly m s.disk c.append.new.self (HasOldFiles (m.seen s.disk))) c.self.view_is
    run.moments

pub returns-clause-others : goal.returns-clause-others
returns-clause-others g c =
    let m = g.D.Disk.meaning in
    let is : c.self.inside.current ≡ Some c.as_slice.result.now = search rules in
    let here : (n : Name) → c.self.inside.current ≢ Some n → m.seen c.append.new.self n ≡ m.seen c.self.inside.disk n = λ n other. c.append.ensures.changes.others n (λ same. other (is ∙ ap (λ (name : Name). Some name) (sym same))) in
    subst (λ (s : Set g.row.D.Denot). (n : Name) → s.current ≢ Some n → m.seen c.append.new.self n ≡ m.seen s.disk n) c.self.view_is here

pub returns-clause-written : goal.returns-clause-written
returns-clause-written g c promised =
    let m = g.D.Disk.meaning in
    let is : c.self.inside.current ≡ Some c.as_slice.result.now = search rules in
    let here : (name : Name) → c.self.inside.current ≡ Some name → m.seen c.append.new.self name ≡ option_map (λ content. content ++ c.args.bytes.now) (m.seen c.self.inside.disk name) =
    λ name same. subst (λ (k : Name). m.seen c.append.new.self k ≡ option_map (λ content. content ++ c.args.bytes.now) (m.seen c.self.inside.disk k)) (some_inj c.as_slice.result.now name (sym is ∙ same)) (c.in_ok-append.ensures.done promised) in
    subst (λ (s : Set g.row.D.Denot). (name : Name) → s.current ≡ Some name → m.seen c.append.new.self name ≡ option_map (λ content. content ++ c.args.bytes.now) (m.seen s.disk name)) c.self.view_is here

pub returns-in_default-clause-any_moment : goal.returns-in_default-clause-any_moment
returns-in_default-clause-any_moment g c promised staging =
    let m = g.D.Disk.meaning in
    let phase : c.self.inside.phase ≡ Staging = ap (λ (s : Set g.row.D.Denot). s.phase) c.self.view_is ∙ staging in
    let un = ((c.self.invariant promised).staged phase).uncommitted in
    subst (λ (s : Set g.row.D.Denot). LeavesOnly m s.disk s.disk (HasOldFiles (m.seen s.disk))) c.self.view_is
    (started m c.self.inside.disk (HasOldFiles (m.seen c.self.inside.disk)) (uncommitted_old (m.seen c.self.inside.disk) (m.may_leave c.self.inside.disk) un))
