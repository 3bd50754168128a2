use Rattle.std.proofs.Common.{◌≡◌, ◌++◌, ◌∷◌, List, [], Some, rules, subst, sym, ◌∙◌, ap}
use Rattle.files_in_place.specs.declared.phase.Phase.TheVariants.{Staging}
use Rattle.files_in_place.specs.Folder.{Name, SameBut, temporary}
use Rattle.files_in_place.specs.Disk.{LeavesOnly}
use Rattle.files_in_place.specs.Recovery.{HasOldFiles}
use Rattle.files_in_place.specs.Staged.{Set, AreStaged, HoldsInPhase, is_staged}
use Rattle.files_in_place.proofs.Runs.{started}
use Rattle.files_in_place.proofs.Uncommitted.{uncommitted_old}
use Rattle.files_in_place.proofs.Sets.{in_staging, in_failed, staged_more}
use Rattle.files_in_place.proofs.file_set.FileSet.begin.Goals as goal

pub begin_file-requires-clause-staged : goal.begin_file-requires-clause-staged
begin_file-requires-clause-staged g c promised =
    let m = g.D.Disk.meaning in
    let phase : c.self.inside.phase ≡ Staging = search rules in
    let names : c.deref.result.now ≡ c.self.inside.names.items = c.deref.ensures.value ∙ c.new_name.ensures.names in
    let staged = (c.self.invariant promised).staged phase in
    subst (λ (l : List Name). AreStaged m l c.self.inside.current c.self.inside.disk) (sym names) staged

pub begin_file-requires-clause-free : goal.begin_file-requires-clause-free
begin_file-requires-clause-free g c promised =
    let names : c.deref.result.now ≡ c.self.inside.names.items = c.deref.ensures.value ∙ c.new_name.ensures.names in
    let lies : c.as_slice.result.now ≡ temporary c.args.name.now = c.as_slice.ensures.value ∙ c.in_ok-begun.ensures.lies in
    (c.args.name.now, lies, ap (λ (l : List Name). is_staged l c.args.name.now) names ∙ c.in_ok-begun.ensures.free, c.in_ok-begun.ensures.fits)

pub invariant_of-self : goal.invariant_of-self
invariant_of-self g c promised =
    let m = g.D.Disk.meaning in
    subst (λ (l : List Name). HoldsInPhase m c.self.inside.phase l c.self.inside.current c.self.inside.disk) (sym c.new_name.ensures.names) (c.self.invariant promised)

pub invariant_of-self-in_err-begin_file : goal.invariant_of-self-in_err-begin_file
invariant_of-self-in_err-begin_file g c promised =
    let m = g.D.Disk.meaning in
    in_failed m c.new_name.new.names.items c.self.inside.current c.begin_file.new.disk (c.begin_file.ensures.run promised).left

pub invariant_of-self-2 : goal.invariant_of-self-2
invariant_of-self-2 g c promised =
    let m = g.D.Disk.meaning in
    let phase : c.self.inside.phase ≡ Staging = search rules in
    let names : c.deref.result.now ≡ c.self.inside.names.items = c.deref.ensures.value ∙ c.new_name.ensures.names in
    let staged = (c.self.invariant promised).staged phase in
    let lies : c.as_slice.result.now ≡ temporary c.args.name.now = c.as_slice.ensures.value ∙ c.in_ok-begun.ensures.lies in
    let N = c.begin_file.new.disk in
    let more = staged_more m c.self.inside.names.items c.self.inside.current c.self.inside.disk N c.args.name.now c.as_slice.result.now staged
    lies c.in_ok-begun.ensures.fits c.in_ok-begun.ensures.free c.begin_file.ensures.others (c.in_ok-begin_file.ensures.empty promised) c.begin_file.ensures.whole c.in_ok-begin_file.ensures.new (c.begin_file.ensures.run promised).left.uncommitted in
    let listed : c.push_reserved.new.self.items ≡ c.self.inside.names.items ++ c.args.name.now ∷ [] = c.push_reserved.ensures.items ∙ ap (λ (l : List Name). l ++ c.in_ok-begun.begun.name ∷ []) c.new_name.ensures.names ∙ ap (λ (n : Name). c.self.inside.names.items ++ n ∷ []) c.in_ok-begun.ensures.name in
    let P : List Name → Type 0 = λ l. AreStaged m l (Some c.in_ok-begun.begun.lies) N in
    in_staging m _ _ _ (subst P (sym listed) (subst (λ (name : Name). AreStaged m (c.self.inside.names.items ++ c.args.name.now ∷ []) (Some name) N) c.as_slice.ensures.value more))

pub returns-in_err-begun-clause-any_moment : goal.returns-in_err-begun-clause-any_moment
returns-in_err-begun-clause-any_moment g c promised is =
    let m = g.D.Disk.meaning in
    let phase : c.self.inside.phase ≡ Staging = ap (λ (s : Set g.row.D.Denot). s.phase) c.self.view_is ∙ is in
    let staged = (c.self.invariant promised).staged phase in
    subst (λ (s : Set g.row.D.Denot). LeavesOnly m s.disk c.self.inside.disk (HasOldFiles (m.seen s.disk))) c.self.view_is
    (started m c.self.inside.disk (HasOldFiles (m.seen c.self.inside.disk)) (uncommitted_old (m.seen c.self.inside.disk) (m.may_leave c.self.inside.disk) staged.uncommitted))

pub returns-in_err-begin_file-clause-any_moment : goal.returns-in_err-begin_file-clause-any_moment
returns-in_err-begin_file-clause-any_moment g c promised is =
    let m = g.D.Disk.meaning in
    subst (λ (s : Set g.row.D.Denot). LeavesOnly m s.disk c.begin_file.new.disk (HasOldFiles (m.seen s.disk))) c.self.view_is
    (c.begin_file.ensures.run promised).moments

pub returns-in_err-begin_file-clause-others : goal.returns-in_err-begin_file-clause-others
returns-in_err-begin_file-clause-others g c =
    let m = g.D.Disk.meaning in
    let lies : c.as_slice.result.now ≡ temporary c.args.name.now = c.as_slice.ensures.value ∙ c.in_ok-begun.ensures.lies in
    let made = subst (λ (name : Name). SameBut name (m.seen c.self.inside.disk) (m.seen c.begin_file.new.disk)) lies c.begin_file.ensures.others in
    subst (λ (s : Set g.row.D.Denot). SameBut (temporary c.args.name.now) (m.seen s.disk) (m.seen c.begin_file.new.disk)) c.self.view_is made

pub returns-clause-any_moment : goal.returns-clause-any_moment
returns-clause-any_moment g c promised is =
    let m = g.D.Disk.meaning in
    subst (λ (s : Set g.row.D.Denot). LeavesOnly m s.disk c.begin_file.new.disk (HasOldFiles (m.seen s.disk))) c.self.view_is
    (c.begin_file.ensures.run promised).moments

pub returns-clause-others : goal.returns-clause-others
returns-clause-others g c =
    let m = g.D.Disk.meaning in
    let lies : c.as_slice.result.now ≡ temporary c.args.name.now = c.as_slice.ensures.value ∙ c.in_ok-begun.ensures.lies in
    let made = subst (λ (name : Name). SameBut name (m.seen c.self.inside.disk) (m.seen c.begin_file.new.disk)) lies c.begin_file.ensures.others in
    subst (λ (s : Set g.row.D.Denot). SameBut (temporary c.args.name.now) (m.seen s.disk) (m.seen c.begin_file.new.disk)) c.self.view_is made

pub returns-clause-empty : goal.returns-clause-empty
returns-clause-empty g c promised =
    let lies : c.as_slice.result.now ≡ temporary c.args.name.now = c.as_slice.ensures.value ∙ c.in_ok-begun.ensures.lies in
    subst (λ (m : Name). g.D.Disk.meaning.seen c.begin_file.new.disk m ≡ Some []) lies (c.in_ok-begin_file.ensures.empty promised)
