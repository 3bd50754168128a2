use Rattle.std.proofs.Common.{◌≡◌, ◌≢◌, List, map, arith, refl, rules, subst, sym, ◌∙◌, ap}
use Rattle.byte_io.specs.Laws.Sinks.{on_err}
use Rattle.files_in_place.specs.declared.phase.Phase.TheVariants.{Staging, Failed, Ended}
use Rattle.files_in_place.specs.Folder.{Name, SameBut, temporary, list_name, list_bytes}
use Rattle.files_in_place.specs.Disk.{LeavesOnly}
use Rattle.files_in_place.specs.Staged.{Set, AreStaged, AreReady, HasBeenReady, IsOldOrNew, RunsUncommitted, SameUnstaged, with_staged}
use Rattle.files_in_place.proofs.Uncommitted.{run_none, staged_none}
use Rattle.files_in_place.proofs.Sets.{in_staging, in_failed, in_ended, with_staged_same, put_clean, put_none, put_listed, put_all, put_either, put_others}
use Rattle.files_in_place.proofs.file_set.FileSet.finish.Goals as goal

pub write_list-requires-clause-staged : goal.write_list-requires-clause-staged
write_list-requires-clause-staged g c promised =
    let m = g.D.Disk.meaning in
    let phase : c.self.inside.phase ≡ Staging = search rules in
    let staged = (c.self.invariant promised).staged phase in
    let names : c.deref-3.result.now ≡ c.self.inside.names.items = c.deref-3.ensures.value in
    subst (λ (l : List Name). AreStaged m l c.self.inside.current c.self.inside.disk) (sym names) staged

pub write_list-requires-clause-list : goal.write_list-requires-clause-list
write_list-requires-clause-list g c =
    c.deref-5.ensures.value ∙ c.in_ok-list.ensures.value ∙ ap list_bytes (c.deref.ensures.value ∙ sym c.deref-3.ensures.value)

pub write_list-requires-clause-temporaries : goal.write_list-requires-clause-temporaries
write_list-requires-clause-temporaries g c =
    c.deref-4.ensures.value ∙ c.in_ok-temporaries.ensures.value ∙ ap (map temporary) (c.deref-2.ensures.value ∙ sym c.deref-3.ensures.value)

pub commit-requires : goal.commit-requires
commit-requires g c =
    let m = g.D.Disk.meaning in
    record {
      ready = λ promised.
          let names : c.deref-3.result.now ≡ c.self.inside.names.items = c.deref-3.ensures.value in
          let listed : c.deref-6.result.now ≡ c.self.inside.names.items = c.deref-6.ensures.value in
          subst (λ (l : List Name). AreReady m l c.write_list.new.disk) (names ∙ sym listed) (c.in_ok-write_list.ensures.ready promised);
    }

pub returns-in_err-list-clause-any_moment : goal.returns-in_err-list-clause-any_moment
returns-in_err-list-clause-any_moment g c promised staging =
    let m = g.D.Disk.meaning in
    let phase : c.self.inside.phase ≡ Staging = ap (λ (s : Set g.row.D.Denot). s.phase) c.self.view_is ∙ staging in
    let put = put_none m c.self.inside.names.items c.self.inside.disk ((c.self.invariant promised).staged phase).uncommitted in
    subst (λ (s : Set g.row.D.Denot). LeavesOnly m s.disk s.disk (IsOldOrNew s.names (m.seen s.disk))) c.self.view_is
    (put_either m _ _ _ put)

pub returns-in_err-temporaries-clause-any_moment : goal.returns-in_err-temporaries-clause-any_moment
returns-in_err-temporaries-clause-any_moment g c promised staging =
    let m = g.D.Disk.meaning in
    let phase : c.self.inside.phase ≡ Staging = ap (λ (s : Set g.row.D.Denot). s.phase) c.self.view_is ∙ staging in
    let put = put_none m c.self.inside.names.items c.self.inside.disk ((c.self.invariant promised).staged phase).uncommitted in
    subst (λ (s : Set g.row.D.Denot). LeavesOnly m s.disk s.disk (IsOldOrNew s.names (m.seen s.disk))) c.self.view_is
    (put_either m _ _ _ put)

pub returns-in_err-list-clause-undone : goal.returns-in_err-list-clause-undone
returns-in_err-list-clause-undone g c promised staging =
    let m = g.D.Disk.meaning in
    let phase : c.self.inside.phase ≡ Staging = ap (λ (s : Set g.row.D.Denot). s.phase) c.self.view_is ∙ staging in
    let left = (c.self.invariant promised).left (λ ended. let clash : Staging ≡ Ended = sym phase ∙ ended in absurd cc) in
    let run : RunsUncommitted m c.args.self.now.disk c.args.self.now.disk =
    subst (λ (s : Set g.row.D.Denot). RunsUncommitted m s.disk s.disk) c.self.view_is
    (run_none m c.self.inside.disk left) in
    let undone : c.args.self.now.phase ≢ Ended → RunsUncommitted m c.args.self.now.disk c.args.self.now.disk = λ _. run in
    on_err c.from_residual.result undone

pub returns-in_err-temporaries-clause-undone : goal.returns-in_err-temporaries-clause-undone
returns-in_err-temporaries-clause-undone g c promised staging =
    let m = g.D.Disk.meaning in
    let phase : c.self.inside.phase ≡ Staging = ap (λ (s : Set g.row.D.Denot). s.phase) c.self.view_is ∙ staging in
    let left = (c.self.invariant promised).left (λ ended. let clash : Staging ≡ Ended = sym phase ∙ ended in absurd cc) in
    let run : RunsUncommitted m c.args.self.now.disk c.args.self.now.disk =
    subst (λ (s : Set g.row.D.Denot). RunsUncommitted m s.disk s.disk) c.self.view_is
    (run_none m c.self.inside.disk left) in
    let undone : c.args.self.now.phase ≢ Ended → RunsUncommitted m c.args.self.now.disk c.args.self.now.disk = λ _. run in
    on_err c.from_residual-in_err-temporaries.result undone

pub returns-in_err-write_list-clause-undone : goal.returns-in_err-write_list-clause-undone
returns-in_err-write_list-clause-undone g c promised staging =
    let m = g.D.Disk.meaning in
    let run : RunsUncommitted m c.args.self.now.disk c.write_list.new.disk =
    subst (λ (s : Set g.row.D.Denot). RunsUncommitted m s.disk c.write_list.new.disk) c.self.view_is (c.write_list.ensures.run promised) in
    let undone : Failed ≢ Ended → RunsUncommitted m c.args.self.now.disk c.write_list.new.disk = λ _. run in
    on_err c.from_residual-in_err-write_list.result undone

pub returns-in_err-commit-clause-undone : goal.returns-in_err-commit-clause-undone
returns-in_err-commit-clause-undone g c promised staging =
    let undone : Ended ≢ Ended → RunsUncommitted g.D.Disk.meaning c.args.self.now.disk c.commit.new.disk = λ going. absurd (going refl) in
    on_err c.from_residual-in_err-commit.result undone

pub returns-in_err-list-clause-begun : goal.returns-in_err-list-clause-begun
returns-in_err-list-clause-begun g c promised staging =
    let m = g.D.Disk.meaning in
    let begun : c.args.self.now.phase ≡ Ended → HasBeenReady m c.args.self.now.names (m.moment c.args.self.now.disk) (m.seen c.args.self.now.disk) c.args.self.now.disk = λ ended. let clash : Staging ≡ Ended = sym staging ∙ ended in absurd cc in
    on_err c.from_residual.result begun

pub returns-in_err-temporaries-clause-begun : goal.returns-in_err-temporaries-clause-begun
returns-in_err-temporaries-clause-begun g c promised staging =
    let m = g.D.Disk.meaning in
    let begun : c.args.self.now.phase ≡ Ended → HasBeenReady m c.args.self.now.names (m.moment c.args.self.now.disk) (m.seen c.args.self.now.disk) c.args.self.now.disk = λ ended. let clash : Staging ≡ Ended = sym staging ∙ ended in absurd cc in
    on_err c.from_residual-in_err-temporaries.result begun

pub returns-in_err-write_list-clause-begun : goal.returns-in_err-write_list-clause-begun
returns-in_err-write_list-clause-begun g c promised staging =
    let m = g.D.Disk.meaning in
    let begun : Failed ≡ Ended → HasBeenReady m c.args.self.now.names (m.moment c.args.self.now.disk) (m.seen c.args.self.now.disk) c.write_list.new.disk = λ ended. absurd cc in
    on_err c.from_residual-in_err-write_list.result begun

pub returns-in_err-commit-clause-begun : goal.returns-in_err-commit-clause-begun
returns-in_err-commit-clause-begun g c promised staging =
    let m = g.D.Disk.meaning in
    let names : c.deref-3.result.now ≡ c.self.inside.names.items = c.deref-3.ensures.value in
    let ready : AreReady m c.self.inside.names.items c.write_list.new.disk =
    subst (λ (l : List Name). AreReady m l c.write_list.new.disk) names (c.in_ok-write_list.ensures.ready promised) in
    let was : HasBeenReady m c.args.self.now.names (m.moment c.args.self.now.disk) (m.seen c.args.self.now.disk) c.commit.new.disk =
    subst (λ (s : Set g.row.D.Denot). HasBeenReady m s.names (m.moment s.disk) (m.seen s.disk) c.commit.new.disk) c.self.view_is (record {
      earlier = c.write_list.new.disk;
      since = (c.write_list.ensures.run promised).moments.later;
      later = (c.commit.ensures.any_moment promised).later;
      reached = λ f may. (c.commit.ensures.any_moment promised).keeps (m.moment c.write_list.new.disk) f (omega arith) (m.counts_now c.write_list.new.disk (m.moment c.write_list.new.disk) f (omega arith) may);
      ready = ready;
      same = (c.write_list.ensures.run promised).same;
    }) in
    let begun : Ended ≡ Ended → HasBeenReady m c.args.self.now.names (m.moment c.args.self.now.disk) (m.seen c.args.self.now.disk) c.commit.new.disk = λ _. was in
    on_err c.from_residual-in_err-commit.result begun

pub returns-in_err-list-clause-others : goal.returns-in_err-list-clause-others
returns-in_err-list-clause-others g c promised staging =
    let m = g.D.Disk.meaning in
    let phase : c.self.inside.phase ≡ Staging = ap (λ (s : Set g.row.D.Denot). s.phase) c.self.view_is ∙ staging in
    let put = put_none m c.self.inside.names.items c.self.inside.disk ((c.self.invariant promised).staged phase).uncommitted in
    subst (λ (s : Set g.row.D.Denot). LeavesOnly m s.disk s.disk (SameUnstaged s.names (m.seen s.disk))) c.self.view_is
    (put_others m _ _ _ put)

pub returns-in_err-temporaries-clause-others : goal.returns-in_err-temporaries-clause-others
returns-in_err-temporaries-clause-others g c promised staging =
    let m = g.D.Disk.meaning in
    let phase : c.self.inside.phase ≡ Staging = ap (λ (s : Set g.row.D.Denot). s.phase) c.self.view_is ∙ staging in
    let put = put_none m c.self.inside.names.items c.self.inside.disk ((c.self.invariant promised).staged phase).uncommitted in
    subst (λ (s : Set g.row.D.Denot). LeavesOnly m s.disk s.disk (SameUnstaged s.names (m.seen s.disk))) c.self.view_is
    (put_others m _ _ _ put)

pub returns-in_err-write_list-clause-any_moment : goal.returns-in_err-write_list-clause-any_moment
returns-in_err-write_list-clause-any_moment g c promised staging =
    let m = g.D.Disk.meaning in
    let put = put_listed m c.self.inside.names.items _ _ (c.write_list.ensures.run promised) in
    subst (λ (s : Set g.row.D.Denot). LeavesOnly m s.disk c.write_list.new.disk (IsOldOrNew s.names (m.seen s.disk))) c.self.view_is
    (put_either m _ _ _ put)

pub returns-in_err-write_list-clause-others : goal.returns-in_err-write_list-clause-others
returns-in_err-write_list-clause-others g c promised staging =
    let m = g.D.Disk.meaning in
    let put = put_listed m c.self.inside.names.items _ _ (c.write_list.ensures.run promised) in
    subst (λ (s : Set g.row.D.Denot). LeavesOnly m s.disk c.write_list.new.disk (SameUnstaged s.names (m.seen s.disk))) c.self.view_is
    (put_others m _ _ _ put)

pub returns-in_err-commit-clause-any_moment : goal.returns-in_err-commit-clause-any_moment
returns-in_err-commit-clause-any_moment g c promised staging =
    let m = g.D.Disk.meaning in
    let phase : c.self.inside.phase ≡ Staging = search rules in
    let put = put_all m c.self.inside.names.items c.deref-6.result.now c.self.inside.disk c.write_list.new.disk c.commit.new.disk c.deref-6.ensures.value ((c.self.invariant promised).staged phase).fit c.write_list.ensures.others (c.write_list.ensures.run promised) (c.commit.ensures.any_moment promised) in
    subst (λ (s : Set g.row.D.Denot). LeavesOnly m s.disk c.commit.new.disk (IsOldOrNew s.names (m.seen s.disk))) c.self.view_is
    (put_either m _ _ _ put)

pub returns-in_err-commit-clause-others : goal.returns-in_err-commit-clause-others
returns-in_err-commit-clause-others g c promised staging =
    let m = g.D.Disk.meaning in
    let phase : c.self.inside.phase ≡ Staging = search rules in
    let put = put_all m c.self.inside.names.items c.deref-6.result.now c.self.inside.disk c.write_list.new.disk c.commit.new.disk c.deref-6.ensures.value ((c.self.invariant promised).staged phase).fit c.write_list.ensures.others (c.write_list.ensures.run promised) (c.commit.ensures.any_moment promised) in
    subst (λ (s : Set g.row.D.Denot). LeavesOnly m s.disk c.commit.new.disk (SameUnstaged s.names (m.seen s.disk))) c.self.view_is
    (put_others m _ _ _ put)

pub returns-clause-any_moment : goal.returns-clause-any_moment
returns-clause-any_moment g c promised staging =
    let m = g.D.Disk.meaning in
    let phase : c.self.inside.phase ≡ Staging = search rules in
    let put = put_all m c.self.inside.names.items c.deref-6.result.now c.self.inside.disk c.write_list.new.disk c.commit.new.disk c.deref-6.ensures.value ((c.self.invariant promised).staged phase).fit c.write_list.ensures.others (c.write_list.ensures.run promised) (c.commit.ensures.any_moment promised) in
    subst (λ (s : Set g.row.D.Denot). LeavesOnly m s.disk c.commit.new.disk (IsOldOrNew s.names (m.seen s.disk))) c.self.view_is
    (put_either m _ _ _ put)

pub returns-clause-others : goal.returns-clause-others
returns-clause-others g c promised staging =
    let m = g.D.Disk.meaning in
    let phase : c.self.inside.phase ≡ Staging = search rules in
    let put = put_all m c.self.inside.names.items c.deref-6.result.now c.self.inside.disk c.write_list.new.disk c.commit.new.disk c.deref-6.ensures.value ((c.self.invariant promised).staged phase).fit c.write_list.ensures.others (c.write_list.ensures.run promised) (c.commit.ensures.any_moment promised) in
    subst (λ (s : Set g.row.D.Denot). LeavesOnly m s.disk c.commit.new.disk (SameUnstaged s.names (m.seen s.disk))) c.self.view_is
    (put_others m _ _ _ put)

pub returns-clause-done : goal.returns-clause-done
returns-clause-done g c promised =
    let m = g.D.Disk.meaning in
    let phase : c.self.inside.phase ≡ Staging = search rules in
    let staged = (c.self.invariant promised).staged phase in
    let listed : c.deref-6.result.now ≡ c.self.inside.names.items = c.deref-6.ensures.value in
    let others : SameBut (temporary list_name) (m.seen c.self.inside.disk) (m.seen c.write_list.new.disk) = c.write_list.ensures.others in
    let done : (n : Name) → m.seen c.commit.new.disk n ≡ with_staged c.self.inside.names.items (m.seen c.self.inside.disk) n = λ n. c.in_ok-commit.ensures.done promised n ∙ ap (λ (l : List Name). with_staged l (m.seen c.write_list.new.disk) n) listed ∙ with_staged_same c.self.inside.names.items (m.seen c.self.inside.disk) (m.seen c.write_list.new.disk) staged.fit others n in
    subst (λ (s : Set g.row.D.Denot). (n : Name) → m.seen c.commit.new.disk n ≡ with_staged s.names (m.seen s.disk) n) c.self.view_is done

pub invariant_of-self : goal.invariant_of-self
invariant_of-self g c promised =
    let m = g.D.Disk.meaning in
    in_failed m c.self.inside.names.items c.self.inside.current c.write_list.new.disk (c.write_list.ensures.run promised).left

pub invariant_of-self-in_err-commit : goal.invariant_of-self-in_err-commit
invariant_of-self-in_err-commit g c promised =
    let m = g.D.Disk.meaning in
    in_ended m c.self.inside.names.items c.self.inside.current c.commit.new.disk

pub invariant_of-self-2 : goal.invariant_of-self-2
invariant_of-self-2 g c promised =
    let m = g.D.Disk.meaning in
    let phase : c.self.inside.phase ≡ Staging = search rules in
    let staged = (c.self.invariant promised).staged phase in
    let listed : c.deref-6.result.now ≡ c.self.inside.names.items = c.deref-6.ensures.value in
    let others : SameBut (temporary list_name) (m.seen c.self.inside.disk) (m.seen c.write_list.new.disk) = c.write_list.ensures.others in
    let done : (n : Name) → m.seen c.commit.new.disk n ≡ with_staged c.self.inside.names.items (m.seen c.self.inside.disk) n = λ n. c.in_ok-commit.ensures.done promised n ∙ ap (λ (l : List Name). with_staged l (m.seen c.write_list.new.disk) n) listed ∙ with_staged_same c.self.inside.names.items (m.seen c.self.inside.disk) (m.seen c.write_list.new.disk) staged.fit others n in
    in_staging m _ _ _
    (staged_none m c.new.result.items c.commit.new.disk c.new.ensures.items (put_clean c.self.inside.names.items (m.seen c.self.inside.disk) (m.seen c.commit.new.disk) done) (c.in_ok-commit.ensures.synced promised))
