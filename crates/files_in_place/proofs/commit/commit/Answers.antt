use Rattle.std.proofs.Common.{◌≡◌, true, false, subst, sym, ◌∙◌, ap, inl, inr}
use Rattle.files_in_place.specs.Folder.{Name, Folder, is_reserved, temporary, list_name, recovered}
use Rattle.files_in_place.specs.Disk.{IsSynced}
use Rattle.files_in_place.specs.Staged.{IsPut, is_file_name}
use Rattle.files_in_place.proofs.Runs.{started, goes_on, runs_on}
use Rattle.files_in_place.proofs.Meaning.{same_name}
use Rattle.files_in_place.proofs.Ending.{settled, can_rename, still_from}
use Rattle.files_in_place.proofs.Each.{each_by, each_of}
use Rattle.files_in_place.proofs.Uncommitted.{name_free}
use Rattle.files_in_place.proofs.Committing.{put_old, naming_means, named_means, recovering_means, list_durable, listed_names}
use Rattle.files_in_place.proofs.commit.commit.Goals as goal

pub rename-requires-clause-durable : goal.rename-requires-clause-durable
rename-requires-clause-durable g c promised =
    let m = g.D.Disk.meaning in
    let ready = c.requires.ready promised in
    let only : (f : Folder) → m.may_leave c.sync_folder.new.self f → (n : Name) → f n ≡ m.seen c.args.disk.now n = λ f now n. c.in_ok-sync_folder.ensures.durable f now n (ready.whole n) in
    list_durable m c.args.names.now c.args.disk.now ready (m.seen c.sync_folder.new.self) (m.may_leave c.sync_folder.new.self) c.sync_folder.ensures.only.seen only

pub recover_listed-requires : goal.recover_listed-requires
recover_listed-requires g c =
    let m = g.D.Disk.meaning in
    record {
      can = λ promised.
          let ready = c.requires.ready promised in
          let rest = settled (m.seen c.rename.new.self) (m.is_whole c.rename.new.self) (m.is_whole c.sync_folder-2.new.self) (m.may_leave c.sync_folder-2.new.self)
          (λ n. elim (same_name n list_name) [
            | inl same ↦ subst (λ (name : Name). m.is_whole c.rename.new.self name) (sym same) (c.in_ok-rename.ensures.moved (c.sync_folder.ensures.only.whole (temporary list_name) (ready.whole (temporary list_name))))
            | inr other ↦ c.rename.ensures.moves.whole n other (c.sync_folder.ensures.only.whole n (ready.whole n))
          ]) c.sync_folder-2.ensures.only.whole c.in_ok-sync_folder-2.ensures.durable in
          let synced = subst (λ (f : Folder). IsSynced f (m.is_whole c.sync_folder-2.new.self) (m.may_leave c.sync_folder-2.new.self)) (sym c.sync_folder-2.ensures.only.seen) rest in
          can_rename (m.seen c.sync_folder-2.new.self) (m.may_leave c.sync_folder-2.new.self) synced.only;
      listed = λ promised.
          let ready = c.requires.ready promised in
          listed_names m c.args.names.now c.args.disk.now ready (m.seen c.sync_folder.new.self) (m.seen c.rename.new.self) c.sync_folder.ensures.only.seen (c.in_ok-rename.ensures.done promised) (m.seen c.sync_folder-2.new.self) c.sync_folder-2.ensures.only.seen;
      free = λ promised. each_by (λ name. is_file_name name ≡ true) (λ name. is_reserved name ≡ false) c.args.names.now name_free (c.requires.ready promised).fit;
      on_disk = λ promised.
          let ready = c.requires.ready promised in
          let rest = settled (m.seen c.rename.new.self) (m.is_whole c.rename.new.self) (m.is_whole c.sync_folder-2.new.self) (m.may_leave c.sync_folder-2.new.self)
          (λ n. elim (same_name n list_name) [
            | inl same ↦ subst (λ (name : Name). m.is_whole c.rename.new.self name) (sym same) (c.in_ok-rename.ensures.moved (c.sync_folder.ensures.only.whole (temporary list_name) (ready.whole (temporary list_name))))
            | inr other ↦ c.rename.ensures.moves.whole n other (c.sync_folder.ensures.only.whole n (ready.whole n))
          ]) c.sync_folder-2.ensures.only.whole c.in_ok-sync_folder-2.ensures.durable in
          let synced = subst (λ (f : Folder). IsSynced f (m.is_whole c.sync_folder-2.new.self) (m.may_leave c.sync_folder-2.new.self)) (sym c.sync_folder-2.ensures.only.seen) rest in
          each_of (λ name. m.is_whole c.sync_folder-2.new.self name × m.is_whole c.sync_folder-2.new.self (temporary name)) c.args.names.now (λ name. (synced.whole name, synced.whole (temporary name)));
    }

pub returns-in_err-sync_folder-clause-any_moment : goal.returns-in_err-sync_folder-clause-any_moment
returns-in_err-sync_folder-clause-any_moment g c promised =
    let m = g.D.Disk.meaning in
    let ready = c.requires.ready promised in
    let P : Folder → Type 0 = IsPut c.args.names.now (m.seen c.args.disk.now) in
    let at_start = started m c.args.disk.now P (put_old c.args.names.now (m.seen c.args.disk.now) (m.may_leave c.args.disk.now) ready.uncommitted) in
    let synced = goes_on m _ _ _ _ at_start c.sync_folder.ensures.only.time (λ f now. put_old c.args.names.now (m.seen c.args.disk.now) (m.may_leave c.args.disk.now) ready.uncommitted f (c.sync_folder.ensures.only.crash f now)) in
    synced

pub returns-in_err-rename-clause-any_moment : goal.returns-in_err-rename-clause-any_moment
returns-in_err-rename-clause-any_moment g c promised =
    let m = g.D.Disk.meaning in
    let ready = c.requires.ready promised in
    let P : Folder → Type 0 = IsPut c.args.names.now (m.seen c.args.disk.now) in
    let at_start = started m c.args.disk.now P (put_old c.args.names.now (m.seen c.args.disk.now) (m.may_leave c.args.disk.now) ready.uncommitted) in
    let synced = goes_on m _ _ _ _ at_start c.sync_folder.ensures.only.time (λ f now. put_old c.args.names.now (m.seen c.args.disk.now) (m.may_leave c.args.disk.now) ready.uncommitted f (c.sync_folder.ensures.only.crash f now)) in
    let only : (f : Folder) → m.may_leave c.sync_folder.new.self f → (n : Name) → f n ≡ m.seen c.args.disk.now n = λ f now n. c.in_ok-sync_folder.ensures.durable f now n (ready.whole n) in
    let named = goes_on m _ _ _ _ synced c.rename.ensures.moves.time (λ f now. naming_means m c.args.names.now c.args.disk.now ready (m.may_leave c.sync_folder.new.self) only f (c.rename.ensures.moves.crash f now)) in
    named

pub returns-in_err-sync_folder-2-clause-any_moment : goal.returns-in_err-sync_folder-2-clause-any_moment
returns-in_err-sync_folder-2-clause-any_moment g c promised =
    let m = g.D.Disk.meaning in
    let ready = c.requires.ready promised in
    let P : Folder → Type 0 = IsPut c.args.names.now (m.seen c.args.disk.now) in
    let at_start = started m c.args.disk.now P (put_old c.args.names.now (m.seen c.args.disk.now) (m.may_leave c.args.disk.now) ready.uncommitted) in
    let synced = goes_on m _ _ _ _ at_start c.sync_folder.ensures.only.time (λ f now. put_old c.args.names.now (m.seen c.args.disk.now) (m.may_leave c.args.disk.now) ready.uncommitted f (c.sync_folder.ensures.only.crash f now)) in
    let only : (f : Folder) → m.may_leave c.sync_folder.new.self f → (n : Name) → f n ≡ m.seen c.args.disk.now n = λ f now n. c.in_ok-sync_folder.ensures.durable f now n (ready.whole n) in
    let named = goes_on m _ _ _ _ synced c.rename.ensures.moves.time (λ f now. naming_means m c.args.names.now c.args.disk.now ready (m.may_leave c.sync_folder.new.self) only f (c.rename.ensures.moves.crash f now)) in
    let kept = goes_on m _ _ _ _ named c.sync_folder-2.ensures.only.time (λ f now. naming_means m c.args.names.now c.args.disk.now ready (m.may_leave c.sync_folder.new.self) only f (c.rename.ensures.moves.crash f (c.sync_folder-2.ensures.only.crash f now))) in
    kept

pub returns-in-Ok-clause-any_moment : goal.returns-in-Ok-clause-any_moment
returns-in-Ok-clause-any_moment g c promised =
    let m = g.D.Disk.meaning in
    let ready = c.requires.ready promised in
    let P : Folder → Type 0 = IsPut c.args.names.now (m.seen c.args.disk.now) in
    let at_start = started m c.args.disk.now P (put_old c.args.names.now (m.seen c.args.disk.now) (m.may_leave c.args.disk.now) ready.uncommitted) in
    let synced = goes_on m _ _ _ _ at_start c.sync_folder.ensures.only.time (λ f now. put_old c.args.names.now (m.seen c.args.disk.now) (m.may_leave c.args.disk.now) ready.uncommitted f (c.sync_folder.ensures.only.crash f now)) in
    let only : (f : Folder) → m.may_leave c.sync_folder.new.self f → (n : Name) → f n ≡ m.seen c.args.disk.now n = λ f now n. c.in_ok-sync_folder.ensures.durable f now n (ready.whole n) in
    let named = goes_on m _ _ _ _ synced c.rename.ensures.moves.time (λ f now. naming_means m c.args.names.now c.args.disk.now ready (m.may_leave c.sync_folder.new.self) only f (c.rename.ensures.moves.crash f now)) in
    let kept = goes_on m _ _ _ _ named c.sync_folder-2.ensures.only.time (λ f now. naming_means m c.args.names.now c.args.disk.now ready (m.may_leave c.sync_folder.new.self) only f (c.rename.ensures.moves.crash f (c.sync_folder-2.ensures.only.crash f now))) in
    let rest = settled (m.seen c.rename.new.self) (m.is_whole c.rename.new.self) (m.is_whole c.sync_folder-2.new.self) (m.may_leave c.sync_folder-2.new.self)
    (λ n. elim (same_name n list_name) [
      | inl same ↦ subst (λ (name : Name). m.is_whole c.rename.new.self name) (sym same) (c.in_ok-rename.ensures.moved (c.sync_folder.ensures.only.whole (temporary list_name) (ready.whole (temporary list_name))))
      | inr other ↦ c.rename.ensures.moves.whole n other (c.sync_folder.ensures.only.whole n (ready.whole n))
    ]) c.sync_folder-2.ensures.only.whole c.in_ok-sync_folder-2.ensures.durable in
    let synced_now = subst (λ (f : Folder). IsSynced f (m.is_whole c.sync_folder-2.new.self) (m.may_leave c.sync_folder-2.new.self)) (sym c.sync_folder-2.ensures.only.seen) rest in
    let over = runs_on m _ _ _ _ _ kept (c.recover_listed.ensures.steps promised).moments
    (λ f from. recovering_means m c.args.names.now c.args.disk.now ready (m.seen c.sync_folder.new.self) (m.seen c.rename.new.self) c.sync_folder.ensures.only.seen (c.in_ok-rename.ensures.done promised) c.rename.ensures.moves.others (m.seen c.sync_folder-2.new.self) f c.sync_folder-2.ensures.only.seen (still_from from.0 (m.seen c.sync_folder-2.new.self) f (synced_now.only from.0 from.1) from.2)) in
    over

pub returns-in-Err-clause-any_moment : goal.returns-in-Err-clause-any_moment
returns-in-Err-clause-any_moment g c promised =
    let m = g.D.Disk.meaning in
    let ready = c.requires.ready promised in
    let P : Folder → Type 0 = IsPut c.args.names.now (m.seen c.args.disk.now) in
    let at_start = started m c.args.disk.now P (put_old c.args.names.now (m.seen c.args.disk.now) (m.may_leave c.args.disk.now) ready.uncommitted) in
    let synced = goes_on m _ _ _ _ at_start c.sync_folder.ensures.only.time (λ f now. put_old c.args.names.now (m.seen c.args.disk.now) (m.may_leave c.args.disk.now) ready.uncommitted f (c.sync_folder.ensures.only.crash f now)) in
    let only : (f : Folder) → m.may_leave c.sync_folder.new.self f → (n : Name) → f n ≡ m.seen c.args.disk.now n = λ f now n. c.in_ok-sync_folder.ensures.durable f now n (ready.whole n) in
    let named = goes_on m _ _ _ _ synced c.rename.ensures.moves.time (λ f now. naming_means m c.args.names.now c.args.disk.now ready (m.may_leave c.sync_folder.new.self) only f (c.rename.ensures.moves.crash f now)) in
    let kept = goes_on m _ _ _ _ named c.sync_folder-2.ensures.only.time (λ f now. naming_means m c.args.names.now c.args.disk.now ready (m.may_leave c.sync_folder.new.self) only f (c.rename.ensures.moves.crash f (c.sync_folder-2.ensures.only.crash f now))) in
    let rest = settled (m.seen c.rename.new.self) (m.is_whole c.rename.new.self) (m.is_whole c.sync_folder-2.new.self) (m.may_leave c.sync_folder-2.new.self)
    (λ n. elim (same_name n list_name) [
      | inl same ↦ subst (λ (name : Name). m.is_whole c.rename.new.self name) (sym same) (c.in_ok-rename.ensures.moved (c.sync_folder.ensures.only.whole (temporary list_name) (ready.whole (temporary list_name))))
      | inr other ↦ c.rename.ensures.moves.whole n other (c.sync_folder.ensures.only.whole n (ready.whole n))
    ]) c.sync_folder-2.ensures.only.whole c.in_ok-sync_folder-2.ensures.durable in
    let synced_now = subst (λ (f : Folder). IsSynced f (m.is_whole c.sync_folder-2.new.self) (m.may_leave c.sync_folder-2.new.self)) (sym c.sync_folder-2.ensures.only.seen) rest in
    let over = runs_on m _ _ _ _ _ kept (c.recover_listed.ensures.steps promised).moments
    (λ f from. recovering_means m c.args.names.now c.args.disk.now ready (m.seen c.sync_folder.new.self) (m.seen c.rename.new.self) c.sync_folder.ensures.only.seen (c.in_ok-rename.ensures.done promised) c.rename.ensures.moves.others (m.seen c.sync_folder-2.new.self) f c.sync_folder-2.ensures.only.seen (still_from from.0 (m.seen c.sync_folder-2.new.self) f (synced_now.only from.0 from.1) from.2)) in
    over

pub returns-in-Ok-clause-done : goal.returns-in-Ok-clause-done
returns-in-Ok-clause-done g c promised =
    let m = g.D.Disk.meaning in
    let ready = c.requires.ready promised in
    let means = named_means m c.args.names.now c.args.disk.now ready (m.seen c.sync_folder.new.self) (m.seen c.rename.new.self) c.sync_folder.ensures.only.seen (c.in_ok-rename.ensures.done promised) c.rename.ensures.moves.others in
    λ n. c.in-Ok.ensures.done promised n ∙ ap (λ (f : Folder). recovered f n) c.sync_folder-2.ensures.only.seen ∙ means n

pub returns-in-Ok-clause-synced : goal.returns-in-Ok-clause-synced
returns-in-Ok-clause-synced g c promised =
    let m = g.D.Disk.meaning in
    let ready = c.requires.ready promised in
    let rest = settled (m.seen c.rename.new.self) (m.is_whole c.rename.new.self) (m.is_whole c.sync_folder-2.new.self) (m.may_leave c.sync_folder-2.new.self)
    (λ n. elim (same_name n list_name) [
      | inl same ↦ subst (λ (name : Name). m.is_whole c.rename.new.self name) (sym same) (c.in_ok-rename.ensures.moved (c.sync_folder.ensures.only.whole (temporary list_name) (ready.whole (temporary list_name))))
      | inr other ↦ c.rename.ensures.moves.whole n other (c.sync_folder.ensures.only.whole n (ready.whole n))
    ]) c.sync_folder-2.ensures.only.whole c.in_ok-sync_folder-2.ensures.durable in
    let synced = subst (λ (f : Folder). IsSynced f (m.is_whole c.sync_folder-2.new.self) (m.may_leave c.sync_folder-2.new.self)) (sym c.sync_folder-2.ensures.only.seen) rest in
    c.in-Ok.ensures.synced promised (λ n free. synced.whole n)
