use Rattle.std.proofs.Common.{List, Some, refl, subst, sym, ◌∙◌, ap, inl, inr}
use Rattle.std.specs.List.{Contains}
use Rattle.files_in_place.specs.Folder.{Name, Folder, SameBut, temporary, list_name}
use Rattle.files_in_place.proofs.Each.{from_all}
use Rattle.files_in_place.proofs.Meaning.{same_name}
use Rattle.files_in_place.proofs.Uncommitted.{list_temporary, staged_or_not, reserved_unstaged, list_ready, run_synced, run_steps}
use Rattle.files_in_place.proofs.stage.write_list.Goals as goal

pub write_whole-requires : goal.write_whole-requires
write_whole-requires g c = record {
  free = λ promised.
      let staged = c.requires.staged promised in
      ap (λ (f : Folder). f (temporary list_name)) c.sync_files.ensures.only.seen
      ∙ staged.no_other list_name (reserved_unstaged c.args.names.now list_name staged.fit refl);
}

pub returns-in_err-sync_files-clause-run : goal.returns-in_err-sync_files-clause-run
returns-in_err-sync_files-clause-run g c promised =
    let m = g.D.Disk.meaning in
    run_synced m _ _ _ _ (c.requires.staged promised) c.sync_files.ensures.only

pub returns-in_err-write_whole-clause-run : goal.returns-in_err-write_whole-clause-run
returns-in_err-write_whole-clause-run g c promised =
    let m = g.D.Disk.meaning in
    let synced = run_synced m _ _ _ _ (c.requires.staged promised) c.sync_files.ensures.only in
    run_steps m _ _ _ _ synced list_temporary c.write_whole.ensures.others c.write_whole.ensures.whole c.write_whole.ensures.steps

pub returns-clause-run : goal.returns-clause-run
returns-clause-run g c promised =
    let m = g.D.Disk.meaning in
    let synced = run_synced m _ _ _ _ (c.requires.staged promised) c.sync_files.ensures.only in
    run_steps m _ _ _ _ synced list_temporary c.write_whole.ensures.others c.write_whole.ensures.whole c.write_whole.ensures.steps

pub returns-clause-ready : goal.returns-clause-ready
returns-clause-ready g c promised =
    let m = g.D.Disk.meaning in
    let synced = run_synced m _ _ _ _ (c.requires.staged promised) c.sync_files.ensures.only in
    let made = run_steps m _ _ _ _ synced list_temporary c.write_whole.ensures.others c.write_whole.ensures.whole c.write_whole.ensures.steps in
    let others : SameBut (temporary list_name) (m.seen c.args.disk.now) (m.seen c.write_whole.new.disk) = λ n other. c.write_whole.ensures.others n other ∙ ap (λ (f : Folder). f n) c.sync_files.ensures.only.seen in
    let whole : (n : Name) → m.is_whole c.write_whole.new.disk n = λ n. elim (same_name n (temporary list_name)) [
      | inl same ↦ subst (λ (name : Name). m.is_whole c.write_whole.new.disk name) (sym same) c.in_ok-write_whole.ensures.durable
      | inr other ↦ c.write_whole.ensures.whole n other (elim (staged_or_not c.args.names.now n) [
        | inl staged ↦ from_all (m.is_whole c.sync_files.new.self) c.args.temporaries.now n c.in_ok-sync_files.ensures.durable
            (subst (λ (l : List Name). Contains l n) (sym c.requires.temporaries) staged)
        | inr none ↦ c.sync_files.ensures.only.whole n ((c.requires.staged promised).whole n none)
      ])
    ] in
    list_ready m c.args.names.now c.args.current.now c.args.disk.now c.write_whole.new.disk
    (c.requires.staged promised) others (c.in_ok-write_whole.ensures.done promised ∙ ap (λ b. Some b) c.requires.list) whole made.left.uncommitted
