use Rattle.std.proofs.Common.{subst, sym, inl, inr}
use Rattle.std.proofs.lemmas.Bool.{cases_Bool}
use Rattle.files_in_place.specs.Folder.{Name, Folder, is_reserved}
use Rattle.files_in_place.specs.Disk.{IsSynced}
use Rattle.files_in_place.specs.Recovery.{LosesReserved, AreRemoved}
use Rattle.files_in_place.proofs.Ending.{removed_each, settled}
use Rattle.files_in_place.proofs.Meaning.{loses_step}
use Rattle.files_in_place.proofs.Runs.{and_then, one_reads, then_reads}
use Rattle.files_in_place.proofs.clean.clean.Goals as goal

pub returns-clause-synced : goal.returns-clause-synced
returns-clause-synced g c promised free_whole =
    let m = g.D.Disk.meaning in
    let gone = subst (λ l. AreRemoved l (m.seen c.remove_reserved.new.disk)) c.deref.ensures.value (c.in_ok-remove_reserved.ensures.done promised) in
    let loses = subst (λ (f : Folder). LosesReserved f (m.seen c.remove_reserved.new.disk)) c.list.ensures.only.seen (c.in_ok-remove_reserved.ensures.others promised) in
    let whole : (n : Name) → m.is_whole c.remove_reserved.new.disk n = λ n. elim (cases_Bool (is_reserved n)) [
      | inl res ↦ m.none_whole c.remove_reserved.new.disk n (removed_each c.in_ok-names.names.items (m.seen c.args.disk.now) (m.seen c.remove_reserved.new.disk) loses gone (c.in_ok-names.ensures.names promised) n res)
      | inr free ↦ c.remove_reserved.ensures.whole n (c.list.ensures.only.whole n (free_whole n free))
    ] in
    subst (λ (f : Folder). IsSynced f (m.is_whole c.sync_folder.new.self) (m.may_leave c.sync_folder.new.self)) (sym c.sync_folder.ensures.only.seen)
    (settled (m.seen c.remove_reserved.new.disk) (m.is_whole c.remove_reserved.new.disk) (m.is_whole c.sync_folder.new.self) (m.may_leave c.sync_folder.new.self) whole c.sync_folder.ensures.only.whole c.in_ok-sync_folder.ensures.durable)

pub returns-in_err-remove_reserved-clause-steps : goal.returns-in_err-remove_reserved-clause-steps
returns-in_err-remove_reserved-clause-steps g c =
    let m = g.D.Disk.meaning in
    and_then m LosesReserved loses_step _ _ _ (one_reads m LosesReserved loses_step _ _ c.list.ensures.only) c.remove_reserved.ensures.steps

pub returns-in_err-sync_folder-clause-steps : goal.returns-in_err-sync_folder-clause-steps
returns-in_err-sync_folder-clause-steps g c =
    let m = g.D.Disk.meaning in
    then_reads m LosesReserved loses_step _ _ _ (and_then m LosesReserved loses_step _ _ _ (one_reads m LosesReserved loses_step _ _ c.list.ensures.only) c.remove_reserved.ensures.steps) c.sync_folder.ensures.only

pub returns-clause-steps : goal.returns-clause-steps
returns-clause-steps g c =
    let m = g.D.Disk.meaning in
    then_reads m LosesReserved loses_step _ _ _ (and_then m LosesReserved loses_step _ _ _ (one_reads m LosesReserved loses_step _ _ c.list.ensures.only) c.remove_reserved.ensures.steps) c.sync_folder.ensures.only
