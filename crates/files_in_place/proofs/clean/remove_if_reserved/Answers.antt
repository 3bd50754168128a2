use Rattle.std.proofs.Common.{◌≡◌, true, rules}
use Rattle.files_in_place.specs.Folder.{is_reserved}
use Rattle.files_in_place.specs.Recovery.{LosesReserved}
use Rattle.files_in_place.proofs.Runs.{one_call}
use Rattle.files_in_place.proofs.Meaning.{loses_follows, loses_step}
use Rattle.files_in_place.proofs.clean.remove_if_reserved.Goals as goal

pub returns-in_err-remove-clause-steps : goal.returns-in_err-remove-clause-steps
returns-in_err-remove-clause-steps g c =
    let m = g.D.Disk.meaning in
    let res : is_reserved c.args.name.now ≡ true = search rules in
    one_call m LosesReserved loses_step _ _ c.remove.ensures.removes.time (loses_follows c.args.name.now (m.may_leave c.args.disk.now) (m.may_leave c.remove.new.self) res c.remove.ensures.removes.crash)

pub returns-clause-steps : goal.returns-clause-steps
returns-clause-steps g c =
    let m = g.D.Disk.meaning in
    let res : is_reserved c.args.name.now ≡ true = search rules in
    one_call m LosesReserved loses_step _ _ c.remove.ensures.removes.time (loses_follows c.args.name.now (m.may_leave c.args.disk.now) (m.may_leave c.remove.new.self) res c.remove.ensures.removes.crash)
