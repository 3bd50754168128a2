use Rattle.files_in_place.specs.Folder.{SameBut}
use Rattle.files_in_place.proofs.Runs.{one_changes, same_but_step, then_changes, then_reads}
use Rattle.files_in_place.proofs.stage.write_whole.Goals as goal

pub returns-in_err-create-clause-steps : goal.returns-in_err-create-clause-steps
returns-in_err-create-clause-steps g c = one_changes g.D.Disk.meaning c.args.name.now _ _ c.create.ensures.changes

pub returns-in_err-append-clause-steps : goal.returns-in_err-append-clause-steps
returns-in_err-append-clause-steps g c =
    let m = g.D.Disk.meaning in
    then_changes m c.args.name.now _ _ _ (one_changes m c.args.name.now _ _ c.create.ensures.changes) c.append.ensures.changes

pub returns-in_err-sync_file-clause-steps : goal.returns-in_err-sync_file-clause-steps
returns-in_err-sync_file-clause-steps g c =
    let m = g.D.Disk.meaning in
    let filled = then_changes m c.args.name.now _ _ _ (one_changes m c.args.name.now _ _ c.create.ensures.changes) c.append.ensures.changes in
    then_reads m (SameBut c.args.name.now) (same_but_step c.args.name.now) _ _ _ filled c.sync_file.ensures.only

pub returns-clause-steps : goal.returns-clause-steps
returns-clause-steps g c =
    let m = g.D.Disk.meaning in
    let filled = then_changes m c.args.name.now _ _ _ (one_changes m c.args.name.now _ _ c.create.ensures.changes) c.append.ensures.changes in
    then_reads m (SameBut c.args.name.now) (same_but_step c.args.name.now) _ _ _ filled c.sync_file.ensures.only
