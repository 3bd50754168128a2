use Rattle.std.proofs.Common.{subst, sym, ap, ◌∙◌}
use Rattle.files_in_place.specs.Folder.{Folder, list_name, names_in}
use Rattle.files_in_place.specs.Recovery.{CanRename}
use Rattle.files_in_place.proofs.Settling.{settled_can}
use Rattle.files_in_place.proofs.settle.settle.Goals as goal

pub returns-clause-can : goal.returns-clause-can
returns-clause-can g c promised =
    let m = g.D.Disk.meaning in
    let seen = c.sync_files.ensures.seen ∙ c.sync_file.ensures.only.seen in
    subst (λ (f : Folder). CanRename f (m.may_leave c.sync_folder.new.self)) (sym c.sync_folder.ensures.only.seen)
    (settled_can c.args.names.now (m.seen c.sync_files.new.disk) (m.is_whole c.sync_files.new.disk) (m.may_leave c.sync_folder.new.self)
    (c.requires.listed promised ∙ ap (λ (f : Folder). names_in (f list_name)) (sym seen))
    (c.sync_files.ensures.kept list_name c.in_ok-sync_file.ensures.durable) c.in_ok-sync_files.ensures.whole c.in_ok-sync_folder.ensures.durable)
