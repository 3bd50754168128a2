use Rattle.std.proofs.Common.{ap, subst, sym, ◌∙◌}
use Rattle.files_in_place.specs.Folder.{Folder, names_in}
use Rattle.files_in_place.specs.Recovery.{CanClean}
use Rattle.files_in_place.proofs.Ending.{listed_each, can_clean}
use Rattle.files_in_place.proofs.recovery.finish_listed.Goals as goal

pub finish-requires-clause-listed : goal.finish-requires-clause-listed
finish-requires-clause-listed g c promised = listed_each c.args.names.now (g.D.Disk.meaning.seen c.args.disk.now) (c.requires.listed promised)

pub returns-clause-can : goal.returns-clause-can
returns-clause-can g c promised =
    let m = g.D.Disk.meaning in
    let mid = m.seen c.finish.new.disk in
    let keeps = c.in_ok-finish.ensures.keeps promised in
    let can = c.in_ok-finish.ensures.can promised in
    subst (λ (f : Folder). CanClean f (m.may_leave c.sync_folder.new.self)) (sym c.sync_folder.ensures.only.seen)
    (can_clean c.args.names.now mid (m.may_leave c.sync_folder.new.self) (c.requires.listed promised ∙ ap names_in (sym keeps.list)) (c.in_ok-finish.ensures.done promised)
    (λ f now. can.list f (c.sync_folder.ensures.only.crash f now))
    (λ f now n none. c.in_ok-sync_folder.ensures.durable f now n (m.none_whole c.finish.new.disk n none)))
