use Rattle.std.proofs.Common.{◌≡◌, ◌∙◌, ◌++◌, ℕ, List, ap, inl, inr, subst, sym}
use Rattle.catalogue_core.specs.Replay.{History}
use Rattle.files_in_place.specs.Folder.{Folder}
use Rattle.folders.proofs.SinceLaws.{leaves_as}
use Rattle.live_day.specs.Days.{parts_of}
use Rattle.live_log.specs.Gates.{log_of}
use Rattle.live_program.specs.Lives.{IsFound}
use Rattle.live_program.proofs.FailureLaws.{err_failed}
use Rattle.live_program.proofs.LifeLaws.{begun_leaves, err_by, ok_both, ok_by, synced_left}
use Rattle.live_program.proofs.SayingLaws.{found_told, found_warned, start_said, start_warned, warned_alone}
use Rattle.live_program.proofs.life.begin_day.Goals as goal

pub returns-in-Ok-clause-found : goal.returns-in-Ok-clause-found
returns-in-Ok-clause-found g c promised =
    let files = g.S.Source.files c.args.source.now in
    let folder = g.D.Disk.meaning.seen c.args.disk in
    let both = ok_both c.begin_found.result _ _ (λ begun. (begun.earlier ≡ c.in-Ok.found.earlier) × (begun.day.log.head ≡ c.in-Ok.found.head)) (λ begun earlier head. (earlier, head)) c.begin_found.ensures.earlier c.begin_found.ensures.head in
    ok_both c.begin_found.result _ _ _ (λ begun history both.
    subst (λ (h : List ℕ). IsFound files c.args.options.now folder h begun.day.history begun.earlier) (sym both.1)
    (subst (λ (h : History). IsFound files c.args.options.now folder c.in-Ok.found.head h begun.earlier) (sym history)
    (subst (λ (n : ℕ). IsFound files c.args.options.now folder c.in-Ok.found.head c.in-Ok.found.catalogue n) (sym both.0) (c.in-Ok.ensures.found promised)))) c.begin_found.ensures.history both

pub returns-in-Ok-clause-tables : goal.returns-in-Ok-clause-tables
returns-in-Ok-clause-tables g c = ok_by c.begin_found.result _ _ (λ begun is. rw is c.in-Ok.ensures.tables) c.begin_found.ensures.history

pub returns-in-Ok-clause-stations : goal.returns-in-Ok-clause-stations
returns-in-Ok-clause-stations g c =
    ok_by c.begin_found.result _ _ (λ begun is. rw is c.in-Ok.ensures.stations) c.begin_found.ensures.history

pub returns-in-Ok-clause-others : goal.returns-in-Ok-clause-others
returns-in-Ok-clause-others g c promised =
    ok_by c.begin_found.result _ _ (λ begun others n free other. others n free other ∙ ap (λ (f : Folder). f n) c.find_day.ensures.seen) (c.begin_found.ensures.others promised)

pub returns-in-Ok-clause-any_moment : goal.returns-in-Ok-clause-any_moment
returns-in-Ok-clause-any_moment g c promised =
    let both = ok_both c.begin_found.result _ _ (λ begun. (begun.day.history ≡ c.in-Ok.found.catalogue) × (begun.day.log.head ≡ c.in-Ok.found.head)) (λ begun history head. (history, head)) c.begin_found.ensures.history c.begin_found.ensures.head in
    ok_both c.begin_found.result _ _ _ (λ begun is leaves.
    rw (is.0, is.1) (begun_leaves g.D.Disk.meaning c.args.disk c.find_day.new.disk begun.day.log.disk (c.in-Ok.found.head ++ log_of (parts_of c.in-Ok.found.catalogue.journal)) (c.requires.synced promised) (c.requires.clean promised) c.find_day.ensures.seen
    c.find_day.ensures.any_moment leaves)) both (c.begin_found.ensures.any_moment promised)

pub returns-in-Ok-clause-unbegun : goal.returns-in-Ok-clause-unbegun
returns-in-Ok-clause-unbegun g c promised =
    err_by c.begin_found.result _ _ (λ unbegun leaves.
    inr (
      c.in-Ok.found.head,
      c.in-Ok.found.catalogue,
      c.in-Ok.found.earlier,
      c.in-Ok.ensures.found promised,
      begun_leaves g.D.Disk.meaning c.args.disk c.find_day.new.disk unbegun.disk (c.in-Ok.found.head ++ log_of (parts_of c.in-Ok.found.catalogue.journal)) (c.requires.synced promised) (c.requires.clean promised) c.find_day.ensures.seen
          c.find_day.ensures.any_moment leaves,
    )) (c.begin_found.ensures.moment_of_fault promised)

pub returns-in-Err-clause-unbegun : goal.returns-in-Err-clause-unbegun
returns-in-Err-clause-unbegun g c promised =
    rw c.failed.ensures.disk (inl (leaves_as g.D.Disk.meaning c.args.disk c.find_day.new.disk (g.D.Disk.meaning.may_leave c.args.disk) _ c.find_day.ensures.any_moment
    (λ left may. synced_left g.D.Disk.meaning c.args.disk left (c.requires.synced promised) (c.requires.clean promised) may)))

pub returns-in-Ok-clause-fault : goal.returns-in-Ok-clause-fault
returns-in-Ok-clause-fault g c = err_by c.begin_found.result _ _ (λ unbegun why. (why.0, inr (inr (inl why.1)), why.2)) c.begin_found.ensures.fault

pub returns-in-Err-clause-refused : goal.returns-in-Err-clause-refused
returns-in-Err-clause-refused g c = err_failed c.failed.result.ended _ c.failed.ensures.ended

pub returns-in-Err-clause-fault : goal.returns-in-Err-clause-fault
returns-in-Err-clause-fault g c = (c.in-Err.why, c.in-Err.ensures.fault, c.failed.ensures.ended)

pub returns-in-Ok-clause-said : goal.returns-in-Ok-clause-said
returns-in-Ok-clause-said g c =
    start_said (g.S.Source.files c.args.source.now) c.args.options.now (g.E.Write.contents c.args.err.now) (g.E.Write.contents c.find_day.new.err) (g.E.Write.contents c.begin_found.new.err) c.in-Ok.found.catalogue c.in-Ok.found.earlier
    c.find_day.ensures.warned c.in-Ok.ensures.tables (rw c.in-Ok.ensures.said at c.begin_found.ensures.said)

pub returns-in-Err-clause-said : goal.returns-in-Err-clause-said
returns-in-Err-clause-said g c =
    start_warned (g.S.Source.files c.args.source.now) c.args.options.now (g.E.Write.contents c.args.err.now) (g.E.Write.contents c.find_day.new.err) c.find_day.ensures.warned

pub returns-in-Ok-clause-unsaid : goal.returns-in-Ok-clause-unsaid
returns-in-Ok-clause-unsaid g c =
    warned_alone c.begin_found.result (g.S.Source.files c.args.source.now) c.args.options.now.setup.now (g.E.Write.contents c.args.err.now) (g.E.Write.contents c.find_day.new.err) (g.E.Write.contents c.begin_found.new.err)
    c.find_day.ensures.warned c.begin_found.ensures.unsaid

pub returns-in-Ok-clause-told : goal.returns-in-Ok-clause-told
returns-in-Ok-clause-told g c promised =
    found_told (g.S.Source.files c.args.source.now) c.args.options.now (g.D.Disk.meaning.seen c.args.disk) (g.E.Write.contents c.args.err.now) (g.E.Write.contents c.find_day.new.err) (g.E.Write.contents c.begin_found.new.err)
    c.in-Ok.found.head c.in-Ok.found.catalogue c.in-Ok.found.earlier c.find_day.ensures.warned (c.in-Ok.ensures.found promised) (rw c.in-Ok.ensures.said at c.begin_found.ensures.said)

pub returns-in-Err-clause-told : goal.returns-in-Err-clause-told
returns-in-Err-clause-told g c promised =
    found_warned (g.S.Source.files c.args.source.now) c.args.options.now (g.D.Disk.meaning.seen c.args.disk) (g.E.Write.contents c.args.err.now) (g.E.Write.contents c.find_day.new.err) c.find_day.ensures.warned
