use Rattle.std.proofs.Common.{◌∷◌, ◌∙◌, ◌≡◌, [], Err, List, ap, inl, inr, subst}
use Rattle.std.specs.Prelude.{IfOk}
use Rattle.folders.specs.Paths.{folder_of_path}
use Rattle.folders.specs.declared.named.NamedFile.{NamedFile}
use Rattle.program_frame.proofs.BesideDay.{asked_day, put_without_day}
use Rattle.live_program.specs.Marks.{mark_file, IsMarkPut}
use Rattle.live_program.specs.OtherDays.{others_answer}
use Rattle.live_program.proofs.MarksLaws.{day_told, open_as, refused_as, unopened_not_open}
use Rattle.live_program.proofs.marks.put_mark.Goals as goal

pub returns-in-Ok-ended-clause-put : goal.returns-in-Ok-ended-clause-put
returns-in-Ok-ended-clause-put g c =
    let m = g.Y.Disk.Disk.meaning in
    let beside = c.args.others.now.beside.now in
    let answers = others_answer (g.Y.Beside.answers beside) (g.Y.Beside.lies beside) c.args.others.now.out.now in
    let opens = g.Y.Places.opens beside (folder_of_path c.args.path.now) in
    subst (λ r. IfOk r (λ _. IsMarkPut m answers opens c.args.log.now)) c.in-Ok-ended.is
    (put_without_day m answers opens (λ report (files : List NamedFile). files ≡ mark_file c.args.log.now ∷ []) _ c.in-Ok.disk c.run_in_place-ended.result.disk c.run_in_place-ended.result.ended
    (rw c.folder_of.ensures.value at c.in-Ok.ensures.opened) c.run_in_place-ended.ensures.refused c.run_in_place-ended.ensures.unmarked c.run_in_place-ended.ensures.ends.placed)

pub returns-in-Err-clause-open_day : goal.returns-in-Err-clause-open_day
returns-in-Err-clause-open_day g c told = absurd (unopened_not_open c.in-Err.why c.in-Err.ensures.fault (open_as c.args.path.now c.in-Err.why c.unmarked.result c.unmarked.ensures.value (day_told c.unmarked.result _ told)))

pub returns-in-Err-clause-refused : goal.returns-in-Err-clause-refused
returns-in-Err-clause-refused g c = refused_as c.args.path.now c.in-Err.why c.unmarked.result c.unmarked.ensures.value

pub returns-clause-open_day : goal.returns-clause-open_day
returns-clause-open_day g c told =
    let m = g.Y.Disk.Disk.meaning in
    let beside = c.args.others.now.beside.now in
    let answers = others_answer (g.Y.Beside.answers beside) (g.Y.Beside.lies beside) c.args.others.now.out.now in
    let opens = g.Y.Places.opens beside (folder_of_path c.args.path.now) in
    let why = c.in-Err-ended.why in
    elim (asked_day m answers opens _ c.in-Ok.disk c.run_in_place-ended.result.disk (rw c.folder_of.ensures.value at c.in-Ok.ensures.opened)
    (c.run_in_place-ended.ensures.open_day (c.in-Err-ended.is ∙ ap Err (open_as c.args.path.now why c.unmarked-in-Err-ended.result c.unmarked-in-Err-ended.ensures.value
    (day_told c.unmarked-in-Err-ended.result _ told))))) [
      | inl has ↦ has
      | inr none ↦ absurd cc
    ]
