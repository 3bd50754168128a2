use Rattle.std.proofs.Common.{inl, inr, rules}
use Rattle.files_in_place.proofs.system_file.SystemFile.create.Goals as goal
use Rattle.files_in_place.proofs.system_file.SystemFile.create.Goals.{in-Some+in_ok-hand_over, in_default}

pub returns-in_err-replaced-clause-failed : goal.returns-in_err-replaced-clause-failed
returns-in_err-replaced-clause-failed g c is = c.in_err-replaced.ensures.failed (search rules)

pub returns-clause-mode : goal.returns-clause-mode
returns-clause-mode g c =
    elim c.match-replaced.branch [
      | in-Some+in_ok-hand_over w ↦
          inr (w.in-Some.replaced.file, rw w.in-Some.is at c.in_ok-replaced.ensures.found, w.in_ok-hand_over.ensures.mode)
      | in_default w ↦ inl (search (rules, c.in_ok-replaced.ensures.none))
    ]
