use Rattle.std.proofs.Common.{◌≡◌, false, rules}
use Rattle.tool_program.proofs.RunLaws.{answered_as, err_is, ok_not_err, setup_load_told}
use Rattle.tool_program.proofs.running.run_check.Goals as goal

pub returns-in-Ok-true-clause-early : goal.returns-in-Ok-true-clause-early
returns-in-Ok-true-clause-early g c = λ why h. absurd (ok_not_err c.check_setup.result _ _ c.in-Ok-true.is (c.check_setup.ensures.early why h))

pub returns-in-Ok-false-clause-early : goal.returns-in-Ok-false-clause-early
returns-in-Ok-false-clause-early g c = λ why h. absurd (ok_not_err c.check_setup.result _ _ c.in-Ok-false.is (c.check_setup.ensures.early why h))

pub returns-in-Err-clause-early : goal.returns-in-Err-clause-early
returns-in-Err-clause-early g c = λ why h.
    let same = err_is c.check_setup.result _ _ c.in-Err.is (c.check_setup.ensures.early why h) in
    setup_load_told c.in-Err.fault why c.args.options.now.setup.now _ c.not_checked.result same c.not_checked.ensures.fault c.not_checked.ensures.closed

pub returns-in-Ok-false-clause-answered : goal.returns-in-Ok-false-clause-answered
returns-in-Ok-false-clause-answered g c =
    let no : c.in-Ok-false.field-0 ≡ false = search rules in (
      answered_as c.check_setup.result _ _ _ c.in-Ok-false.is no c.check_setup.ensures.told,
      answered_as c.check_setup.result _ _ _ c.in-Ok-false.is no c.check_setup.ensures.opens,
    )
