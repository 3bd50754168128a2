use Rattle.office_run.proofs.LoadLaws.{err_exit}
use Rattle.office_run.proofs.OpenedLaws.{opened_by, unread, unopened}
use Rattle.office_run.proofs.opening.open_setup.Goals as goal

pub returns-clause-opened : goal.returns-clause-opened
returns-clause-opened g c = opened_by _ _ _ _ _ c.in_ok-loaded.ensures.read c.in_ok-open_loaded.ensures.opened

pub returns-in_err-loaded-clause-fault : goal.returns-in_err-loaded-clause-fault
returns-in_err-loaded-clause-fault g c =
    err_exit _ _ c.from_residual.ensures.1 (unread _ _ _ _ c.in_err-loaded.ensures.fault)

pub returns-in_err-open_loaded-clause-fault : goal.returns-in_err-open_loaded-clause-fault
returns-in_err-open_loaded-clause-fault g c =
    err_exit _ _ c.from_residual-in_err-open_loaded.ensures.1 (unopened _ _ _ _ _ c.in_ok-loaded.ensures.read c.in_err-open_loaded.ensures.fault)
