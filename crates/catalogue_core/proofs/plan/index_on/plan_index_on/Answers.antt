use Rattle.catalogue_core.specs.Rooms.{seen}
use Rattle.catalogue_core.proofs.Cases.{err_exit}
use Rattle.catalogue_core.proofs.IndexOnLaws.{early_passed}
use Rattle.catalogue_core.proofs.plan.index_on.plan_index_on.Goals as goal

pub returns-in_err-copy-clause-refused : goal.returns-in_err-copy-clause-refused
returns-in_err-copy-clause-refused c =
    err_exit _ _ c.from_residual-in_err-copy.ensures.1 (early_passed (seen c.args.state.now) c.args.station c.args.text.now c.args.name.now _ c.in_ok-area.ensures.made)

pub returns-in_err-index-clause-refused : goal.returns-in_err-index-clause-refused
returns-in_err-index-clause-refused c =
    err_exit _ _ c.from_residual-in_err-index.ensures.1 (early_passed (seen c.args.state.now) c.args.station c.args.text.now c.args.name.now _ c.in_ok-area.ensures.made)
