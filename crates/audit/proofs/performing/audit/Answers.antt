use Rattle.audit.proofs.AuditLaws.{at_first, audited_more, refuted_all, at_fault, early_fault, at_end, shorter, all_read, not_empty, err_exit}
use Rattle.audit.proofs.performing.audit.Goals as goal

pub loop-rest-init : goal.loop-rest-init
loop-rest-init c = at_first c.args.catalogue.now c.args.text.now c.requires.at_opening

pub loop-rest-preserved : goal.loop-rest-preserved
loop-rest-preserved c =
    audited_more _ _ _ _ _ _ c.loop-rest.invariant (not_empty c.loop-rest.rest.now c.is_empty.result c.is_empty.ensures c.loop-rest-test.true) c.in_ok-rest.ensures.holds c.in_ok-rest.ensures.continues

pub loop-rest-smaller : goal.loop-rest-smaller
loop-rest-smaller c = shorter _ _ _ c.in_ok-rest.ensures.holds.first.line

pub returns-in_err-rest-clause-refuted : goal.returns-in_err-rest-clause-refuted
returns-in_err-rest-clause-refuted c =
    err_exit _ _ c.from_residual.ensures.1
    (refuted_all _ _ _ _ c.in_err-rest.field-0.0 c.loop-rest.invariant (not_empty c.loop-rest.rest.now c.is_empty.result c.is_empty.ensures c.loop-rest-test.true) c.in_err-rest.ensures.refuted)

pub returns-in_err-rest-clause-fault : goal.returns-in_err-rest-clause-fault
returns-in_err-rest-clause-fault c =
    err_exit _ _ c.from_residual.ensures.1 (at_fault _ _ _ _ c.in_err-rest.field-0.0 c.loop-rest.invariant c.in_err-rest.ensures.fault)

pub returns-in_err-rest-clause-early : goal.returns-in_err-rest-clause-early
returns-in_err-rest-clause-early c =
    err_exit _ _ c.from_residual.ensures.1 (early_fault _ _ _ _ c.in_err-rest.field-0.0 c.loop-rest.invariant c.in_err-rest.ensures.fault)

pub returns-clause-opened : goal.returns-clause-opened
returns-clause-opened c = c.loop-rest.invariant.held.named

pub returns-clause-holds : goal.returns-clause-holds
returns-clause-holds c =
    at_end _ _ _ _ c.loop-rest.invariant (all_read c.loop-rest.rest.now c.is_empty.result c.is_empty.ensures c.loop-rest-test.false) c.journal.ensures.count_bounded
