use Rattle.std.proofs.Common.{set, ap, ◌∙◌}
use Rattle.catalogue_core.specs.declared.status.TableStatus.{TableStatus}
use Rattle.catalogue_core.specs.Rooms.{seen}
use Rattle.catalogue_core.specs.Status.{table_status}
use Rattle.catalogue_core.proofs.StatusLaws.{statuses_more}
use Rattle.catalogue_core.proofs.state.State.table_statuses.Goals as goal

pub loop-index-preserved : goal.loop-index-preserved
loop-index-preserved c =
    let i = c.loop-index.index in
    let none : TableStatus = record { holder = 0; record_locks = 0 } in
    ap (λ t. set c.loop-index.statuses i t) c.table_status.ensures.value
    ∙ statuses_more (table_status (seen c.args.self.now)) i none c.loop-index.statuses c.loop-index-test.true c.loop-index.invariant
