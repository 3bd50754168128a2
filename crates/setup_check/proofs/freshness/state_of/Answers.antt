use Rattle.setup_check.proofs.FindingLaws.{read_state}
use Rattle.setup_check.proofs.freshness.state_of.Goals as goal

pub returns : goal.returns
returns c =
    let read = rw (c.as_slice.ensures.value, c.schema.ensures.value) at c.in-Ok.ensures.read in
    record { state = read_state c.args.records.now.table c.args.file.now c.in-Ok.expr.expr c.state_with.result read c.state_with.ensures.state }
