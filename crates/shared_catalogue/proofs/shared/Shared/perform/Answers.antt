use Rattle.std.proofs.Common.{length, ap, ◌∙◌, arith}
use Rattle.shared_catalogue.specs.RowLaws.{length-status_rows}
use Rattle.shared_catalogue.proofs.shared.Shared.perform.Goals as goal

pub returns-clause-full : goal.returns-clause-full
returns-clause-full g c stops =
    let met = c.perform.ensures.full stops in
    omega (arith, ap length met.1 ∙ length-status_rows _, met.0)
