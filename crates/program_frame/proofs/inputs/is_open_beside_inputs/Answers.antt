use Rattle.program_frame.proofs.InputDays.{inputs_found}
use Rattle.program_frame.proofs.inputs.is_open_beside_inputs.Goals as goal

pub returns-clause-found : goal.returns-clause-found
returns-clause-found g c =
    inputs_found (g.Y.Beside.answers c.args.system.now) c.args.setup.now c.args.entries.now c.in_ok-is_open_beside.field-0 c.is_open_beside_entries.result c.in_ok-is_open_beside.ensures.found c.if-branch.false
    c.is_open_beside_entries.ensures.found
