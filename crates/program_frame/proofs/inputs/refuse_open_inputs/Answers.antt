use Rattle.std.proofs.Common.{◌≡◌, false}
use Rattle.program_frame.proofs.InputDays.{no_input_found}
use Rattle.program_frame.proofs.inputs.refuse_open_inputs.Goals as goal

pub returns-in-Ok-false-clause-closed : goal.returns-in-Ok-false-clause-closed
returns-in-Ok-false-clause-closed g c =
    let test = c.in-Ok-false.field-0-test in
    let closed : c.in-Ok-false.field-0 ≡ false = cc in
    no_input_found (g.Y.Beside.answers c.args.system.now) (g.S.Source.files c.args.source.now) c.args.setup.now c.in-Ok.entries.items c.in-Ok-false.field-0
    (rw c.as_bytes-setup.ensures.value at c.in-Ok.ensures.said) closed
    (rw (c.as_bytes-setup.ensures.value, c.deref.ensures.value) at c.in-Ok-false.ensures.found)
