use Rattle.station_lines.proofs.ScriptLaws.CuttingLaws.{some_lines}
use Rattle.setup_check.proofs.scripts.text_of.Goals as goal

pub returns : goal.returns
returns c =
    let lines = some_lines c.args.script.now in
    record { value = (lines.0, lines.1, rw c.new-text.ensures.items at (c.in_ok-append_script.ensures.ok lines.0 lines.1)) }
