use Rattle.station_lines.proofs.ScriptLaws.CuttingLaws.{some_lines}
use Rattle.setup_check.proofs.ScriptTextLaws.{bad_setup}
use Rattle.setup_check.proofs.scripts.bad_setup_text.Goals as goal

pub returns : goal.returns
returns c =
    let lines = some_lines c.args.setup.now in
    record {
      value = (
        lines.0,
        lines.1,
        bad_setup _ _ _ _ c.args.number c.line_at.result.now lines.0 _ c.new-text.ensures.items c.in_ok-append_words.ensures.ok c.in_ok-extend_from_slice.ensures.items
            c.in_ok-append_setup_reason.ensures.ok c.setup_line_reason.ensures.reason (c.line_at.ensures.value lines.0 lines.1),
      );
    }
