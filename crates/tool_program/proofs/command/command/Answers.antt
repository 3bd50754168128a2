use Rattle.std.proofs.Common.{refl}
use Rattle.std.proofs.lemmas.Result.{IfOk-weaker}
use Rattle.tool_program.specs.Command.{answers_app, check_app, csv_app, diff_app, fields_app, index_app, load_app, make_app, show_app}
use Rattle.tool_program.proofs.Commands.{added}
use Rattle.tool_program.proofs.command.command.Goals as goal

pub returns : goal.returns
returns c =
    let one = added _ _ _ _ show_app c.in_ok-subcommand.ensures c.bare_command.ensures.app c.in_ok-show_command.ensures.app refl in
    let two = added _ _ _ _ fields_app c.in_ok-subcommand-2.ensures one c.in_ok-fields_command.ensures.app refl in
    let three = added _ _ _ _ csv_app c.in_ok-subcommand-3.ensures two c.in_ok-csv_command.ensures.app refl in
    let four = added _ _ _ _ check_app c.in_ok-subcommand-4.ensures three c.in_ok-check_command.ensures.app refl in
    let five = added _ _ _ _ make_app c.in_ok-subcommand-5.ensures four c.in_ok-make_command.ensures.app refl in
    let six = added _ _ _ _ load_app c.in_ok-subcommand-6.ensures five c.in_ok-load_command.ensures.app refl in
    let seven = added _ _ _ _ index_app c.in_ok-subcommand-7.ensures six c.in_ok-index_command.ensures.app refl in
    let eight = added _ _ _ _ diff_app c.in_ok-subcommand-8.ensures seven c.in_ok-diff_command.ensures.app refl in
    record { app = IfOk-weaker c.subcommand-9.result _ _ (λ r h. added _ _ r _ answers_app h eight c.in_ok-answers_command.ensures.app refl) c.subcommand-9.ensures }
