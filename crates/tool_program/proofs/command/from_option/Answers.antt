use Rattle.std.proofs.Common.{◌≡◌, rules, codes, Some}
use Rattle.std.proofs.lemmas.Result.{IfOk-weaker}
use Rattle.clap.specs.Words.{rule_of}
use Rattle.clap.specs.declared.builder.value_parser.ValueParser.TheVariants.{String}
use Rattle.program_frame.specs.CommandLine.{option_rule}
use Rattle.program_frame.specs.Laws.CommandLines.{wants_another}
use Rattle.tool_program.proofs.command.from_option.Goals as goal

pub returns-clause-rule : goal.returns-clause-rule
returns-clause-rule c =
    let read : rule_of c.value_parser.result ≡ record (option_rule (codes "from")) { parser = Some String } = search rules in
    IfOk-weaker c.requires_arg.result _ _ (λ r h. wants_another _ r c.value_parser.result _ h.0 h.1 read) c.requires_arg.ensures
