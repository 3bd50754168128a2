use Rattle.std.proofs.Common.{◌∙◌}
use Rattle.audit.proofs.AuditLaws.{no_one_line, one_line_is, not_run, differ, other_line, is_line, on_err, keeping_means, run_means, made_anew}
use Rattle.audit.proofs.read.command_of.Goals as goal

pub returns-then-not-is_one_line-clause-none : goal.returns-then-not-is_one_line-clause-none
returns-then-not-is_one_line-clause-none c _ = no_one_line c.args.line.now c.is_one_line.result c.is_one_line.ensures.value c.if-not-is_one_line.true

pub returns-in_default-clause-none : goal.returns-in_default-clause-none
returns-in_default-clause-none c _ = not_run c.args.line.now c.in_ok-command.field-0 c.in_default.not-Run c.in_ok-command.ensures.one

pub returns-then-not-is_same-clause-none : goal.returns-then-not-is_same-clause-none
returns-then-not-is_same-clause-none c _ =
    other_line c.args.line.now c.as_slice.result.now c.in-Run.command
    (λ other m. c.in_ok-command.ensures.one other m ∙ c.in-Run.is)
    (c.as_slice.ensures.value ∙ made_anew _ _ _ c.clear.ensures.items c.in_ok-append_command.ensures.ok)
    (differ c.is_same.result c.as_slice.result.now c.args.line.now c.is_same.ensures.value c.if-not-is_same.true)

pub returns-clause-found : goal.returns-clause-found
returns-clause-found c =
    is_line c.args.line.now c.as_slice.result.now c.in-Run.command
    (one_line_is c.args.line.now c.is_one_line.result c.is_one_line.ensures.value c.if-not-is_one_line.false)
    (rw c.in-Run.is at c.in_ok-command.ensures.read)
    (c.as_slice.ensures.value ∙ made_anew _ _ _ c.clear.ensures.items c.in_ok-append_command.ensures.ok)
    (c.is_same.ensures.value.0 c.if-not-is_same.false)

pub returns-in_err-command-clause-early : goal.returns-in_err-command-clause-early
returns-in_err-command-clause-early c = on_err _ (keeping_means c.args.line.now (one_line_is c.args.line.now c.is_one_line.result c.is_one_line.ensures.value c.if-not-is_one_line.false) c.in_err-command.ensures.early)

pub returns-in_err-append_command-clause-early : goal.returns-in_err-append_command-clause-early
returns-in_err-append_command-clause-early c = on_err _ (run_means c.args.line.now c.in_ok-command.field-0 c.in-Run.command (one_line_is c.args.line.now c.is_one_line.result c.is_one_line.ensures.value c.if-not-is_one_line.false) c.in_ok-command.ensures.one c.in-Run.is)
