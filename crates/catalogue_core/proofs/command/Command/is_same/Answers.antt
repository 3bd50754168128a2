use Rattle.std.proofs.Common.{sym, ◌∙◌}
use Rattle.catalogue_core.proofs.SameCommands.{same_command}
use Rattle.catalogue_core.proofs.command.Command.is_same.Goals as goal

pub returns : goal.returns
returns c =
    let both = same_command c.args.self.now c.args.other.now in
    record { value = (λ h. both.0 (sym c.eq.ensures ∙ h), λ e. c.eq.ensures ∙ both.1 e) }
