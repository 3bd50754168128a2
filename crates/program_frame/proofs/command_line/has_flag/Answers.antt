use Rattle.std.proofs.Common.{◌∙◌, inl, inr}
use Rattle.clap.specs.Words.{found_of}
use Rattle.program_frame.proofs.Options.{read_row}
use Rattle.program_frame.proofs.command_line.has_flag.Goals as goal

pub returns : goal.returns
returns c =
    let read = read_row (found_of c.args.matches.now) c.args.name.now in
    record {
      flag = record {
        set = λ e. c.get_flag.ensures.value (read ∙ e);
        unset = λ h. elim h [
          | inl e ↦ c.get_flag.ensures.none (read ∙ e)
          | inr e ↦ c.get_flag.ensures.other (read ∙ e)
        ];
      };
    }
