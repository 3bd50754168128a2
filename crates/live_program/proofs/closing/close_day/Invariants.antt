use Rattle.std.proofs.Common.{Some}
use Rattle.live_program.proofs.closing.close_day.Given as goal

abbrev pub ghosts-close_into : goal.ghosts-close_into
ghosts-close_into g a = record { origin = Some a.disk }
