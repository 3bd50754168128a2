use Rattle.std.proofs.Common.{Some}
use Rattle.program_frame.proofs.in_place.run_in_place.Given as goal

-- the disk that was just recovered
abbrev pub ghosts-run_recovered : goal.ghosts-run_recovered
ghosts-run_recovered g a = record { origin = Some a.disk }
