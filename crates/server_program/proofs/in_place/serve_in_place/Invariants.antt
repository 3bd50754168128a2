use Rattle.std.proofs.Common.{Some}
use Rattle.server_program.proofs.in_place.serve_in_place.Given as goal

-- the disk that was just recovered
abbrev pub ghosts-serve_recovered : goal.ghosts-serve_recovered
ghosts-serve_recovered g a = record { origin = Some a.disk }
