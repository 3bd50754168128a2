use Rattle.std.proofs.Common.{Some}
use Rattle.table_maker.proofs.in_place.make_in_place.Given as goal

-- the disk that was just recovered
abbrev pub ghosts-make_recovered : goal.ghosts-make_recovered
ghosts-make_recovered g a = record { origin = Some a.disk }
