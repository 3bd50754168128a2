use Rattle.scarce_tests.proofs.tests.shared.stops.Given as goal

-- the tables that were just opened, and the ledger and the board of the lot that was just made
abbrev pub ghosts-stops_as-J-Naming : goal.ghosts-stops_as-J-Naming
ghosts-stops_as-J-Naming g a = record { opened = a.catalogue.opened; board = a.lot.board }

abbrev pub ghosts-stops_as-J-Ledger : goal.ghosts-stops_as-J-Ledger
ghosts-stops_as-J-Ledger g a = record { name = a.lot.ledger; parts = a.lot.parts }
