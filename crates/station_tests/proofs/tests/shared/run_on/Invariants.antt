use Rattle.station_tests.proofs.tests.shared.run_on.Given as goal

-- the tables that were just opened, and the ledger and the board of the lot that was just made
abbrev pub ghosts-run_as-J-Naming : goal.ghosts-run_as-J-Naming
ghosts-run_as-J-Naming g a = record { opened = a.catalogue.opened; board = a.lot.board }

abbrev pub ghosts-run_as-J-Ledger : goal.ghosts-run_as-J-Ledger
ghosts-run_as-J-Ledger g a = record { name = a.lot.ledger; parts = a.lot.parts }
