use Rattle.station_tests.proofs.tests.beside.look_beside.Given as goal

-- the tables that were just opened, and the ledger and the board of the lot that was just made
abbrev pub ghosts-look_beside_as-J-Naming : goal.ghosts-look_beside_as-J-Naming
ghosts-look_beside_as-J-Naming g a = record { opened = a.catalogue.opened; board = a.lot.board }

abbrev pub ghosts-look_beside_as-J-Ledger : goal.ghosts-look_beside_as-J-Ledger
ghosts-look_beside_as-J-Ledger g a = record { name = a.lot.ledger; parts = a.lot.parts }
