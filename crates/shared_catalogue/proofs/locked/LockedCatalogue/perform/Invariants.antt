use Rattle.std.specs.Option.{unwrap_or}
use Rattle.catalogue_core.specs.Status.{last_entry}
use Rattle.shared_catalogue.specs.Board.{no_entry}
use Rattle.shared_catalogue.proofs.locked.LockedCatalogue.perform.Given as goal

-- the entry of the command that was just performed
abbrev pub ghosts-put_up : goal.ghosts-put_up
ghosts-put_up g a = record { entry = unwrap_or (last_entry a.catalogue.now.journal) no_entry }
