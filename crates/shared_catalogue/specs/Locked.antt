-- What holds of what is under the lock.
use Rattle.std.specs.Prelude.{◌≡◌, ℕ, length}
use Rattle.atomic_table.specs.Seated.{TableId}
use Rattle.catalogue_core.specs.Replay.{Opened, History}
use Rattle.shared_catalogue.specs.declared.board.View.{View}
use Rattle.shared_catalogue.specs.Board.{writer_of, all_of}

-- the book has counted as many commands as the journal has entries, the opened tables are the named ones, no part of the
-- ledger is left over, and the writer's pass, which is of the named board, knows the rows of the journal and its entries
pub record IsLocked (opened : Opened) (named : TableId) (h : History) (total parts amount : ℕ) (board : TableId) (view : View) : Type 0 where
  pub counted : total ≡ length h.journal
  pub of_tables : h.opened ≡ opened
  pub no_part : parts ≡ 0
  pub no_amount : amount ≡ 0
  pub of_board : board ≡ named
  pub all : view ≡ writer_of (all_of h)
