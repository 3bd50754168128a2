-- A catalogue keeps nothing of the thread that made it, so it may go to another, and threads may share it under its lock,
-- with the board beside it. One fact a type, the lowest first.
use mathlib.Core.List.{[], ◌∷◌}
use mir.Syntax.{Sym}
use denote.RattleType.{RattleType}
use denote.Builtin.{u16}
use denote.Struct.Declared.{shape}
use denote.Struct.Field.{usize-field, u16-field}
use denote.Struct.Tuple.{TupleAt, type_at}
use denote.Param.Send.{IsSend, IsSync, recorded_send, struct_send, sendable}
use Rattle.std.proofs.Crossing.{crosses, Box-send}
use Rattle.std.specs.contracts.option.Option
use Rattle.std.specs.declared.sync.ledger.Ledger
use Rattle.std.proofs.sync.ledger.Book.TheSendSync as book
use Rattle.std.proofs.sync.ledger.Share.TheSendSync as share
use Rattle.atomic_table.proofs.shared.Seat.TheSendSync as pass
use Rattle.atomic_table.proofs.shared.Shared.TheSendSync as table
use Rattle.atomic_table.proofs.send_lease.SendLease.TheSendSync as lease
use Rattle.byte_io.proofs.bytes.Bytes.TheSendSync as bytes
use Rattle.dbf_fields.proofs.schema.Schema.TheSendSync as schema
use Rattle.dbf_image.proofs.table.growing.GrowingTable.TheSendSync as growing
use Rattle.dbf_image.proofs.table.TableData.TheSendSync as table_data
use Rattle.key_expr.proofs.tree.Tree.TheLaws.TheKnot.{send-Tree}
use Rattle.key_expr.specs.contracts.tree.Tree
use Rattle.key_expr.specs.contracts.expr.KeyExpr
use Rattle.ndx_index.proofs.index.OrderedIndex.TheSendSync as order
use Rattle.table_core.specs.contracts.indexes.TableIndex
use Rattle.table_core.specs.contracts.table.Table
use Rattle.lock_table.proofs.locks.Locks.TheSendSync as locks
use Rattle.catalogue_core.proofs.names.Names.TheSendSync as names
use Rattle.catalogue_core.proofs.stations.Stations.TheSendSync as stations
use Rattle.catalogue_core.proofs.entry.Entry.TheSendSync as entry
use Rattle.catalogue_core.specs.contracts.kept_table.KeptTable
use Rattle.catalogue_core.specs.contracts.state.State
use Rattle.catalogue_core.specs.contracts.catalogue.Catalogue
use Rattle.shared_catalogue.specs.contracts.locked.LockedCatalogue
use Rattle.shared_catalogue.specs.contracts.shared.Shared
use Rattle.shared_catalogue.specs.declared.lot.Naming

size_send : IsSend usize-field.row
size_send = search sendable

short_send : IsSend u16-field.row
short_send = search sendable

option_send : IsSend (Option.the_field u16).row
option_send = search sendable

tree_send : IsSend Tree.the_field.row
tree_send = send-Tree size_send Box-send short_send option_send

expr_send : IsSend KeyExpr.the_row
expr_send = search (sendable, crosses, schema.the_send, tree_send) depth 20

index_send : IsSend TableIndex.the_row
index_send = search (sendable, crosses, bytes.the_send, expr_send, order.the_send) depth 20

table_send : IsSend Table.the_row
table_send = search (sendable, crosses, growing.the_send, index_send) depth 20

state_send : IsSend State.the_row
state_send = search (sendable, crosses, names.the_send, table_send, locks.the_send, stations.the_send) depth 20

kept_send : IsSend KeptTable.the_row
kept_send = search (sendable, crosses, bytes.the_send, table_data.the_send, expr_send) depth 20

catalogue_send : IsSend Catalogue.the_row
catalogue_send = search (sendable, crosses, kept_send, state_send, entry.the_send) depth 20

module _ (J : RattleType) (n : Naming.Ghosts J.Denot) (l : Ledger.Ghosts J.Denot) where
  locked_send : IsSend (LockedCatalogue.the_row J n l)
  locked_send = search (sendable, crosses, catalogue_send, book.the_send, share.the_send, pass.the_send) depth 20

  pub shared_sync : IsSync (Shared.the_row J n l)
  shared_sync = search (sendable, crosses, locked_send, table.the_sync, lease.the_sync) depth 20

-- a closure, by the four values that it takes with it
pub closure_send : (ν : Sym) (A B C D : RattleType) → IsSend A → IsSend B → IsSend C → IsSend D → IsSend (TupleAt ν (A ∷ B ∷ C ∷ D ∷ []))
closure_send ν A B C D a b c d =
    let T = type_at ν (A ∷ B ∷ C ∷ D ∷ []) in
    recorded_send _ _ _ T.to_one (struct_send (shape T) (a, (b, (c, (d, tt)))))
