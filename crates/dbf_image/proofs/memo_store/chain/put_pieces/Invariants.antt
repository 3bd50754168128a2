use Rattle.std.proofs.Common.{◌≡◌, ◌-◌}
use Rattle.dbf_image.specs.MemoChains.{block_at}
use Rattle.dbf_image.proofs.MemoPieces.{Pours}
use Rattle.dbf_image.proofs.memo_store.chain.put_pieces.Given as goal

abbrev pub invariant-put : goal.invariant-put
invariant-put g l =
    let head = l.number - 1 in
    record {
      same : l.out.sink.ghost_name ≡ l.fn.out.sink.ghost_name;
      poured : Pours l.number (block_at l.blocks head).count l.blocks head l.left l.at l.fn.out.wanted l.out.wanted;
    }

abbrev pub decreases-put : goal.decreases-put
decreases-put g l = l.left
