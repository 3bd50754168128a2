use Rattle.dbf_image.proofs.Packing.{Packs}
use Rattle.dbf_image.proofs.table.packing.keep_records.Given as goal

abbrev pub invariant-loop-index : goal.invariant-loop-index
invariant-loop-index l = Packs l.schema l.count l.index l.kept l.initial.records.items l.records.items l.initial.memos.items l.memos.items
