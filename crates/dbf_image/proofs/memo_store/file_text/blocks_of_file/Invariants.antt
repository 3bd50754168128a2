use Rattle.std.proofs.Common.{◌≡◌, ◌*◌, ◌≤◌, take}
use Rattle.dbf_image.specs.FileTexts.{blocks_of_file}
use Rattle.dbf_image.specs.declared.format.TheConstants.{MAX_MEMO_BLOCKS}
use Rattle.dbf_image.proofs.memo_store.file_text.blocks_of_file.Given as goal

abbrev pub invariant-loop-text : goal.invariant-loop-text
invariant-loop-text l = record {
  sum : l.blocks ≡ blocks_of_file (take l.text-index l.texts);
  bounded : l.blocks ≤ MAX_MEMO_BLOCKS * l.text-index;
}
