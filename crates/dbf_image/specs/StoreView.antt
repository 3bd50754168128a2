-- What a store keeps: texts in the bytes of a file, and others in blocks.
use Rattle.std.specs.Prelude.{◌≡◌, ◌-◌, ◌*◌, ◌^◌, ◌≤◌, length, None}
use Rattle.std.specs.List.{AllByRecursion}
use Rattle.dbf_image.specs.declared.memo_store.file_text.TheConstants.{FILE_TEXTS}
use Rattle.dbf_image.specs.declared.memo_store.MemoStore.TheInside.{Inside}
use Rattle.dbf_image.specs.declared.format.TheConstants.{BLOCK}
use Rattle.dbf_image.specs.FileTexts.{with_file_texts, blocks_of_file, IsInFile, AreBelow}
use Rattle.dbf_image.specs.MemoStore.{Memos, get_text}

-- the room for the texts of the file, should they be dropped, isn't spare
abbrev pub memos_view : Inside → Memos
memos_view x = record { texts = with_file_texts x.file.items FILE_TEXTS x.texts.items x.blocks.texts; spare = BLOCK * (x.blocks.spare - x.held) }

-- each text of the file stands in it, and no text in blocks has a number of theirs, or 0; there is room for `held` blocks, as
-- many as they would take
pub record IsMemoStore (x : Inside) : Type 0 where
  pub inside : AllByRecursion (IsInFile x.file.items) x.texts.items
  pub few : length x.texts.items ≤ FILE_TEXTS
  pub below : AreBelow FILE_TEXTS x.blocks.texts
  pub no_zero : get_text x.blocks.texts 0 ≡ None
  pub held : x.held ≡ blocks_of_file x.texts.items
  pub held_bounded : x.held ≤ 2 ^ 40
  pub room : x.held ≤ x.blocks.spare
