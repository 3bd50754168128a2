-- The blocks of a store, as a finite map from numbers to the texts that they hold.
use Rattle.std.specs.Prelude.{◌≡◌, ℕ, zero, suc, ◌+◌, ◌<◌, ◌≤◌, List, [], ◌∷◌, length, Option, Some, None, vec_capacity}
use Rattle.std.specs.Ordering.{nat_cmp}
use Rattle.std.specs.Coded.{Coded, coded_ℕ, coded_list, coded×, code_by}
use Rattle.std.specs.FinMap as map
use Rattle.std.proofs.Common.{refl}
use Rattle.dbf_image.specs.declared.memo_store.block.MemoBlock.{MemoBlock}
use Rattle.dbf_image.specs.declared.memo_store.file_text.TheConstants.{FILE_TEXTS}
use Rattle.dbf_image.specs.declared.memo_store.text_blocks.TextBlocks.TheInside.{Inside}
use Rattle.dbf_image.specs.MemoChains.{IsChain, AreHeld, AreCounted, blocks_owned, text_at}
use Rattle.dbf_image.specs.MemoStore.{Texts, used_blocks}

-- with a text where there is one
abbrev pub with_text_entry : Option (List ℕ) → ℕ → List (ℕ × List ℕ) → List (ℕ × List ℕ)
with_text_entry None number es = es
with_text_entry (Some text) number es = (number, text) ∷ es

-- the texts of the first n numbers
abbrev pub entries_to : ℕ → List MemoBlock → List (ℕ × List ℕ)
entries_to zero bs = []
entries_to (suc n) bs = with_text_entry (text_at bs (suc n)) (suc n) (entries_to n bs)

-- the texts that stand in blocks, by their numbers, of which none is greater than the count of blocks
abbrev pub stored_texts : List MemoBlock → map.FinMap nat_cmp (List ℕ)
stored_texts bs = map.from_entries (entries_to (length bs) bs)

-- the texts that stand in blocks, and how many blocks the next text may have without memory being taken
pub record BlockTexts : Type 0 where
  pub texts : Texts
  pub spare : ℕ

-- all blocks: those of the texts, and the spare ones
abbrev pub block_total : BlockTexts → ℕ
block_total held = used_blocks held.texts + held.spare

-- as a pair
abbrev pub coded_blocks : Coded BlockTexts
coded_blocks = code_by (map.FinMap nat_cmp (List ℕ) × ℕ) (coded× (map.code coded_ℕ (coded_list coded_ℕ)) coded_ℕ) (λ m. (m.texts, m.spare)) (λ p. record { texts = p.0; spare = p.1 }) (λ _. refl)

abbrev pub blocks_view : Inside → BlockTexts
blocks_view x = record { texts = stored_texts x.blocks.items; spare = x.free.count + x.ready }

-- the free blocks are a chain, and so is each text; each block is in one of these chains; the room is there for the
-- blocks that may still be pushed
pub record IsTextBlocks (x : Inside) : Type 0 where
  pub free : IsChain 0 x.free.count x.blocks.items x.free.head
  pub all_free : x.free.count ≡ blocks_owned 0 x.blocks.items
  pub held : AreHeld x.blocks.items
  pub counted : AreCounted x.blocks.items
  pub count_bounded : x.free.count ≤ length x.blocks.items
  pub room : length x.blocks.items + x.ready ≤ vec_capacity x.blocks
  pub numbers : length x.blocks.items + x.ready < FILE_TEXTS
