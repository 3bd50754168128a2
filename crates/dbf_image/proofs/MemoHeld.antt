-- Where a store keeps the text with a number.
use Rattle.std.proofs.Common.{◌≡◌, IsSome, Option, List, ℕ, [], ◌-◌, ap, sym, subst, ◌∙◌}
use Rattle.std.specs.Prelude.{unwrap_or}
use Rattle.std.specs.FinMap as map
use Rattle.dbf_image.specs.declared.memo_store.block.MemoBlock.{MemoBlock}
use Rattle.dbf_image.specs.declared.memo_store.text_blocks.TextBlocks.TheInside.{Inside}
use Rattle.dbf_image.specs.TextBlocks.{BlockTexts, IsTextBlocks, blocks_view}
use Rattle.dbf_image.specs.MemoChains.{block_at, text_at, text_from, AreHeld}
use Rattle.dbf_image.proofs.MemoTexts.{Found, text_found, get_texts}

-- what the map has at a number, by the blocks as a slice
pub held_at : (x : Inside) (v : BlockTexts) (bs : List MemoBlock) (n : ℕ) → blocks_view x ≡ v → bs ≡ x.blocks.items → map.get v.texts n ≡ text_at bs n
held_at x v bs n e is = ap (λ (w : BlockTexts). map.get w.texts n) (sym e) ∙ get_texts x.blocks.items n ∙ ap (λ l. text_at l n) (sym is)

pub held_found : (x : Inside) (v : BlockTexts) (bs : List MemoBlock) (n : ℕ) → blocks_view x ≡ v → bs ≡ x.blocks.items → IsTextBlocks x → IsSome (map.get v.texts n) → Found bs n
held_found x v bs n e is s some = text_found bs n (subst (λ l. AreHeld l) (sym is) s.held) (subst (λ (o : Option (List ℕ)). IsSome o) (held_at x v bs n e is) some)

-- the text itself
pub held_text : (x : Inside) (v : BlockTexts) (bs : List MemoBlock) (n : ℕ) → blocks_view x ≡ v → bs ≡ x.blocks.items → IsTextBlocks x → IsSome (map.get v.texts n) → text_from (block_at bs (n - 1)).count bs (n - 1) ≡ unwrap_or (map.get v.texts n) []
held_text x v bs n e is s some = ap (λ (o : Option (List ℕ)). unwrap_or o []) (sym (held_found x v bs n e is s some).is ∙ sym (held_at x v bs n e is))
