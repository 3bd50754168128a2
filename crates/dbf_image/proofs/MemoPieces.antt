-- A text is put into a writer piece by piece.
use Rattle.std.proofs.Common.{◌≡◌, ℕ, suc, List, ◌++◌, ap, sym, ◌∙◌}
use Rattle.dbf_image.specs.declared.memo_store.block.MemoBlock.{MemoBlock}
use Rattle.dbf_image.specs.MemoChains.{block_at, text_from, IsChain}
use Rattle.byte_io.specs.Writer.{Wanted, more}
use Rattle.byte_io.specs.Laws.Puts.{more_then, more_nil}

-- what was put, and what is left to put
pub record Pours (number count : ℕ) (bs : List MemoBlock) (head left at : ℕ) (old now : Wanted) : Type 0 where
  pub chain : IsChain number left bs at
  pub whole : more now (text_from left bs at) ≡ more old (text_from count bs head)

-- one more piece is put
pub pours_more : (k number count : ℕ) (bs : List MemoBlock) (head at : ℕ) (old now then : Wanted) (piece : List ℕ) → Pours number count bs head (suc k) at old now → then ≡ more now piece → piece ≡ (block_at bs at).piece.items → Pours number count bs head k (block_at bs at).next old then
pours_more k number count bs head at old now then piece p e is =
    let rest = text_from k bs (block_at bs at).next in
    record {
      chain = p.chain.3;
      whole = ap (λ (w : Wanted). more w rest) e ∙ (more_then now piece rest ∙ (ap (λ (t : List ℕ). more now (t ++ rest)) is ∙ p.whole));
    }

-- the whole text was put
pub poured_all : (number count : ℕ) (bs : List MemoBlock) (head left at : ℕ) (old now : Wanted) → left ≡ 0 → Pours number count bs head left at old now → now ≡ more old (text_from count bs head)
poured_all number count bs head left at old now none p = sym (more_nil now) ∙ (ap (λ n. more now (text_from n bs at)) (sym none) ∙ p.whole)
