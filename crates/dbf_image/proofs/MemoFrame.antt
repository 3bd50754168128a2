-- A chain stays where its blocks do.
use Rattle.std.proofs.Common.{◌≡◌, ℕ, zero, suc, ◌+◌, ◌<◌, ◌≤◌, List, [], ◌∷◌, ◌++◌, length, length-append, refl, ap, ap₂, sym, ◌∙◌, subst, add-one, append_assoc, arith}
use Rattle.dbf_image.specs.declared.format.TheConstants.{BLOCK}
use Rattle.dbf_image.specs.declared.memo_store.block.MemoBlock.{MemoBlock}
use Rattle.std.proofs.lemmas.List.{get_or_append_left, get_or_push, length_push}
use Rattle.dbf_image.specs.MemoChains.{no_block, block_at, text_from, IsChain, Alike, Gathers, Counts}

pub record Framed (o k : ℕ) (xs ys : List MemoBlock) (i : ℕ) : Type 0 where
  pub chain : IsChain o k ys i
  pub text : text_from k ys i ≡ text_from k xs i

pub alike : {b a : MemoBlock} → b ≡ a → Alike b a
alike e = record { piece = ap (λ (x : MemoBlock). x.piece.items) e; owner = ap (λ (x : MemoBlock). x.owner) e; count = ap (λ (x : MemoBlock). x.count) e; next = ap (λ (x : MemoBlock). x.next) e }

pub framed : (o k : ℕ) (xs ys : List MemoBlock) (i : ℕ) → length xs ≤ length ys → ((j : ℕ) → j < length xs → (block_at xs j).owner ≡ o → (block_at xs j).count ≤ k → Alike (block_at ys j) (block_at xs j)) → IsChain o k xs i → Framed o k xs ys i
framed o zero xs ys i le same c = record { chain = tt; text = refl }
framed o (suc k) xs ys i le same c =
    let at = same i c.0 c.1 (omega (arith, c.2)) in
    let rest = framed o k xs ys (block_at xs i).next le (λ j lt e n. same j lt e (omega (arith, n))) c.3 in
    record {
      chain = (omega (arith, c.0, le), at.owner ∙ c.1, at.count ∙ c.2, subst (λ n. IsChain o k ys n) (sym at.next) rest.chain);
      text = ap₂ (λ (p q : List ℕ). p ++ q) at.piece (ap (λ n. text_from k ys n) at.next ∙ rest.text);
    }

-- a free block pushed after the others, which links to the first free one
pub pushed : (k : ℕ) (xs ys : List MemoBlock) (head : ℕ) (b : MemoBlock) → ys ≡ xs ++ b ∷ [] → b.owner ≡ 0 → b.count ≡ k + 1 → b.next ≡ head → IsChain 0 k xs head → IsChain 0 (k + 1) ys (length xs)
pushed k xs ys head b e own count next c =
    let long : length ys ≡ length xs + 1 = ap length e ∙ length_push xs b in
    let at : block_at ys (length xs) ≡ b = ap (λ (l : List MemoBlock). block_at l (length xs)) e ∙ get_or_push xs b no_block (length xs) refl in
    let rest = framed 0 k xs ys head (omega (arith, long)) (λ j lt o n. alike (ap (λ (l : List MemoBlock). block_at l j) e ∙ get_or_append_left xs (b ∷ []) no_block j lt)) c in
    rw add-one (omega (arith, long), ap (λ (x : MemoBlock). x.owner) at ∙ own, ap (λ (x : MemoBlock). x.count) at ∙ count ∙ add-one k, subst (λ n. IsChain 0 k ys n) (sym (ap (λ (x : MemoBlock). x.next) at ∙ next)) rest.chain)

-- a chain stays where a block is pushed
pub still_chain : (k : ℕ) (xs : List MemoBlock) (head : ℕ) (b : MemoBlock) → IsChain 0 k xs head → IsChain 0 k (xs ++ b ∷ []) head
still_chain k xs head b c = (framed 0 k xs (xs ++ b ∷ []) head (omega (arith, length_push xs b)) (λ j lt o n. alike (get_or_append_left xs (b ∷ []) no_block j lt)) c).chain

-- one more piece is gathered
pub gathers_more : (k number count : ℕ) (bs : List MemoBlock) (head at : ℕ) (text more : List ℕ) → Gathers number count bs head (suc k) at text → more ≡ text ++ (block_at bs at).piece.items → Gathers number count bs head k (block_at bs at).next more
gathers_more k number count bs head at text more g e = record {
  chain = g.chain.3;
  whole = ap (λ t. t ++ text_from k bs (block_at bs at).next) e ∙ append_assoc text (block_at bs at).piece.items (text_from k bs (block_at bs at).next) ∙ g.whole;
}

-- the bytes of one more block are counted
pub counts_more : (k number count : ℕ) (bs : List MemoBlock) (head at counted more : ℕ) → Counts number count bs head (suc k) at counted → more ≡ length (block_at bs at).piece.items → more ≤ BLOCK → Counts number count bs head k (block_at bs at).next (counted + more)
counts_more k number count bs head at counted more c e fits = record {
  chain = c.chain.3;
  whole = omega (arith, c.whole, e, length-append (block_at bs at).piece.items (text_from k bs (block_at bs at).next));
  bounded = omega (arith, c.bounded, fits);
}

-- the next piece is a part of the whole text
pub piece_inside : (k number count : ℕ) (bs : List MemoBlock) (head at : ℕ) (text : List ℕ) → Gathers number count bs head (suc k) at text → length text + length (block_at bs at).piece.items ≤ length (text_from count bs head)
piece_inside k number count bs head at text g =
    let rest = text_from k bs (block_at bs at).next in
    omega (arith, ap length g.whole, length-append text ((block_at bs at).piece.items ++ rest), length-append (block_at bs at).piece.items rest)
