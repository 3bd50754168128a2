-- How many blocks are free.
use Rattle.std.proofs.Common.{◌≡◌, ◌≢◌, ℕ, zero, suc, ◌≤◌, true, false, List, [], ◌∷◌, length, set, length-set, if◌then◌else◌, ap, sym, ⊎_elim, true≢false, eq-eqb, ne_eqb, arith}
use Rattle.std.proofs.lemmas.Bool.{cases_eq}
use Rattle.std.proofs.lemmas.List.Sums.{sum_by-set, sum_by-cons}
use Rattle.std.specs.List.{sum_by}
use Rattle.dbf_image.specs.declared.memo_store.block.MemoBlock.{MemoBlock}
use Rattle.dbf_image.specs.MemoChains.{no_block, block_at, IsChain, is_kept, free_one}
use Rattle.dbf_image.proofs.MemoFrame.{framed, alike}
use Rattle.dbf_image.proofs.MemoFilling.{set_other}

pub one_free : (b : MemoBlock) → b.owner ≡ 0 → free_one b ≡ 1
one_free b e = ap (λ t. if t then 1 else 0) (eq-eqb b.owner 0 e)

pub none_free : (b : MemoBlock) → b.owner ≢ 0 → free_one b ≡ 0
none_free b ne = ap (λ t. if t then 1 else 0) (ne_eqb b.owner 0 ne)

pub kept_owned : (bs : List MemoBlock) (n : ℕ) → is_kept bs n ≡ true → n ≢ 0
kept_owned bs zero k e = true≢false (sym k)
kept_owned bs (suc n) k e = absurd (omega (arith, e))

-- a chain of free blocks has no more than there are
pub chain_counted : (k : ℕ) (bs : List MemoBlock) (i : ℕ) → IsChain 0 k bs i → k ≤ sum_by free_one bs
chain_counted zero bs i c = omega arith
chain_counted (suc k) bs i c =
    let taken : MemoBlock = record { piece = record { items = [] }; owner = 1; count = 0; next = 0; kept = false } in
    let ys = set bs i taken in
    let rest = (framed 0 k bs ys (block_at bs i).next (omega (arith, length-set bs i taken))
    (λ j lt o n. alike (set_other bs i j taken (λ same. absurd (omega (arith, n, ap (λ x. (block_at bs x).count) same, c.2)))))
    c.3).chain in
    omega (arith, chain_counted k ys (block_at bs i).next rest, sum_by-set free_one bs i taken no_block c.0, one_free (block_at bs i) c.1)

free_le : (x y : MemoBlock) → (x.owner ≡ 0 → y.owner ≡ 0) → free_one x ≤ free_one y
free_le x y h = ⊎_elim
    (λ e. omega (arith, one_free x e, one_free y (h e)))
    (λ ne. omega (arith, none_free x ne))
    (cases_eq x.owner 0)

-- where free blocks stay free, there are no fewer
pub counted_le : (xs ys : List MemoBlock) → length ys ≡ length xs → ((j : ℕ) → (block_at xs j).owner ≡ 0 → (block_at ys j).owner ≡ 0) → sum_by free_one xs ≤ sum_by free_one ys
counted_le [] ys e h = omega arith
counted_le (x ∷ xs) [] e h = absurd (omega (arith, e))
counted_le (x ∷ xs) (y ∷ ys) e h =
    omega (arith, counted_le xs ys (omega (arith, e)) (λ j. h (suc j)), free_le x y (h zero), sum_by-cons free_one x xs, sum_by-cons free_one y ys)
