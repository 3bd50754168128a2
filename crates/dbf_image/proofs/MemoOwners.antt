-- How many blocks have an owner.
use Rattle.std.proofs.Common.{◌≡◌, ◌≢◌, ℕ, zero, suc, ◌+◌, ◌<◌, ◌≤◌, cond, eqb, leb, List, [], ◌∷◌, length, set, refl, ap, sym, ◌∙◌, ⊎_elim, eq-eqb, ne_eqb, arith}
use Rattle.std.proofs.lemmas.Bool.{cases_eq, cases_lt, le-leb, lt-leb}
use Rattle.std.proofs.lemmas.List.Sums.{sum_by-cons, sum_by-set, get_or-le-sum_by}
use Rattle.std.specs.List.{count_by}
use Rattle.dbf_image.specs.declared.memo_store.block.MemoBlock.{MemoBlock}
use Rattle.dbf_image.specs.MemoChains.{no_block, block_at, blocks_owned, Grown}

-- 1 where the block has the owner
abbrev pub one_of : ℕ → MemoBlock → ℕ
one_of q b = cond (eqb b.owner q) 1 0

pub one_is : (q : ℕ) (b : MemoBlock) → b.owner ≡ q → one_of q b ≡ 1
one_is q b e = ap (λ t. cond t 1 0) (eq-eqb b.owner q e)

pub one_not : (q : ℕ) (b : MemoBlock) → b.owner ≢ q → one_of q b ≡ 0
one_not q b ne = ap (λ t. cond t 1 0) (ne_eqb b.owner q ne)

same_one : (q : ℕ) (x y : MemoBlock) → (x.owner ≡ q → y.owner ≡ q) → (y.owner ≡ q → x.owner ≡ q) → one_of q y ≡ one_of q x
same_one q x y f g = ⊎_elim
    (λ e. one_is q y (f e) ∙ sym (one_is q x e))
    (λ ne. one_not q y (λ e. ne (g e)) ∙ sym (one_not q x ne))
    (cases_eq x.owner q)

-- one block is set
pub owned_set : (q : ℕ) (bs : List MemoBlock) (i : ℕ) (b : MemoBlock) → i < length bs → blocks_owned q (set bs i b) + one_of q (block_at bs i) ≡ blocks_owned q bs + one_of q b
owned_set q bs i b lt = sum_by-set (one_of q) bs i b no_block lt

-- where the same blocks have the owner
pub owned_same : (q : ℕ) (xs ys : List MemoBlock) → length ys ≡ length xs → ((j : ℕ) → (block_at xs j).owner ≡ q → (block_at ys j).owner ≡ q) → ((j : ℕ) → (block_at ys j).owner ≡ q → (block_at xs j).owner ≡ q) → blocks_owned q ys ≡ blocks_owned q xs
owned_same q [] [] e f g = refl
owned_same q [] (y ∷ ys) e f g = absurd (omega (arith, e))
owned_same q (x ∷ xs) [] e f g = absurd (omega (arith, e))
owned_same q (x ∷ xs) (y ∷ ys) e f g =
    omega (arith, owned_same q xs ys (omega (arith, e)) (λ j. f (suc j)) (λ j. g (suc j)), same_one q x y (f zero) (g zero), sum_by-cons (one_of q) x xs, sum_by-cons (one_of q) y ys)

-- an owner that no block has
pub owned_none : (q : ℕ) (bs : List MemoBlock) → ((j : ℕ) → j < length bs → (block_at bs j).owner ≢ q) → blocks_owned q bs ≡ 0
owned_none q [] h = refl
owned_none q (b ∷ bs) h =
    omega (arith, owned_none q bs (λ j lt. h (suc j) (omega (arith, lt))), one_not q b (h zero (omega arith)), sum_by-cons (one_of q) b bs)

-- one that a block has
pub owned_some : (q : ℕ) (bs : List MemoBlock) (j : ℕ) → j < length bs → (block_at bs j).owner ≡ q → 0 < blocks_owned q bs
owned_some q bs j lt e = omega (arith, get_or-le-sum_by (one_of q) bs j no_block lt, one_is q (block_at bs j) e)

-- ---- free blocks were put behind the others

grown_tail : (x y : MemoBlock) (xs ys : List MemoBlock) → Grown (x ∷ xs) (y ∷ ys) → Grown xs ys
grown_tail x y xs ys g = record {
  longer = omega (arith, g.longer);
  stay = λ j lt. g.stay (suc j) (omega (arith, lt));
  free = λ j le. g.free (suc j) (omega (arith, le));
}

all_free : (bs : List MemoBlock) → ((j : ℕ) → (block_at bs j).owner ≡ 0) → blocks_owned 0 bs ≡ length bs
all_free [] h = refl
all_free (b ∷ bs) h = omega (arith, all_free bs (λ j. h (suc j)), one_is 0 b (h zero), sum_by-cons (one_of 0) b bs)

pub grown_free : (xs ys : List MemoBlock) → Grown xs ys → blocks_owned 0 ys + length xs ≡ blocks_owned 0 xs + length ys
grown_free [] ys g = omega (arith, all_free ys (λ j. g.free j (omega arith)))
grown_free (x ∷ xs) [] g = absurd (omega (arith, g.longer))
grown_free (x ∷ xs) (y ∷ ys) g =
    let here : one_of 0 y ≡ one_of 0 x = ap (one_of 0) (g.stay zero (omega arith)) in
    omega (arith, grown_free xs ys (grown_tail x y xs ys g), here, sum_by-cons (one_of 0) x xs, sum_by-cons (one_of 0) y ys)

pub grown_owned : (q : ℕ) (xs ys : List MemoBlock) → q ≢ 0 → Grown xs ys → blocks_owned q ys ≡ blocks_owned q xs
grown_owned q [] ys some g = owned_none q ys (λ j lt e. some (sym e ∙ g.free j (omega arith)))
grown_owned q (x ∷ xs) [] some g = absurd (omega (arith, g.longer))
grown_owned q (x ∷ xs) (y ∷ ys) some g =
    let here : one_of q y ≡ one_of q x = ap (one_of q) (g.stay zero (omega arith)) in
    omega (arith, grown_owned q xs ys some (grown_tail x y xs ys g), here, sum_by-cons (one_of q) x xs, sum_by-cons (one_of q) y ys)

-- ---- all owners up to a number

abbrev at_most : ℕ → MemoBlock → ℕ
at_most n b = cond (leb b.owner n) 1 0

-- how many blocks have an owner up to n
abbrev pub owned_to : ℕ → List MemoBlock → ℕ
owned_to n bs = count_by (λ b. leb b.owner n) bs

most_is : (n : ℕ) (b : MemoBlock) → b.owner ≤ n → at_most n b ≡ 1
most_is n b le = ap (λ t. cond t 1 0) (le-leb b.owner n le)

most_not : (n : ℕ) (b : MemoBlock) → n < b.owner → at_most n b ≡ 0
most_not n b lt = ap (λ t. cond t 1 0) (lt-leb b.owner n lt)

one_next : (n : ℕ) (b : MemoBlock) → at_most (suc n) b ≡ at_most n b + one_of (suc n) b
one_next n b = ⊎_elim
    (λ e. omega (arith, most_is (suc n) b (omega (arith, e)), most_not n b (omega (arith, e)), one_is (suc n) b e))
    (λ ne. ⊎_elim
    (λ lt. omega (arith, most_is (suc n) b (omega (arith, lt)), most_is n b (omega (arith, lt, ne)), one_not (suc n) b ne))
    (λ le. omega (arith, most_not (suc n) b (omega (arith, le, ne)), most_not n b (omega (arith, le)), one_not (suc n) b ne))
    (cases_lt b.owner (suc n)))
    (cases_eq b.owner (suc n))

one_zero : (b : MemoBlock) → at_most 0 b ≡ one_of 0 b
one_zero b = ⊎_elim
    (λ e. most_is 0 b (omega (arith, e)) ∙ sym (one_is 0 b e))
    (λ ne. most_not 0 b (omega (arith, ne)) ∙ sym (one_not 0 b ne))
    (cases_eq b.owner 0)

pub owned_next : (n : ℕ) (bs : List MemoBlock) → owned_to (suc n) bs ≡ owned_to n bs + blocks_owned (suc n) bs
owned_next n [] = refl
owned_next n (b ∷ bs) = omega (arith, owned_next n bs, one_next n b, sum_by-cons (at_most n) b bs, sum_by-cons (at_most (suc n)) b bs, sum_by-cons (one_of (suc n)) b bs)

pub owned_first : (bs : List MemoBlock) → owned_to 0 bs ≡ blocks_owned 0 bs
owned_first [] = refl
owned_first (b ∷ bs) = omega (arith, owned_first bs, one_zero b, sum_by-cons (at_most 0) b bs, sum_by-cons (one_of 0) b bs)

pub owned_all : (n : ℕ) (bs : List MemoBlock) → ((j : ℕ) → (block_at bs j).owner ≤ n) → owned_to n bs ≡ length bs
owned_all n [] h = refl
owned_all n (b ∷ bs) h =
    omega (arith, owned_all n bs (λ j. h (suc j)), most_is n b (h zero), sum_by-cons (at_most n) b bs)
