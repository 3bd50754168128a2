-- A text is written block by block.
use Rattle.std.proofs.Common.{◌≡◌, ◌≢◌, ℕ, suc, ◌+◌, ◌<◌, min, List, ◌++◌, length, take, drop, set, take-append-drop, length-drop, length-set, get_or-set_same, get_or-set_other, ap, ap₂, sym, ◌∙◌, subst, inl, inr, ⊎_elim, arith}
use Rattle.std.proofs.lemmas.Bool.{cases_eq}
use Rattle.dbf_image.specs.declared.memo_store.block.MemoBlock.{MemoBlock}
use Rattle.dbf_image.specs.declared.memo_store.block.FreeList.{FreeList}
use Rattle.dbf_image.specs.declared.format.TheConstants.{BLOCK}
use Rattle.dbf_image.specs.MemoChains.{no_block, block_at, blocks_owned, text_from, IsChain}
use Rattle.dbf_image.specs.MemoSteps.{CanFill, Fills}
use Rattle.dbf_image.proofs.MemoFrame.{framed, alike}
use Rattle.dbf_image.proofs.MemoOwners.{one_of, one_is, one_not, owned_set}

-- the list with one block set
pub set_same : (xs : List MemoBlock) (i : ℕ) (b : MemoBlock) → i < length xs → block_at (set xs i b) i ≡ b
set_same xs i b lt = get_or-set_same xs i b no_block lt

pub set_other : (xs : List MemoBlock) (i j : ℕ) (b : MemoBlock) → j ≢ i → block_at (set xs i b) j ≡ block_at xs j
set_other xs i j b ne = get_or-set_other xs i j b no_block ne

-- the chain after the first block
pub rest_of : (k : ℕ) (xs ys : List MemoBlock) (free : FreeList) (b : MemoBlock) → free.count ≡ suc k → ys ≡ set xs free.head b → IsChain 0 free.count xs free.head → IsChain 0 k ys (block_at xs free.head).next
rest_of k xs ys free b e is c =
    let all : IsChain 0 (suc k) xs free.head = subst (λ n. IsChain 0 n xs free.head) e c in
    subst (λ l. IsChain 0 k l (block_at xs free.head).next) (sym is)
    (framed 0 k xs (set xs free.head b) (block_at xs free.head).next (omega (arith, length-set xs free.head b))
    (λ j lt o n. alike (set_other xs free.head j b (λ same. absurd (omega (arith, n, ap (λ x. (block_at xs x).count) same, all.2)))))
    all.3).chain

-- a first block of the size that the text fills
pub can_fill_rest : (k c size : ℕ) (xs ys : List MemoBlock) (free rest : FreeList) (owner : ℕ) (text more : List ℕ) (b : MemoBlock) → free.count ≡ suc k → ys ≡ set xs free.head b → rest.count ≡ k → rest.head ≡ (block_at xs free.head).next
    → size ≡ min (length text) BLOCK → more ≡ drop size text → CanFill xs free owner (suc c) text → CanFill ys rest owner c more
can_fill_rest k c size xs ys free rest owner text more b e is m h fits left can =
    record {
      chain = subst (λ n. IsChain 0 n ys rest.head) (sym m) (subst (λ p. IsChain 0 k ys p) (sym h) (rest_of k xs ys free b e is can.chain));
      enough = omega (arith, e, m, can.enough);
      owned = can.owned;
      room = omega (arith, can.room, fits, ap length left ∙ length-drop size text);
    }

pub fills_rest : (k c size : ℕ) (xs ys zs : List MemoBlock) (free rest after : FreeList) (owner : ℕ) (text more : List ℕ) (b : MemoBlock) → free.count ≡ suc k → ys ≡ set xs free.head b → rest.count ≡ k → rest.head ≡ (block_at xs free.head).next
    → more ≡ drop size text → b.piece.items ≡ take size text → b.owner ≡ owner → b.count ≡ suc c → b.next ≡ rest.head
    → CanFill xs free owner (suc c) text → Fills ys zs rest after owner c more → Fills xs zs free after owner (suc c) text
fills_rest k c size xs ys zs free rest after owner text more b e is m h left piece own count next can done =
    let all : IsChain 0 (suc k) xs free.head = subst (λ n. IsChain 0 n xs free.head) e can.chain in
    let long : length ys ≡ length xs = ap length is ∙ length-set xs free.head b in
    let here : block_at ys free.head ≡ b = ap (λ l. block_at l free.head) is ∙ set_same xs free.head b all.0 in
    let other : (j : ℕ) → j ≢ free.head → block_at ys j ≡ block_at xs j = λ j ne. ap (λ l. block_at l j) is ∙ set_other xs free.head j b ne in
    let mine : (block_at ys free.head).owner ≡ owner = ap (λ (x : MemoBlock). x.owner) here ∙ own in
    let there : block_at zs free.head ≡ b = done.held free.head (λ z. absurd (omega (arith, z, mine, can.owned))) ∙ here in
    let moved : (q : ℕ) → blocks_owned q ys + one_of q (block_at xs free.head) ≡ blocks_owned q xs + one_of q b = λ q. ap (λ l. blocks_owned q l + one_of q (block_at xs free.head)) is ∙ owned_set q xs free.head b all.0 in
    let link : (block_at zs free.head).next ≡ rest.head = ap (λ (x : MemoBlock). x.next) there ∙ next in
    record {
      same_length = done.same_length ∙ long;
      written = ap₂ (λ (p q : List ℕ). p ++ q) (ap (λ (x : MemoBlock). x.piece.items) there ∙ piece) (ap (λ n. text_from c zs n) link ∙ done.written ∙ left) ∙ take-append-drop size text;
      chain = (omega (arith, done.same_length, long, all.0), ap (λ (x : MemoBlock). x.owner) there ∙ own, ap (λ (x : MemoBlock). x.count) there ∙ count, subst (λ n. IsChain owner c zs n) (sym link) done.chain);
      left = omega (arith, done.left, e, m);
      still_free = done.still_free;
      held = λ j ne. let apart : j ≢ free.head = λ same. ne (ap (λ x. (block_at xs x).owner) same ∙ all.1) in done.held j (λ z. ne (ap (λ (x : MemoBlock). x.owner) (sym (other j apart)) ∙ z)) ∙ other j apart;
      changed = λ j. ⊎_elim (λ same. inr (ap (λ x. (block_at zs x).owner) same ∙ ap (λ (x : MemoBlock). x.owner) there ∙ own)) (λ apart. ⊎_elim (λ s. inl (s ∙ other j apart)) (λ o. inr o) (done.changed j)) (cases_eq j free.head);
      taken = omega (arith, done.taken, moved 0, one_is 0 (block_at xs free.head) all.1, one_not 0 b (λ z. absurd (omega (arith, z, own, can.owned))));
      given = omega (arith, done.given, moved owner, one_not owner (block_at xs free.head) (λ z. absurd (omega (arith, z, all.1, can.owned))), one_is owner b own);
      others = λ q some ne. omega (arith, done.others q some ne, moved q, one_not q (block_at xs free.head) (λ z. some (sym z ∙ all.1)), one_not q b (λ z. ne (sym z ∙ own)));
    }
