-- What is left where the blocks were marked and swept.
use Rattle.std.proofs.Common.{◌≡◌, ℕ, zero, suc, ◌≤◌, Bool, true, false, cond, List, length, take_all, Option, None, nat_eq, refl, ap, sym, subst, ◌∙◌, ⊎_elim, true≢false, arith}
use Rattle.std.proofs.lemmas.Bool.{cases_lt}
use Rattle.std.specs.List.{list_any, sum_by}
use Rattle.std.specs.Cmp.{nat_cmp_total}
use Rattle.std.specs.FinMap.{retain_keys, same_map, get-retain_keys, nat_cmp-IsAntisymmetric}
use Rattle.dbf_image.specs.declared.memo_store.block.MemoBlock.{MemoBlock}
use Rattle.dbf_image.specs.declared.memo_store.block.FreeList.{FreeList}
use Rattle.dbf_image.specs.MemoChains.{block_at, blocks_owned, text_at, text_blocks, IsChain, is_kept, free_one, AreHeld, AreCounted}
use Rattle.dbf_image.specs.MemoSteps.{Marks, Sweeps}
use Rattle.dbf_image.specs.TextBlocks.{stored_texts}
use Rattle.dbf_image.proofs.MemoFrame.{alike}
use Rattle.dbf_image.proofs.MemoCounting.{chain_counted, counted_le}
use Rattle.dbf_image.proofs.MemoOwners.{owned_same, owned_none}
use Rattle.dbf_image.proofs.MemoTexts.{none_is, there, get_texts, text_stays, chain_stays}

-- marks change no text
marked_text : (xs ys : List MemoBlock) (numbers : List ℕ) (q : ℕ) → AreHeld xs → Marks xs ys numbers → text_at ys q ≡ text_at xs q
marked_text xs ys numbers q held m = text_stays xs ys q held (omega (arith, m.same_length)) (λ j n s o. m.alike j) (λ i s o. sym (m.alike i).owner ∙ o)

pub marked_held : (xs ys : List MemoBlock) (numbers : List ℕ) → AreHeld xs → Marks xs ys numbers → AreHeld ys
marked_held xs ys numbers held m i e = chain_stays xs ys i held (omega (arith, m.same_length)) (λ j o. m.alike j) (sym (m.alike i).owner ∙ e)

-- a block of a text that is swept over is one that stays
stayed : (xs ys : List MemoBlock) (free : FreeList) (i n : ℕ) → Sweeps (length xs) xs ys free → (block_at ys i).owner ≡ suc n → (block_at xs i).owner ≡ suc n
stayed xs ys free i n s e = ⊎_elim (λ z. absurd (omega (arith, z, e))) (λ o. sym o ∙ e) (s.owners i)

is_marked : (xs ys : List MemoBlock) (free : FreeList) (i n : ℕ) → Sweeps (length xs) xs ys free → (block_at ys i).owner ≡ suc n → is_kept xs (suc n) ≡ true
is_marked xs ys free i n s e =
    ⊎_elim (λ z. absurd (omega (arith, z, e))) (λ k. subst (λ o. is_kept xs o ≡ true) e k)
    (s.swept i (there xs i n (stayed xs ys free i n s e)))

pub swept_held : (xs ys : List MemoBlock) (free : FreeList) → AreHeld xs → Sweeps (length xs) xs ys free → AreHeld ys
swept_held xs ys free held s i e =
    chain_stays xs ys i held (omega (arith, s.same_length))
    (λ j o. alike (s.stay j (subst (λ n. is_kept xs n ≡ true) (sym o) (is_marked xs ys free i i s e))))
    (stayed xs ys free i i s e)

pub swept_chain : (xs ys : List MemoBlock) (free : FreeList) → Sweeps (length xs) xs ys free → IsChain 0 free.count ys free.head
swept_chain xs ys free s = subst (λ l. IsChain 0 free.count l free.head) (take_all (length xs) ys (omega (arith, s.same_length))) s.chain

-- a marked text stays, and no other
swept_text : (xs ys : List MemoBlock) (free : FreeList) (q : ℕ) (b : Bool) → is_kept xs q ≡ b → AreHeld xs → Sweeps (length xs) xs ys free → text_at ys q ≡ cond b (text_at xs q) None
swept_text xs ys free q true k held s =
    text_stays xs ys q held (omega (arith, s.same_length))
    (λ j n e o. alike (s.stay j (ap (is_kept xs) o ∙ k)))
    (λ i e o. stayed xs ys free i i s (o ∙ e) ∙ sym e)
swept_text xs ys free zero false k held s = refl
swept_text xs ys free (suc i) false k held s = none_is ys i (λ e. true≢false (sym (is_marked xs ys free i i s e) ∙ k))

-- ---- how many blocks each text has

pub marked_counted : (xs ys : List MemoBlock) (numbers : List ℕ) → AreHeld xs → AreCounted xs → Marks xs ys numbers → AreCounted ys
marked_counted xs ys numbers held counted m i =
    owned_same (suc i) xs ys m.same_length (λ j e. (m.alike j).owner ∙ e) (λ j e. sym (m.alike j).owner ∙ e)
    ∙ counted i ∙ ap text_blocks (sym (marked_text xs ys numbers (suc i) held m))

swept_owned : (xs ys : List MemoBlock) (free : FreeList) (i : ℕ) (b : Bool) → is_kept xs (suc i) ≡ b → AreHeld xs → AreCounted xs → Sweeps (length xs) xs ys free → blocks_owned (suc i) ys ≡ text_blocks (text_at ys (suc i))
swept_owned xs ys free i true k held counted s =
    owned_same (suc i) xs ys s.same_length (λ j o. ap (λ (x : MemoBlock). x.owner) (s.stay j (ap (is_kept xs) o ∙ k)) ∙ o) (λ j o. stayed xs ys free j i s o)
    ∙ counted i ∙ ap text_blocks (sym (swept_text xs ys free (suc i) true k held s))
swept_owned xs ys free i false k held counted s =
    owned_none (suc i) ys (λ j lt o. true≢false (sym (is_marked xs ys free j i s o) ∙ k)) ∙ ap text_blocks (sym (swept_text xs ys free (suc i) false k held s))

pub swept_counted : (xs ys : List MemoBlock) (free : FreeList) → AreHeld xs → AreCounted xs → Sweeps (length xs) xs ys free → AreCounted ys
swept_counted xs ys free held counted s i = swept_owned xs ys free i (is_kept xs (suc i)) refl held counted s

-- all free blocks are in the chain
pub swept_free : (xs ys : List MemoBlock) (free : FreeList) → Sweeps (length xs) xs ys free → free.count ≡ blocks_owned 0 ys
swept_free xs ys free s = s.counted ∙ ap (sum_by free_one) (take_all (length xs) ys (omega (arith, s.same_length)))

-- a number that no block has
past_text : (xs : List MemoBlock) (i : ℕ) → length xs ≤ i → text_at xs (suc i) ≡ None
past_text xs i le = none_is xs i (λ e. absurd (omega (arith, le, there xs i i e)))

both_none : {A : Type 0} (a b : Bool) (o : Option A) → o ≡ None → cond a o None ≡ cond b o None
both_none true true o e = refl
both_none true false o e = e
both_none false true o e = sym e
both_none false false o e = refl

kept_or_not : (xs ys : List MemoBlock) (numbers : List ℕ) (q : ℕ) → Marks xs ys numbers → cond (is_kept ys q) (text_at ys q) None ≡ cond (list_any (nat_eq q) numbers) (text_at ys q) None
kept_or_not xs ys numbers zero m = both_none (is_kept ys zero) (list_any (nat_eq zero) numbers) (text_at ys zero) refl
kept_or_not xs ys numbers (suc i) m = ⊎_elim
    (λ lt. ap (λ b. cond b (text_at ys (suc i)) None) (m.marks i lt))
    (λ le. both_none (is_kept ys (suc i)) (list_any (nat_eq (suc i)) numbers) (text_at ys (suc i)) (past_text ys i (omega (arith, le, m.same_length))))
    (cases_lt i (length xs))

pub dropped : (xs ys zs : List MemoBlock) (numbers : List ℕ) (free : FreeList) → AreHeld xs → Marks xs ys numbers → Sweeps (length ys) ys zs free → stored_texts zs ≡ retain_keys (stored_texts xs) (λ q. list_any (nat_eq q) numbers)
dropped xs ys zs numbers free held m s = same_map nat_cmp_total nat_cmp-IsAntisymmetric _ _ (λ q.
    get_texts zs q
    ∙ swept_text ys zs free q (is_kept ys q) refl (marked_held xs ys numbers held m) s
    ∙ kept_or_not xs ys numbers q m
    ∙ ap (λ t. cond (list_any (nat_eq q) numbers) t None) (marked_text xs ys numbers q held m ∙ sym (get_texts xs q))
    ∙ sym (get-retain_keys (stored_texts xs) (λ p. list_any (nat_eq p) numbers) q (λ x t. ap (λ p. list_any (nat_eq p) numbers) (sym (nat_cmp-IsAntisymmetric q x t)))))

-- no free block is lost
pub drop_keeps_free : (k head : ℕ) (xs ys zs : List MemoBlock) (numbers : List ℕ) (free : FreeList) → IsChain 0 k xs head → Marks xs ys numbers → Sweeps (length ys) ys zs free → k ≤ free.count
drop_keeps_free k head xs ys zs numbers free chain m s =
    let marked = counted_le xs ys m.same_length (λ j e. (m.alike j).owner ∙ e) in
    let swept = counted_le ys zs s.same_length (λ j e. ⊎_elim (λ z. z) (λ same. same ∙ e) (s.owners j)) in
    let whole = ap (sum_by free_one) (take_all (length ys) zs (omega (arith, s.same_length))) in
    omega (arith, chain_counted k xs head chain, marked, swept, s.counted, whole)
