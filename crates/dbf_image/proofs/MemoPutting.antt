-- A text that was written is one more text, and the others stay.
use Rattle.std.proofs.Common.{◌≡◌, ◌≢◌, ℕ, suc, ◌+◌, ◌-◌, ◌<◌, ◌≤◌, List, length, Some, None, ap, sym, ◌∙◌, subst, ⊎_elim, arith}
use Rattle.std.proofs.lemmas.Bool.{cases_eq}
use Rattle.std.specs.FinMap.{get, insert}
use Rattle.dbf_image.specs.declared.memo_store.block.MemoBlock.{MemoBlock}
use Rattle.dbf_image.specs.declared.memo_store.block.FreeList.{FreeList}
use Rattle.dbf_image.specs.MemoChains.{block_at, blocks_in, blocks_owned, text_at, text_blocks, text_from, IsChain, AreHeld, AreCounted, Grown}
use Rattle.dbf_image.specs.MemoSteps.{Fills}
use Rattle.dbf_image.specs.TextBlocks.{stored_texts}
use Rattle.dbf_image.proofs.MemoFrame.{alike}
use Rattle.dbf_image.proofs.MemoOwners.{grown_owned}
use Rattle.dbf_image.proofs.MemoTexts.{text_is, none_is, get_texts, one_more, text_stays, chain_stays, grown_text, grown_texts, grown_held}

pub record Puts (xs ys : List MemoBlock) (number : ℕ) (text : List ℕ) : Type 0 where
  pub held : AreHeld ys
  pub counted : AreCounted ys
  pub fresh : get (stored_texts xs) number ≡ None
  pub texts : stored_texts ys ≡ insert (stored_texts xs) number text

pub puts : (k c : ℕ) (xs ys : List MemoBlock) (free rest : FreeList) (text : List ℕ) → AreHeld xs → AreCounted xs → suc c ≡ blocks_in (length text) → free.count ≡ suc k → IsChain 0 free.count xs free.head → Fills xs ys free rest (suc free.head) (suc c) text → Puts xs ys (suc free.head) text
puts k c xs ys free rest text held counted takes e chain done =
    let empty : (block_at xs free.head).owner ≡ 0 = (subst (λ n. IsChain 0 n xs free.head) e chain).1 in
    let le : length xs ≤ length ys = omega (arith, done.same_length) in
    let count : (block_at ys free.head).count ≡ suc c = done.chain.2 in
    let none : text_at xs (suc free.head) ≡ None = none_is xs free.head (λ o. absurd (omega (arith, o, empty))) in
    let mine : text_at ys (suc free.head) ≡ Some text = text_is ys free.head done.chain.1 ∙ ap (λ t. Some t) (ap (λ n. text_from n ys free.head) count ∙ done.written) in
    let others : (q : ℕ) → q ≢ suc free.head → text_at ys q ≡ text_at xs q = λ q ne. text_stays xs ys q held le
    (λ j n s o. alike (done.held j (λ z. absurd (omega (arith, s, o, z)))))
    (λ i s o. ⊎_elim (λ a. ap (λ (b : MemoBlock). b.owner) (sym a) ∙ o) (λ p. absurd (omega (arith, ne, o, p))) (done.changed i)) in
    record {
      held = λ i o. ⊎_elim
          (λ same. subst (λ p. IsChain (suc p) (block_at ys p).count ys p) (sym same) (subst (λ n. IsChain (suc free.head) n ys free.head) (sym count) done.chain))
          (λ ne. ⊎_elim
          (λ s. chain_stays xs ys i held le (λ j p. alike (done.held j (λ z. absurd (omega (arith, p, z))))) (ap (λ (b : MemoBlock). b.owner) (sym s) ∙ o))
          (λ p. absurd (omega (arith, ne, o, p)))
          (done.changed i))
          (cases_eq i free.head);
      counted = λ i. ⊎_elim
          (λ same. subst (λ p. blocks_owned (suc p) ys ≡ text_blocks (text_at ys (suc p))) (sym same) (omega (arith, done.given, counted free.head, ap text_blocks none, ap text_blocks mine, takes)))
          (λ ne. done.others (suc i) (λ z. absurd (omega (arith, z))) (λ s. ne (omega (arith, s))) ∙ counted i ∙ ap text_blocks (sym (others (suc i) (λ s. ne (omega (arith, s))))))
          (cases_eq i free.head);
      fresh = get_texts xs (suc free.head) ∙ none;
      texts = one_more xs ys (suc free.head) text mine others;
    }

pub put_whole : (count : ℕ) (xs ys : List MemoBlock) (free rest : FreeList) (text : List ℕ) → AreHeld xs → AreCounted xs → count ≡ blocks_in (length text) → 0 < count → 0 < free.count → IsChain 0 free.count xs free.head → Fills xs ys free rest (free.head + 1) count text → Puts xs ys (free.head + 1) text
put_whole count xs ys free rest text held counted takes some room chain done =
    let h : free.head + 1 ≡ suc free.head = omega arith in
    let e : count ≡ suc (count - 1) = omega (arith, some) in
    subst (λ n. Puts xs ys n text) (sym h) (puts (free.count - 1) (count - 1) xs ys free rest text held counted (sym e ∙ takes) (omega (arith, room)) chain
    (subst (λ m. Fills xs ys free rest (suc free.head) m text) e (subst (λ n. Fills xs ys free rest n count text) h done)))

-- what is counted stays so where free blocks are put behind the others
grown_counted : (xs ys : List MemoBlock) → AreHeld xs → AreCounted xs → Grown xs ys → AreCounted ys
grown_counted xs ys held counted grown i = grown_owned (suc i) xs ys (λ z. absurd (omega (arith, z))) grown ∙ counted i ∙ ap text_blocks (sym (grown_text xs ys (suc i) held grown))

-- free blocks were put behind the others first
pub put_grown : (count : ℕ) (xs ys zs : List MemoBlock) (free rest : FreeList) (text : List ℕ) → AreHeld xs → AreCounted xs → Grown xs ys → count ≡ blocks_in (length text) → 0 < count → 0 < free.count → IsChain 0 free.count ys free.head → Fills ys zs free rest (free.head + 1) count text → Puts xs zs (free.head + 1) text
put_grown count xs ys zs free rest text held counted grown takes some room chain done =
    let same = grown_texts xs ys held grown in
    let put = put_whole count ys zs free rest text (grown_held xs ys held grown) (grown_counted xs ys held counted grown) takes some room chain done in
    record {
      held = put.held;
      counted = put.counted;
      fresh = ap (λ t. get t (free.head + 1)) (sym same) ∙ put.fresh;
      texts = put.texts ∙ ap (λ t. insert t (free.head + 1) text) same;
    }
