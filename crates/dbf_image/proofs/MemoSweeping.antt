-- The blocks that no marked text has become free, one by one.
use Rattle.std.proofs.Common.{◌≡◌, ℕ, zero, suc, ◌+◌, ◌<◌, ◌⊎◌, true, false, List, length, take, set, length-set, length-take-le, refl, ap, sym, subst, ◌∙◌, inl, inr, ⊎_elim, true≢false, arith}
use Rattle.std.proofs.lemmas.Bool.{cases_eq}
use Rattle.std.proofs.lemmas.List.{take_more, take_more_set}
use Rattle.std.proofs.lemmas.List.Sums.{sum_by_push}
use Rattle.std.specs.List.{sum_by}
use Rattle.dbf_image.specs.declared.memo_store.block.MemoBlock.{MemoBlock}
use Rattle.dbf_image.specs.declared.memo_store.block.FreeList.{FreeList}
use Rattle.dbf_image.specs.MemoChains.{no_block, block_at, IsChain, is_kept, free_one}
use Rattle.dbf_image.specs.MemoSteps.{Sweeps}
use Rattle.dbf_image.proofs.MemoFrame.{pushed, still_chain}
use Rattle.dbf_image.proofs.MemoCounting.{one_free, none_free, kept_owned}
use Rattle.dbf_image.proofs.MemoFilling.{set_same, set_other}

pub kept_same : (xs ys : List MemoBlock) (n : ℕ) → ((j : ℕ) → (block_at ys j).kept ≡ (block_at xs j).kept) → is_kept ys n ≡ is_kept xs n
kept_same xs ys zero h = refl
kept_same xs ys (suc i) h = h i

pub sweeps_keep : (n : ℕ) (xs ys : List MemoBlock) (free : FreeList) → n < length ys → is_kept ys (block_at ys n).owner ≡ true → Sweeps n xs ys free → Sweeps (n + 1) xs ys free
sweeps_keep n xs ys free lt kept s = record {
  same_length = s.same_length;
  chain = subst (λ l. IsChain 0 free.count l free.head) (sym (take_more ys n no_block lt)) (still_chain free.count (take n ys) free.head (block_at ys n) s.chain);
  count_bounded = omega (arith, s.count_bounded);
  counted = omega (arith, s.counted, ap (sum_by free_one) (take_more ys n no_block lt), sum_by_push free_one (take n ys) (block_at ys n), none_free (block_at ys n) (kept_owned ys (block_at ys n).owner kept));
  marks = s.marks;
  stay = s.stay;
  later = λ j le. s.later j (omega (arith, le));
  swept = λ j le. ⊎_elim
      (λ e. inr (subst (λ x. is_kept xs (block_at ys x).owner ≡ true) (sym e) (sym (kept_same xs ys (block_at ys n).owner s.marks) ∙ kept)))
      (λ ne. s.swept j (omega (arith, le, ne)))
      (cases_eq j n);
  owners = s.owners;
}

pub sweeps_free : (n : ℕ) (xs ys : List MemoBlock) (free : FreeList) (b : MemoBlock) → n < length ys → is_kept ys (block_at ys n).owner ≡ false → b.owner ≡ 0 → b.count ≡ free.count + 1 → b.next ≡ free.head → b.kept ≡ (block_at ys n).kept → Sweeps n xs ys free → Sweeps (n + 1) xs (set ys n b) (record { head = n; count = free.count + 1 })
sweeps_free n xs ys free b lt unkept own count next mark s =
    let at : block_at (set ys n b) n ≡ b = set_same ys n b lt in
    let long : length (take n ys) ≡ n = length-take-le n ys (omega (arith, lt)) in
    let off : is_kept xs (block_at xs n).owner ≡ false = ap (λ (x : MemoBlock). is_kept xs x.owner) (sym (s.later n (omega arith))) ∙ sym (kept_same xs ys (block_at ys n).owner s.marks) ∙ unkept in
    record {
      same_length = length-set ys n b ∙ s.same_length;
      chain = subst (λ x. IsChain 0 (free.count + 1) (take (n + 1) (set ys n b)) x) long
          (pushed free.count (take n ys) (take (n + 1) (set ys n b)) free.head b (take_more_set ys n b lt) own count next s.chain);
      count_bounded = omega (arith, s.count_bounded);
      counted = omega (arith, s.counted, ap (sum_by free_one) (take_more_set ys n b lt), sum_by_push free_one (take n ys) b, one_free b own);
      marks = λ j. ⊎_elim
          (λ e. ap (λ x. (block_at (set ys n b) x).kept) e ∙ ap (λ (x : MemoBlock). x.kept) at ∙ mark ∙ ap (λ x. (block_at ys x).kept) (sym e) ∙ s.marks j)
          (λ ne. ap (λ (x : MemoBlock). x.kept) (set_other ys n j b ne) ∙ s.marks j)
          (cases_eq j n);
      stay = λ j on. ⊎_elim
          (λ e. absurd (true≢false (sym on ∙ ap (λ x. is_kept xs (block_at xs x).owner) e ∙ off)))
          (λ ne. set_other ys n j b ne ∙ s.stay j on)
          (cases_eq j n);
      later = λ j le. set_other ys n j b (λ e. absurd (omega (arith, le, e))) ∙ s.later j (omega (arith, le));
      swept = λ j le. ⊎_elim
          (λ e. inl (ap (λ x. (block_at (set ys n b) x).owner) e ∙ ap (λ (x : MemoBlock). x.owner) at ∙ own))
          (λ ne. subst (λ (x : MemoBlock). (x.owner ≡ 0) ⊎ (is_kept xs x.owner ≡ true)) (sym (set_other ys n j b ne)) (s.swept j (omega (arith, le, ne))))
          (cases_eq j n);
      owners = λ j. ⊎_elim
          (λ e. inl (ap (λ x. (block_at (set ys n b) x).owner) e ∙ ap (λ (x : MemoBlock). x.owner) at ∙ own))
          (λ ne. subst (λ (x : MemoBlock). (x.owner ≡ 0) ⊎ (x.owner ≡ (block_at xs j).owner)) (sym (set_other ys n j b ne)) (s.owners j))
          (cases_eq j n);
    }
