-- The free blocks and those of the texts are all blocks.
use Rattle.std.proofs.Common.{◌≡◌, ◌≢◌, ℕ, zero, suc, ◌+◌, ◌<◌, ◌≤◌, cond, List, [], ◌∷◌, length, Option, Some, None, is_some, nat_cmp, refl, ap, sym, ◌∙◌, ⊎_elim, true≢false, ne_eqb, arith}
use Rattle.std.proofs.lemmas.Bool.{cases_eq}
use Rattle.std.proofs.lemmas.List.Sums.{sum_by-cons}
use Rattle.std.specs.List.{sum_by}
use Rattle.std.specs.Cmp.{nat_cmp_total, unsigned_tied}
use Rattle.std.specs.Ordering.{is_eq}
use Rattle.std.specs.declared.cmp.Ordering.TheVariants.{Less, Equal, Greater}
use Rattle.std.specs.FinMap.{find, get, insert, put, entries, empty, from_entries, get-entries, get-from_entries, entries-insert, len-entries, len-empty}
use Rattle.std.specs.FinMap.Entries.{by_order}
use Rattle.dbf_image.specs.declared.memo_store.block.MemoBlock.{MemoBlock}
use Rattle.dbf_image.specs.declared.memo_store.text_blocks.TextBlocks.TheInside.{Inside}
use Rattle.dbf_image.specs.MemoChains.{block_at, blocks_in, blocks_owned, text_at, text_blocks, AreCounted}
use Rattle.dbf_image.specs.MemoStore.{Texts, used_blocks}
use Rattle.dbf_image.specs.TextBlocks.{block_total, with_text_entry, entries_to, stored_texts, blocks_view, IsTextBlocks}
use Rattle.dbf_image.proofs.MemoOwners.{owned_some, owned_to, owned_next, owned_first, owned_all}
use Rattle.dbf_image.proofs.MemoTexts.{none_is, there}

abbrev entry_blocks : ℕ × List ℕ → ℕ
entry_blocks e = blocks_in (length e.1)

-- an entry whose key is new
put_sum : (k : ℕ) (v : List ℕ) (es : List (ℕ × List ℕ)) → find nat_cmp k es ≡ None → sum_by entry_blocks (put nat_cmp k v es) ≡ blocks_in (length v) + sum_by entry_blocks es
put_sum k v [] h = sum_by-cons entry_blocks (k, v) []
put_sum k v (e ∷ es) h =
    elim (nat_cmp k e.0) as (λ r. cond (is_eq r) (Some e.1) (find nat_cmp k es) ≡ None → sum_by entry_blocks (by_order r ((k, v) ∷ e ∷ es) ((e.0, v) ∷ es) (e ∷ put nat_cmp k v es)) ≡ blocks_in (length v) + sum_by entry_blocks (e ∷ es)) [
      | Less ↦ λ none. sum_by-cons entry_blocks (k, v) (e ∷ es)
      | Equal ↦ λ none. absurd (true≢false (ap is_some none))
      | Greater ↦ λ none. omega (arith, put_sum k v es none, sum_by-cons entry_blocks e es, sum_by-cons entry_blocks e (put nat_cmp k v es))
    ] h

no_sum : (es : List (ℕ × List ℕ)) → length es ≡ 0 → sum_by entry_blocks es ≡ 0
no_sum [] e = refl
no_sum (x ∷ es) e = absurd (omega (arith, e))

pub used_none : used_blocks (empty {R = nat_cmp}) ≡ 0
used_none = no_sum (entries empty) (sym (len-entries {R = nat_cmp} empty) ∙ len-empty nat_cmp (List ℕ))

-- a text of a new number
pub used_insert : (texts : Texts) (k : ℕ) (v : List ℕ) → get texts k ≡ None → used_blocks (insert texts k v) ≡ blocks_in (length v) + used_blocks texts
used_insert texts k v fresh = ap (sum_by entry_blocks) (entries-insert nat_cmp_total texts k v) ∙ put_sum k v (entries texts) (sym (get-entries texts k) ∙ fresh)

used_entry : (o : Option (List ℕ)) (m : ℕ) (es : List (ℕ × List ℕ)) → find nat_cmp m es ≡ None → used_blocks (from_entries (with_text_entry o m es)) ≡ text_blocks o + used_blocks (from_entries es)
used_entry None m es h = omega arith
used_entry (Some t) m es h = used_insert (from_entries es) m t (get-from_entries nat_cmp_total es m ∙ h)

-- a number past the first n
skip : (o : Option (List ℕ)) (m q : ℕ) (es : List (ℕ × List ℕ)) → q ≢ m → find nat_cmp q (with_text_entry o m es) ≡ find nat_cmp q es
skip None m q es ne = refl
skip (Some t) m q es ne = ap (λ b. cond b (Some t) (find nat_cmp q es)) (unsigned_tied q m ∙ ne_eqb q m ne)

absent : (n : ℕ) (bs : List MemoBlock) (q : ℕ) → n < q → find nat_cmp q (entries_to n bs) ≡ None
absent zero bs q lt = refl
absent (suc n) bs q lt = skip (text_at bs (suc n)) (suc n) q (entries_to n bs) (λ e. absurd (omega (arith, lt, e))) ∙ absent n bs q (omega (arith, lt))

used_to : (n : ℕ) (bs : List MemoBlock) → AreCounted bs → blocks_owned 0 bs + used_blocks (from_entries (entries_to n bs)) ≡ owned_to n bs
used_to zero bs c = omega (arith, used_none, owned_first bs)
used_to (suc n) bs c =
    omega (arith, used_to n bs c, used_entry (text_at bs (suc n)) (suc n) (entries_to n bs) (absent n bs (suc n) (omega arith)), owned_next n bs, c n)

-- each owner is a number that has a text
owner_there : (bs : List MemoBlock) (j n : ℕ) → AreCounted bs → (block_at bs j).owner ≡ suc n → (block_at bs n).owner ≡ suc n
owner_there bs j n c e = ⊎_elim
    (λ is. is)
    (λ ne. absurd (omega (arith, owned_some (suc n) bs j (there bs j n e) e, c n, ap text_blocks (none_is bs n ne))))
    (cases_eq (block_at bs n).owner (suc n))

owner_le : (bs : List MemoBlock) (j o : ℕ) → AreCounted bs → (block_at bs j).owner ≡ o → o ≤ length bs
owner_le bs j zero c e = omega arith
owner_le bs j (suc n) c e = omega (arith, there bs n n (owner_there bs j n c e))

-- the free blocks and the used ones
pub all_blocks : (bs : List MemoBlock) → AreCounted bs → blocks_owned 0 bs + used_blocks (stored_texts bs) ≡ length bs
all_blocks bs c = used_to (length bs) bs c ∙ owned_all (length bs) bs (λ j. owner_le bs j _ c refl)

-- with those that may still be pushed
pub total_is : (x : Inside) → IsTextBlocks x → block_total (blocks_view x) ≡ length x.blocks.items + x.ready
total_is x s = omega (arith, s.all_free, all_blocks x.blocks.items s.counted)
