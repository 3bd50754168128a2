-- The finite map of a store, number by number.
use Rattle.std.proofs.Common.{◌≡◌, ◌≢◌, ℕ, zero, suc, ◌+◌, ◌-◌, ◌<◌, ◌≤◌, true, true≢false, cond, List, [], ◌∷◌, ◌++◌, length, Option, Some, None, IsSome, is_some, nat_cmp, if◌then◌else◌, refl, ap, sym, ◌∙◌, subst, ⊎_elim, arith, ne_eqb, eq-eqb}
use Rattle.std.proofs.lemmas.Bool.{cases_eq}
use Rattle.std.proofs.lemmas.List.{get_or_past, get_or_append_left, get_or_push, length_push}
use Rattle.std.specs.Cmp.{nat_cmp_total, unsigned_tied}
use Rattle.std.specs.FinMap.{find, get, insert, same_map, get-from_entries, get-insert, nat_cmp-IsAntisymmetric}
use Rattle.dbf_image.specs.declared.memo_store.block.MemoBlock.{MemoBlock}
use Rattle.dbf_image.specs.MemoChains.{no_block, block_at, text_from, text_at, IsChain, AreHeld, Alike, Grown}
use Rattle.dbf_image.specs.TextBlocks.{with_text_entry, entries_to, stored_texts}
use Rattle.dbf_image.proofs.MemoFrame.{framed, alike}

not_none : is_some {T = List ℕ} None ≡ true → ⊥
not_none h = true≢false (sym h)

pub text_is : (bs : List MemoBlock) (i : ℕ) → (block_at bs i).owner ≡ suc i → text_at bs (suc i) ≡ Some (text_from (block_at bs i).count bs i)
text_is bs i e = ap (λ b. if b then Some (text_from (block_at bs i).count bs i) else None) (eq-eqb _ _ e)

pub none_is : (bs : List MemoBlock) (i : ℕ) → (block_at bs i).owner ≢ suc i → text_at bs (suc i) ≡ None
none_is bs i ne = ap (λ b. if b then Some (text_from (block_at bs i).count bs i) else None) (ne_eqb _ _ ne)

-- a block that belongs to a text is there
pub there : (bs : List MemoBlock) (i n : ℕ) → (block_at bs i).owner ≡ suc n → i < length bs
there bs i n e = ⊎_elim (λ lt. lt) (λ le. absurd (omega (arith, e, ap (λ (b : MemoBlock). b.owner) (get_or_past bs i no_block le)))) (Rattle.std.proofs.lemmas.Bool.cases_lt i (length bs))

-- a number past the blocks has no text
text_past : (bs : List MemoBlock) (q : ℕ) → length bs < q → text_at bs q ≡ None
text_past bs zero lt = refl
text_past bs (suc i) lt = none_is bs i (λ e. absurd (omega (arith, there bs i i e)))

here : (o : Option (List ℕ)) (m : ℕ) (es : List (ℕ × List ℕ)) → (o ≡ None → find nat_cmp m es ≡ None) → find nat_cmp m (with_text_entry o m es) ≡ o
here None m es f = f refl
here (Some t) m es f = ap (λ b. cond b (Some t) (find nat_cmp m es)) (unsigned_tied m m ∙ eq-eqb m m refl)

skip : (o : Option (List ℕ)) (m q : ℕ) (es : List (ℕ × List ℕ)) → q ≢ m → find nat_cmp q (with_text_entry o m es) ≡ find nat_cmp q es
skip None m q es ne = refl
skip (Some t) m q es ne = ap (λ b. cond b (Some t) (find nat_cmp q es)) (unsigned_tied q m ∙ ne_eqb q m ne)

found : (n : ℕ) (bs : List MemoBlock) (q : ℕ) → (n < q → text_at bs q ≡ None) → find nat_cmp q (entries_to n bs) ≡ text_at bs q
found zero bs zero h = refl
found zero bs (suc i) h = sym (h (omega arith))
found (suc n) bs q h =
    ⊎_elim
    (λ e. subst (λ x. find nat_cmp x (entries_to (suc n) bs) ≡ text_at bs x) (sym e) (here (text_at bs (suc n)) (suc n) (entries_to n bs) (λ none. found n bs (suc n) (λ lt. none) ∙ none)))
    (λ ne. skip (text_at bs (suc n)) (suc n) q (entries_to n bs) ne ∙ found n bs q (λ lt. h (omega (arith, lt, ne))))
    (cases_eq q (suc n))

-- what the map has at a number
pub get_texts : (bs : List MemoBlock) (q : ℕ) → get (stored_texts bs) q ≡ text_at bs q
get_texts bs q = get-from_entries nat_cmp_total (entries_to (length bs) bs) q ∙ found (length bs) bs q (text_past bs q)

pub same_texts : (xs ys : List MemoBlock) → ((q : ℕ) → text_at ys q ≡ text_at xs q) → stored_texts ys ≡ stored_texts xs
same_texts xs ys h = same_map nat_cmp_total nat_cmp-IsAntisymmetric _ _ (λ q. get_texts ys q ∙ h q ∙ sym (get_texts xs q))

-- one text is new
pub one_more : (xs ys : List MemoBlock) (n : ℕ) (t : List ℕ) → text_at ys n ≡ Some t → ((q : ℕ) → q ≢ n → text_at ys q ≡ text_at xs q) → stored_texts ys ≡ insert (stored_texts xs) n t
one_more xs ys n t is others = same_map nat_cmp_total nat_cmp-IsAntisymmetric _ _ (λ q.
    get_texts ys q
    ∙ ⊎_elim
    (λ e. ap (text_at ys) e ∙ is ∙ ap (λ b. cond b (Some t) (get (stored_texts xs) q)) (sym (eq-eqb q n e)))
    (λ ne. others q ne ∙ sym (get_texts xs q) ∙ ap (λ b. cond b (Some t) (get (stored_texts xs) q)) (sym (ne_eqb q n ne)))
    (cases_eq q n)
    ∙ ap (λ b. cond b (Some t) (get (stored_texts xs) q)) (sym (unsigned_tied q n))
    ∙ sym (get-insert nat_cmp_total (stored_texts xs) n t q))

-- a text stays where its blocks do
pub text_stays : (xs ys : List MemoBlock) (q : ℕ) → AreHeld xs → length xs ≤ length ys → ((j n : ℕ) → q ≡ suc n → (block_at xs j).owner ≡ q → Alike (block_at ys j) (block_at xs j)) → ((i : ℕ) → q ≡ suc i → (block_at ys i).owner ≡ q → (block_at xs i).owner ≡ q) → text_at ys q ≡ text_at xs q
text_stays xs ys zero held le same back = refl
text_stays xs ys (suc i) held le same back =
    ⊎_elim
    (λ e. let a = same i i refl e in
    text_is ys i (a.owner ∙ e) ∙ ap (λ t. Some t) (ap (λ k. text_from k ys i) a.count ∙ (framed (suc i) (block_at xs i).count xs ys i le (λ j lt o n. same j i refl o) (held i e)).text) ∙ sym (text_is xs i e))
    (λ ne. none_is ys i (λ e. ne (back i refl e)) ∙ sym (none_is xs i ne))
    (cases_eq (block_at xs i).owner (suc i))

-- and so does its chain
pub chain_stays : (xs ys : List MemoBlock) (i : ℕ) → AreHeld xs → length xs ≤ length ys → ((j : ℕ) → (block_at xs j).owner ≡ suc i → Alike (block_at ys j) (block_at xs j)) → (block_at xs i).owner ≡ suc i → IsChain (suc i) (block_at ys i).count ys i
chain_stays xs ys i held le same e = subst (λ k. IsChain (suc i) k ys i) (sym (same i e).count) (framed (suc i) (block_at xs i).count xs ys i le (λ j lt o n. same j o) (held i e)).chain

-- free blocks after the others
pub grown_self : (xs : List MemoBlock) → Grown xs xs
grown_self xs = record { longer = omega arith; stay = λ j lt. refl; free = λ j le. ap (λ (b : MemoBlock). b.owner) (get_or_past xs j no_block le) }

pub grown_twice : (xs ys zs : List MemoBlock) → Grown xs ys → Grown ys zs → Grown xs zs
grown_twice xs ys zs a b = record {
  longer = omega (arith, a.longer, b.longer);
  stay = λ j lt. b.stay j (omega (arith, lt, a.longer)) ∙ a.stay j lt;
  free = λ j le. ⊎_elim (λ lt. ap (λ (x : MemoBlock). x.owner) (b.stay j lt) ∙ a.free j le) (λ ge. b.free j ge) (Rattle.std.proofs.lemmas.Bool.cases_lt j (length ys));
}

-- one more free block after the others
pub grown_push : (xs ys zs : List MemoBlock) (b : MemoBlock) → zs ≡ ys ++ b ∷ [] → b.owner ≡ 0 → Grown xs ys → Grown xs zs
grown_push xs ys zs b e own g =
    let long : length zs ≡ length ys + 1 = ap length e ∙ length_push ys b in
    grown_twice xs ys zs g (record {
      longer = omega (arith, long);
      stay = λ j lt. ap (λ (l : List MemoBlock). block_at l j) e ∙ get_or_append_left ys (b ∷ []) no_block j lt;
      free = λ j le. ⊎_elim
          (λ same. ap (λ (l : List MemoBlock). (block_at l j).owner) e ∙ ap (λ (x : MemoBlock). x.owner) (get_or_push ys b no_block j (sym same)) ∙ own)
          (λ ne. ap (λ (x : MemoBlock). x.owner) (get_or_past zs j no_block (omega (arith, long, le, ne))))
          (cases_eq j (length ys));
    })

grown_back : (xs ys : List MemoBlock) (i n : ℕ) → Grown xs ys → (block_at ys i).owner ≡ suc n → (block_at xs i).owner ≡ suc n
grown_back xs ys i n g e = ⊎_elim (λ lt. ap (λ (x : MemoBlock). x.owner) (sym (g.stay i lt)) ∙ e) (λ le. absurd (omega (arith, e, g.free i le))) (Rattle.std.proofs.lemmas.Bool.cases_lt i (length xs))

pub grown_text : (xs ys : List MemoBlock) (q : ℕ) → AreHeld xs → Grown xs ys → text_at ys q ≡ text_at xs q
grown_text xs ys q held g = text_stays xs ys q held g.longer
    (λ j n s o. alike (g.stay j (there xs j n (o ∙ s))))
    (λ i s o. grown_back xs ys i i g (o ∙ s) ∙ sym s)

pub grown_texts : (xs ys : List MemoBlock) → AreHeld xs → Grown xs ys → stored_texts ys ≡ stored_texts xs
grown_texts xs ys held g = same_texts xs ys (λ q. grown_text xs ys q held g)

pub grown_held : (xs ys : List MemoBlock) → AreHeld xs → Grown xs ys → AreHeld ys
grown_held xs ys held g i e = chain_stays xs ys i held g.longer (λ j o. alike (g.stay j (there xs j i o))) (grown_back xs ys i i g e)

-- where the text with a number stands
pub record Found (bs : List MemoBlock) (number : ℕ) : Type 0 where
  pub positive : 0 < number
  pub within : number ≤ length bs
  pub chain : IsChain number (block_at bs (number - 1)).count bs (number - 1)
  pub is : text_at bs number ≡ Some (text_from (block_at bs (number - 1)).count bs (number - 1))

pub text_found : (bs : List MemoBlock) (number : ℕ) → AreHeld bs → IsSome (text_at bs number) → Found bs number
text_found bs zero held some = absurd (not_none some)
text_found bs (suc i) held some = ⊎_elim
    (λ e.
    let back : i ≡ suc i - 1 = omega arith in
    record {
      positive = omega arith;
      within = omega (arith, there bs i i e);
      chain = subst (λ n. IsChain (suc i) (block_at bs n).count bs n) back (held i e);
      is = subst (λ n. text_at bs (suc i) ≡ Some (text_from (block_at bs n).count bs n)) back (text_is bs i e);
    })
    (λ ne. absurd (not_none (subst (λ (o : Option (List ℕ)). IsSome o) (none_is bs i ne) some)))
    (cases_eq (block_at bs i).owner (suc i))
