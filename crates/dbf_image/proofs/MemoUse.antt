-- How many blocks are in use where only the texts of listed numbers are kept.
use Rattle.std.proofs.Common.{◌≡◌, ◌≢◌, ℕ, suc, ◌+◌, ◌*◌, ◌≤◌, Bool, true, false, cond, eqb, List, [], ◌∷◌, length, take, drop, Option, Some, None, nat_cmp, nat_eq, refl, ap, sym, ◌∙◌, ⊎_elim, eq-eqb, ne_eqb, arith, inl, inr}
use Rattle.std.specs.Prelude.{flat_map, unwrap_or}
use Rattle.std.proofs.lemmas.Bool.{cases_Bool, cases_eq}
use Rattle.std.proofs.lemmas.List.{length-drop, length-map, take-append-drop}
use Rattle.std.proofs.lemmas.List.Sums.{sum_by-cons}
use Rattle.std.specs.List.{list_any}
use Rattle.std.specs.Cmp.{nat_cmp_total}
use Rattle.std.specs.FinMap.{get, insert, retain_keys, empty, same_map, get-empty, nat_cmp-IsAntisymmetric}
use Rattle.dbf_fields.specs.declared.field.Field.{Field}
use Rattle.dbf_fields.specs.declared.format.TheConstants.{MEMO}
use Rattle.dbf_fields.specs.Field.{widths}
use Rattle.dbf_image.specs.DbfText.{row_chunks}
use Rattle.dbf_image.specs.MemoChains.{blocks_in, text_blocks}
use Rattle.dbf_image.specs.MemoStore.{Texts, get_text, used_blocks, blocks_of_all}
use Rattle.dbf_image.specs.Store.{text_of, texts_of, memo_count, cells_with, rows_with, rows_of}
use Rattle.dbf_image.specs.Growing.{row_memos, memo_blocks}
use Rattle.dbf_image.specs.Table.{Row}
use Rattle.dbf_image.specs.Laws.MemoCallers.{after_put, other_put, each_drop}
use Rattle.dbf_image.proofs.MemoNumbers.{some_text}
use Rattle.dbf_image.proofs.MemoTotals.{used_none, used_insert}
use Rattle.dbf_image.proofs.Rows.{length-chunks}

-- ---- the blocks of the texts that are kept

abbrev kept : Texts → List ℕ → Texts
kept texts numbers = retain_keys texts (λ k. list_any (nat_eq k) numbers)

get_kept : (texts : Texts) (numbers : List ℕ) (q : ℕ) → get (kept texts numbers) q ≡ cond (list_any (nat_eq q) numbers) (get texts q) None
get_kept texts numbers q = each_drop texts (kept texts numbers) numbers q refl

-- a number that adds no text
same_kept : (texts : Texts) (q : ℕ) (qs : List ℕ) → cond (list_any (nat_eq q) qs) (get texts q) None ≡ get texts q → kept texts (q ∷ qs) ≡ kept texts qs
same_kept texts q qs there = same_map nat_cmp_total nat_cmp-IsAntisymmetric _ _ (λ k.
    get_kept texts (q ∷ qs) k
    ∙ ⊎_elim
    (λ (is : k ≡ q). rw is (rw (eq-eqb q q refl) (sym there)))
    (λ (ne : k ≢ q). rw (ne_eqb k q ne) refl)
    (cases_eq k q)
    ∙ sym (get_kept texts qs k))

-- a number that adds its text
new_kept : (texts : Texts) (q : ℕ) (qs text : List ℕ) → get texts q ≡ Some text → kept texts (q ∷ qs) ≡ insert (kept texts qs) q text
new_kept texts q qs text some = same_map nat_cmp_total nat_cmp-IsAntisymmetric _ _ (λ k.
    get_kept texts (q ∷ qs) k
    ∙ ⊎_elim
    (λ (is : k ≡ q). rw is (rw (eq-eqb q q refl) (some ∙ sym (after_put (kept texts qs) (insert (kept texts qs) q text) q text refl))))
    (λ (ne : k ≢ q). rw (ne_eqb k q ne) (sym (get_kept texts qs k) ∙ sym (other_put (kept texts qs) (insert (kept texts qs) q text) q k text ne refl)))
    (cases_eq k q))

-- a number adds the blocks of its text at most
one_more : (texts : Texts) (q : ℕ) (qs : List ℕ) (o : Option (List ℕ)) (b : Bool) → get texts q ≡ o → list_any (nat_eq q) qs ≡ b → used_blocks (kept texts (q ∷ qs)) ≤ text_blocks o + used_blocks (kept texts qs)
one_more texts q qs o true e l =
    let same : used_blocks (kept texts (q ∷ qs)) ≡ used_blocks (kept texts qs) = ap used_blocks (same_kept texts q qs (rw l refl)) in
    omega (arith, same)
one_more texts q qs None false e l =
    let same : used_blocks (kept texts (q ∷ qs)) ≡ used_blocks (kept texts qs) = ap used_blocks (same_kept texts q qs (rw (l, e) refl)) in
    omega (arith, same)
one_more texts q qs (Some text) false e l =
    let fresh : get (kept texts qs) q ≡ None = get_kept texts qs q ∙ ap (λ b. cond b (get texts q) None) l in
    let more : used_blocks (kept texts (q ∷ qs)) ≡ blocks_in (length text) + used_blocks (kept texts qs) = ap used_blocks (new_kept texts q qs text e) ∙ used_insert (kept texts qs) q text fresh in
    omega (arith, more)

some_blocks : (o : Option (List ℕ)) → text_blocks o ≡ blocks_in (length (unwrap_or o []))
some_blocks None = refl
some_blocks (Some text) = refl

blocks_are : (texts : Texts) (q : ℕ) → get texts 0 ≡ None → text_blocks (get_text texts q) ≡ blocks_in (length (text_of texts q))
blocks_are texts q none = ⊎_elim
    (λ (z : q ≡ 0). rw z (ap text_blocks none))
    (λ (some : q ≢ 0). some_blocks (get_text texts q) ∙ ap (λ (t : List ℕ). blocks_in (length t)) (sym (some_text texts q some)))
    (cases_eq q 0)

pub used_kept : (texts : Texts) (numbers : List ℕ) → get texts 0 ≡ None → used_blocks (kept texts numbers) ≤ blocks_of_all (texts_of texts numbers)
used_kept texts [] none =
    let nothing : kept texts [] ≡ empty = same_map nat_cmp_total nat_cmp-IsAntisymmetric _ _ (λ q. get_kept texts [] q ∙ sym (get-empty nat_cmp q)) in
    let no_use : used_blocks (kept texts []) ≡ 0 = ap used_blocks nothing ∙ used_none in
    omega (arith, no_use)
used_kept texts (q ∷ qs) none =
    let first = one_more texts q qs (get texts q) (list_any (nat_eq q) qs) refl refl in
    let others = used_kept texts qs none in
    let sum = sum_by-cons (λ (t : List ℕ). blocks_in (length t)) (text_of texts q) (texts_of texts qs) in
    omega (arith, first, others, sum, blocks_are texts q none)

-- ---- the memos of a table's records are those of its store

row_is : (fields : List Field) (bytes : List ℕ) (memos : List (List ℕ)) → memo_count fields ≤ length memos → row_memos fields (cells_with fields bytes memos) ≡ take (memo_count fields) memos
row_is [] bytes memos many = refl
row_is (f ∷ fs) bytes [] many = elim (cases_Bool (eqb f.kind MEMO)) [
  | inl e ↦
      let some : suc (memo_count fs) ≤ 0 = rw e at many in
      absurd (omega (arith, some))
  | inr e ↦ rw e (rw e (row_is fs (drop f.width bytes) [] (rw e at many)))
]
row_is (f ∷ fs) bytes (t ∷ ts) many = elim (cases_Bool (eqb f.kind MEMO)) [
  | inl e ↦
      let some : suc (memo_count fs) ≤ suc (length ts) = rw e at many in
      rw e (rw e (ap (λ (x : List (List ℕ)). t ∷ x) (row_is fs (drop f.width bytes) ts (omega (arith, some)))))
  | inr e ↦ rw e (rw e (row_is fs (drop f.width bytes) (t ∷ ts) (rw e at many)))
]

rows_are : (fields : List Field) (ps memos : List (List ℕ)) → length memos ≡ length ps * memo_count fields → flat_map (λ (row : Row). row_memos fields row.cells) (rows_with fields ps memos) ≡ memos
rows_are fields [] [] many = refl
rows_are fields [] (t ∷ ts) many = absurd (omega (arith, many))
rows_are fields (p ∷ ps) memos many =
    let k : ℕ = memo_count fields in
    let all : suc (length ps) * k ≡ k + length ps * k = omega arith in
    let here = row_is fields (drop 1 p) memos (omega (arith, many, all)) in
    let there = rows_are fields ps (drop k memos) (omega (arith, many, all, length-drop k memos)) in
    rw (here, there) (take-append-drop k memos)

pub store_blocks : (fields : List Field) (n : ℕ) (bytes : List ℕ) (texts : Texts) (numbers : List ℕ) → length numbers ≡ n * memo_count fields
    → memo_blocks (record { schema = fields; rows = rows_of fields n bytes (texts_of texts numbers) }) ≡ blocks_of_all (texts_of texts numbers)
store_blocks fields n bytes texts numbers many =
    ap blocks_of_all (rows_are fields (row_chunks fields n bytes) (texts_of texts numbers)
    (length-map numbers (text_of texts) ∙ many ∙ ap (λ (k : ℕ). k * memo_count fields) (sym (length-chunks (1 + widths fields) n bytes))))
