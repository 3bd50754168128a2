-- The memos that are written are read.
use Rattle.std.proofs.lemmas.List.Folds.{list_all_at}
use Rattle.std.proofs.Common.{◌≡◌, ◌≢◌, ℕ, ◌+◌, ◌-◌, ◌*◌, ◌/◌, ◌^◌, ◌<◌, ◌≤◌, true, false, eqb, leb, not, List, [], ◌∷◌, ◌++◌, length, take, replicate, get_or, refl, sym, ap, ◌∙◌, inl, inr, append_assoc, lit<, arith}
use Rattle.std.specs.List.{AllByRecursion, before_first, position_or_len, list_all}
use Rattle.std.proofs.lemmas.Bool.{and_parts, leb-true, ne_eqb, not-true, cases_eq, cases_Bool, true_from_ne_false, true≢false}
use Rattle.std.proofs.lemmas.List.{take_at, drop_at, get_or_at, get_or_append_left, length-append, length-replicate, take-replicate, nil_from_length}
use Rattle.std.proofs.lemmas.List.Sums.{position_or_len_is}
use Rattle.dbf_fields.specs.declared.field.Field.{Field}
use Rattle.dbf_image.specs.Table.{is_memo_text, IsCell, AreCells}
use Rattle.dbf_image.specs.Memo.{HasText, EncodesMemo, EncodesCell, EncodesCells}
use Rattle.dbf_image.specs.Blocks.{blocks_of, block_bytes, block_number_cell, cell_bytes, cell_blocks, cell_memo, cells_bytes, cells_blocks, cells_memos}
use Rattle.dbf_image.proofs.Numbers.{number_in, length-justified}
use Rattle.dbf_image.specs.declared.format.TheConstants.{BLOCK, MAX_MEMO_BYTES, MEMO_END}
use Rattle.dbf_fields.specs.declared.format.TheConstants.{MEMO}

-- a memo's cell is ten bytes wide
abbrev pub AreWide : List Field → Type 0
AreWide fields = AllByRecursion (λ f. f.kind ≡ MEMO → f.width ≡ 10) fields

-- a memo's text is short and has no 0x1A
pub record IsText (text : List ℕ) : Type 0 where
  pub short : length text ≤ MAX_MEMO_BYTES
  pub free : list_all (λ b. not (eqb b MEMO_END)) text ≡ true

pub is_text : (text : List ℕ) → is_memo_text text ≡ true → IsText text
is_text text h =
    let p = and_parts (leb (length text) MAX_MEMO_BYTES) (list_all (λ b. not (eqb b MEMO_END)) text) h in
    record { short = leb-true _ _ p.0; free = p.1 }

-- ---- texts

no_end : (cs : List ℕ) → list_all (λ b. not (eqb b MEMO_END)) cs ≡ true → (k : ℕ) → k < length cs → eqb (get_or cs k 0) MEMO_END ≡ false
no_end cs h k lt = not-true _ (true_from_ne_false _ (λ no. true≢false (sym h ∙ list_all_at (λ b. not (eqb b MEMO_END)) cs k 0 lt no)))

text_before : (text more : List ℕ) → list_all (λ b. not (eqb b MEMO_END)) text ≡ true → before_first (λ b. eqb b MEMO_END) (text ++ MEMO_END ∷ more) ≡ text
text_before text more h =
    let long : length text ≤ length (text ++ MEMO_END ∷ more) = omega (arith, length-append text (MEMO_END ∷ more)) in
    let n : position_or_len (λ b. eqb b MEMO_END) (text ++ MEMO_END ∷ more) ≡ length text =
    position_or_len_is (λ b. eqb b MEMO_END) (text ++ MEMO_END ∷ more) (length text) 0 long
    (λ k lt. rw (get_or_append_left text (MEMO_END ∷ more) 0 k lt) (no_end text h k lt))
    (λ lt. rw (get_or_at text MEMO_END more 0 (length text) refl) refl) in
    rw (n, take_at text (MEMO_END ∷ more) (length text) refl) refl

pub length-block : (text : List ℕ) → length (block_bytes text) ≡ BLOCK * blocks_of text
unfolding block_bytes blocks_of
length-block [] = refl
length-block (b ∷ bs) =
    let blocks : ℕ = (length (b ∷ bs) + (BLOCK + 1)) / BLOCK in
    let fill : ℕ = BLOCK * blocks - (length (b ∷ bs) + 2) in
    omega (arith, length-append (b ∷ bs) (MEMO_END ∷ MEMO_END ∷ replicate fill 0), length-replicate {A = ℕ} fill 0)

-- a text stands at its block
text_again : (front rest : List ℕ) (next b : ℕ) (bs : List ℕ) → length front ≡ BLOCK * next → 0 < next → IsText (b ∷ bs)
    → HasText (front ++ (block_bytes (b ∷ bs) ++ rest)) next (b ∷ bs)
unfolding block_bytes
text_again front rest next b bs len some h =
    let text : List ℕ = b ∷ bs in
    let fill : List ℕ = replicate (BLOCK * blocks_of text - (length text + 2)) 0 in
    let body : List ℕ = text ++ (MEMO_END ∷ MEMO_END ∷ fill) in
    let grouped : body ++ rest ≡ text ++ MEMO_END ∷ (MEMO_END ∷ fill ++ rest) = append_assoc text (MEMO_END ∷ MEMO_END ∷ fill) rest in
    record {
      some = some;
      inside = omega (arith, length-append front (body ++ rest), length-append body rest, length-append text (MEMO_END ∷ MEMO_END ∷ fill));
      short = h.short;
      text_is = ap (before_first (λ b. eqb b MEMO_END)) (drop_at front (body ++ rest) (BLOCK * next) len ∙ grouped) ∙ text_before text (MEMO_END ∷ fill ++ rest) h.free;
    }

pub memo_again : (front rest : List ℕ) (next : ℕ) (text : List ℕ) → length front ≡ BLOCK * next → 0 < next → next + blocks_of text < 10 ^ 10 → IsText text
    → EncodesMemo (front ++ (block_bytes text ++ rest)) (block_number_cell next text) text
unfolding block_number_cell
memo_again front rest next [] len some room h = inl (number_in 10 0 (lit< tt), refl)
memo_again front rest next (b ∷ bs) len some room h = inr (next, number_in 10 next (omega arith), text_again front rest next b bs len some h)

length-number : (next : ℕ) (text : List ℕ) → length (block_number_cell next text) ≡ 10
unfolding block_number_cell
length-number next [] = length-justified 10 0
length-number next (b ∷ bs) = length-justified 10 next

-- ---- cells

cell_again : (dbt front rest : List ℕ) (next : ℕ) (f : Field) (c : List ℕ) → dbt ≡ front ++ (cell_memo f c ++ rest) → length front ≡ BLOCK * next → 0 < next → next + cell_blocks f c < 10 ^ 10 → IsCell f c
    → EncodesCell dbt f (cell_bytes next f c) c
cell_again dbt front rest next f c is len some room h =
    (λ kind. rw (is, kind) (memo_again front rest next c len some (rw kind at room) (is_text c (h.0 kind))), λ other. rw (ne_eqb f.kind MEMO other) refl)

pub length-cell : (next : ℕ) (f : Field) (c : List ℕ) → (f.kind ≡ MEMO → f.width ≡ 10) → IsCell f c → length (cell_bytes next f c) ≡ f.width
length-cell next f c wide h = elim (cases_eq f.kind MEMO) [
  | inl kind ↦ rw (kind, wide kind) (length-number next c)
  | inr other ↦ rw (ne_eqb f.kind MEMO other) (h.1 other)
]

length-memo : (f : Field) (c : List ℕ) → length (cell_memo f c) ≡ BLOCK * cell_blocks f c
length-memo f c = elim (cases_Bool (eqb f.kind MEMO)) [ inl e ↦ rw e (length-block c) | inr e ↦ rw e refl ]

pub cells_again : (fields : List Field) (cells : List (List ℕ)) (dbt front rest tail : List ℕ) (next : ℕ) → dbt ≡ front ++ (cells_memos fields cells ++ rest)
    → length front ≡ BLOCK * next → 0 < next → next + cells_blocks fields cells < 10 ^ 10
    → AreWide fields → AreCells fields cells → EncodesCells dbt fields (cells_bytes next fields cells ++ tail) cells
cells_again [] [] dbt front rest tail next is len some room wide h = tt
cells_again [] (c ∷ cs) dbt front rest tail next is len some room wide h = absurd h
cells_again (f ∷ fs) [] dbt front rest tail next is len some room wide h = absurd h
cells_again (f ∷ fs) (c ∷ cs) dbt front rest tail next is len some room wide h =
    let here : List ℕ = cell_bytes next f c in
    let later : ℕ = next + cell_blocks f c in
    let there : List ℕ = cells_bytes later fs cs in
    let memo : List ℕ = cell_memo f c in
    let memos : List ℕ = cells_memos fs cs in
    let long : length here ≡ f.width = length-cell next f c wide.0 h.0 in
    let moved : length (front ++ memo) ≡ BLOCK * later = omega (arith, length-append front memo, length-memo f c) in
    let grouped : (here ++ there) ++ tail ≡ here ++ (there ++ tail) = append_assoc here there tail in
    let one : dbt ≡ front ++ (memo ++ (memos ++ rest)) = is ∙ ap (λ (x : List ℕ). front ++ x) (append_assoc memo memos rest) in
    let two : dbt ≡ (front ++ memo) ++ (memos ++ rest) = one ∙ sym (append_assoc front memo (memos ++ rest)) in
    let first = cell_again dbt front (memos ++ rest) next f c one len some (omega arith) h.0 in
    let others = cells_again fs cs dbt (front ++ memo) rest tail later two moved (omega arith) (omega arith) wide.1 h.1 in
    rw (grouped, take_at here (there ++ tail) f.width long, drop_at here (there ++ tail) f.width long) (first, others)

pub length-cells_memos : (fields : List Field) (cells : List (List ℕ)) → length (cells_memos fields cells) ≡ BLOCK * cells_blocks fields cells
length-cells_memos [] cells = refl
length-cells_memos (f ∷ fs) [] = refl
length-cells_memos (f ∷ fs) (c ∷ cs) = omega (arith, length-append (cell_memo f c) (cells_memos fs cs), length-memo f c, length-cells_memos fs cs)

-- ---- the blocks of a text as they are written

pub block_put : (text : List ℕ) (n fill : ℕ) → n ≡ length text → n ≢ 0 → fill ≡ (n + (BLOCK + 1)) / BLOCK * BLOCK - (n + 2) → fill ≤ BLOCK
    → (text ++ (MEMO_END ∷ MEMO_END ∷ [])) ++ take fill (replicate BLOCK 0) ≡ block_bytes text
unfolding block_bytes blocks_of
block_put [] n fill len some is bounded = absurd (some len)
block_put (b ∷ bs) n fill len some is bounded =
    let given : fill ≡ (length (b ∷ bs) + (BLOCK + 1)) / BLOCK * BLOCK - (length (b ∷ bs) + 2) = rw len at is in
    let k : fill ≡ BLOCK * ((length (b ∷ bs) + (BLOCK + 1)) / BLOCK) - (length (b ∷ bs) + 2) = omega (arith, given) in
    rw (take-replicate {X = ℕ} fill BLOCK 0 bounded, k) (append_assoc (b ∷ bs) (MEMO_END ∷ MEMO_END ∷ []) (replicate (BLOCK * ((length (b ∷ bs) + (BLOCK + 1)) / BLOCK) - (length (b ∷ bs) + 2)) 0))

pub block_none : (text : List ℕ) → length text ≡ 0 → block_bytes text ≡ []
unfolding block_bytes
block_none text e = rw (nil_from_length text e) refl

-- what a text's length tells
pub blocks_none : (n : ℕ) → n ≡ 0 → (text : List ℕ) → length text ≡ n → 0 ≡ blocks_of text
unfolding blocks_of
blocks_none n none text e = rw (nil_from_length text (e ∙ none)) refl

pub blocks_some : (n : ℕ) → 0 < n → (text : List ℕ) → length text ≡ n → (n + (BLOCK + 1)) / BLOCK ≡ blocks_of text
unfolding blocks_of
blocks_some n some [] e = absurd (omega arith)
blocks_some n some (b ∷ bs) e = ap (λ (m : ℕ). (m + (BLOCK + 1)) / BLOCK) (sym e)
