-- The blocks of the memos of a table are those of its list of texts.
use Rattle.dbf_image.proofs.BlockLaws.{length-block, length-cells_memos}
use Rattle.dbf_image.proofs.CellOffsets.{memo_count_le}
use Rattle.std.proofs.Common.{◌≡◌, ℕ, suc, ◌+◌, ◌*◌, ◌≤◌, Bool, true, false, cond, eqb, List, [], ◌∷◌, ◌++◌, length, take, drop, leb, ◌<◌, Some, None, refl, sym, ap, ◌∙◌, arith}
use Rattle.std.specs.Prelude.{flat_map, sum_by}
use Rattle.std.proofs.lemmas.Bool.{le-leb, lt-leb}
use Rattle.std.proofs.lemmas.List.{take-append-drop, length-drop, length-map, nil_from_length, length-append}
use Rattle.std.proofs.lemmas.List.Concat.{flat_map-append}
use Rattle.std.proofs.lemmas.List.Sums.{sum_by-cons}
use Rattle.std.proofs.lemmas.List.Folds.{flat_map-map}
use Rattle.std.proofs.Math.Nat.{mul-le-mul_left}
use Rattle.dbf_fields.specs.declared.field.Field.{Field}
use Rattle.dbf_fields.specs.Field.{widths}
use Rattle.dbf_fields.specs.Schema.{IsSchema}
use Rattle.dbf_fields.proofs.SchemaLaws.{schema_count}
use Rattle.dbf_image.specs.MemoStore.{Texts}
use Rattle.dbf_image.specs.Table.{Row}
use Rattle.dbf_image.specs.DbfText.{chunks}
use Rattle.dbf_image.specs.Store.{text_of, texts_of, memo_count, first_memo, cells_with, rows_with, rows_of}
use Rattle.dbf_image.proofs.Rows.{length-chunks}
use Rattle.dbf_image.specs.Blocks.{blocks_of, block_bytes, cells_memos, rows_blocks, rows_memos}
use Rattle.dbf_image.specs.declared.format.TheConstants.{BLOCK, MAX_BLOCK_NUMBER, MAX_RECORDS}
use Rattle.dbf_fields.specs.declared.format.TheConstants.{MAX_FIELDS, MEMO}

joined_by : (f : Field) (fs : List Field) (cell rest : List ℕ) (memos : List (List ℕ)) (b : Bool) → eqb f.kind MEMO ≡ b
    → ((m : List (List ℕ)) → memo_count fs ≤ length m → cells_memos fs (cells_with fs rest m) ≡ flat_map block_bytes (take (memo_count fs) m))
    → cond b (suc (memo_count fs)) (memo_count fs) ≤ length memos
    → cells_memos (f ∷ fs) (cond b (first_memo memos ∷ cells_with fs rest (drop 1 memos)) (cell ∷ cells_with fs rest memos)) ≡ flat_map block_bytes (take (cond b (suc (memo_count fs)) (memo_count fs)) memos)
joined_by f fs cell rest [] true e ih room = absurd (omega arith)
joined_by f fs cell rest (t ∷ ts) true e ih room = rw e (ap (λ (x : List ℕ). block_bytes t ++ x) (ih ts (omega arith)))
joined_by f fs cell rest memos false e ih room = rw e (ih memos room)

pub cells_joined : (fields : List Field) (bytes : List ℕ) (memos : List (List ℕ)) → memo_count fields ≤ length memos
    → cells_memos fields (cells_with fields bytes memos) ≡ flat_map block_bytes (take (memo_count fields) memos)
cells_joined [] bytes memos room = refl
cells_joined (f ∷ fs) bytes memos room = joined_by f fs (take f.width bytes) (drop f.width bytes) memos (eqb f.kind MEMO) refl (cells_joined fs (drop f.width bytes)) room

pub rows_joined : (fields : List Field) (ps memos : List (List ℕ)) → length memos ≡ length ps * memo_count fields → rows_memos fields (rows_with fields ps memos) ≡ flat_map block_bytes memos
rows_joined fields [] memos e = rw (nil_from_length memos (omega arith)) refl
rows_joined fields (p ∷ ps) memos e =
    let n : ℕ = memo_count fields in
    let here = cells_joined fields (drop 1 p) memos (omega arith) in
    let there = rows_joined fields ps (drop n memos) (omega (arith, length-drop n memos)) in
    rw (here, there) (sym (flat_map-append block_bytes (take n memos) (drop n memos)) ∙ ap (flat_map block_bytes) (take-append-drop n memos))

-- ---- texts by their numbers

pub store_memos : (fields : List Field) (count : ℕ) (bytes : List ℕ) (texts : Texts) (numbers : List ℕ) → length numbers ≡ count * memo_count fields
    → rows_memos fields (rows_of fields count bytes (texts_of texts numbers)) ≡ flat_map (λ number. block_bytes (text_of texts number)) numbers
store_memos fields count bytes texts numbers many =
    rows_joined fields (chunks (1 + widths fields) count bytes) (texts_of texts numbers) (rw (length-map numbers (text_of texts), length-chunks (1 + widths fields) count bytes) many)
    ∙ flat_map-map block_bytes (text_of texts) numbers

length-rows_memos : (fields : List Field) (rows : List Row) → length (rows_memos fields rows) ≡ BLOCK * rows_blocks fields rows
length-rows_memos fields [] = refl
length-rows_memos fields (r ∷ rs) = omega (arith, length-append (cells_memos fields r.cells) (rows_memos fields rs), length-cells_memos fields r.cells, length-rows_memos fields rs)

length-blocks : (texts : Texts) (numbers : List ℕ) → length (flat_map (λ number. block_bytes (text_of texts number)) numbers) ≡ BLOCK * sum_by (λ number. blocks_of (text_of texts number)) numbers
length-blocks texts [] = refl
length-blocks texts (n ∷ ns) =
    let later : List ℕ = flat_map (λ (x : ℕ). block_bytes (text_of texts x)) ns in
    let sum = sum_by-cons (λ (x : ℕ). blocks_of (text_of texts x)) n ns in
    omega (arith, sum, length-append (block_bytes (text_of texts n)) later, length-block (text_of texts n), length-blocks texts ns)

pub store_blocks : (fields : List Field) (count : ℕ) (bytes : List ℕ) (texts : Texts) (numbers : List ℕ) → length numbers ≡ count * memo_count fields
    → rows_blocks fields (rows_of fields count bytes (texts_of texts numbers)) ≡ sum_by (λ number. blocks_of (text_of texts number)) numbers
store_blocks fields count bytes texts numbers many =
    let same = ap (length {A = ℕ}) (store_memos fields count bytes texts numbers many) in
    omega (arith, same, length-rows_memos fields (rows_of fields count bytes (texts_of texts numbers)), length-blocks texts numbers)

pub next_read : (next : ℕ) (fields : List Field) (rows : List Row) (count : ℕ) (bytes : List ℕ) (texts : Texts) (numbers : List ℕ) → length numbers ≡ count * memo_count fields
    → rows ≡ rows_of fields count bytes (texts_of texts numbers) → next ≡ 1 + sum_by (λ number. blocks_of (text_of texts number)) numbers → next ≡ 1 + rows_blocks fields rows
next_read next fields rows count bytes texts numbers many given is = rw (given, store_blocks fields count bytes texts numbers many) is

pub free_some : (next free : ℕ) → next ≡ free → next ≤ MAX_BLOCK_NUMBER → Some next ≡ cond (leb free MAX_BLOCK_NUMBER) (Some free) None
free_some next free is le = rw (← is, le-leb next MAX_BLOCK_NUMBER le) refl

pub free_none : (next free : ℕ) → next ≡ free → MAX_BLOCK_NUMBER < next → None ≡ cond (leb free MAX_BLOCK_NUMBER) (Some free) None
free_none next free is over = rw (← is, lt-leb next MAX_BLOCK_NUMBER over) refl

pub memos_read : (fields : List Field) (rows : List Row) (count : ℕ) (bytes : List ℕ) (texts : Texts) (numbers : List ℕ) → length numbers ≡ count * memo_count fields
    → rows ≡ rows_of fields count bytes (texts_of texts numbers) → flat_map (λ number. block_bytes (text_of texts number)) numbers ≡ rows_memos fields rows
memos_read fields rows count bytes texts numbers many given = rw given (sym (store_memos fields count bytes texts numbers many))

-- ---- how many memos a table has at most

pub memos_each : (fields : List Field) → IsSchema fields → memo_count fields ≤ MAX_FIELDS
memos_each fields schema = omega (arith, memo_count_le fields, schema_count fields schema)

pub memos_all : (fields : List Field) (count : ℕ) → IsSchema fields → count ≤ MAX_RECORDS → count * memo_count fields ≤ MAX_RECORDS * MAX_FIELDS
memos_all fields count schema count_bounded = omega (arith, mul-le-mul_left count (memos_each fields schema))
