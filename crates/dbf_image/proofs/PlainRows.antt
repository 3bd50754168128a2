-- Records without memos are their bytes, where each flag is the one that is written.
use Rattle.std.proofs.Common.{◌≡◌, ℕ, zero, suc, ◌+◌, ◌-◌, ◌*◌, ◌<◌, ◌≤◌, List, [], ◌∷◌, ◌++◌, length, take, drop, refl, ◌∙◌, ap₂, take-add, length-take-le, arith}
use Rattle.std.specs.Prelude.{flat_map, slice_index}
use Rattle.std.specs.List.{AllByRecursion}
use Rattle.std.proofs.lemmas.List.{length-drop}
use Rattle.dbf_fields.specs.declared.field.Field.{Field}
use Rattle.dbf_fields.specs.Field.{widths}
use Rattle.dbf_image.specs.DbfText.{chunks}
use Rattle.dbf_image.specs.Store.{memo_count, row_with, rows_with, HasWrittenFlag}
use Rattle.dbf_image.specs.Blocks.{cells_blocks}
use Rattle.dbf_image.specs.Image.{row_bytes, rows_bytes}
use Rattle.dbf_image.proofs.Steps.{plain_bytes}

-- the first of the records that are left, and the others
pub flags-next : (size n i : ℕ) (bytes : List ℕ) → i < n → HasWrittenFlag (take size bytes)
    → AllByRecursion HasWrittenFlag (chunks size (n - (i + 1)) (drop size bytes)) → AllByRecursion HasWrittenFlag (chunks size (n - i) bytes)
flags-next size n i bytes lt here later =
    let k : n - i ≡ suc (n - (i + 1)) = omega arith in
    rw k (here, later)

first_and_rest : (xs : List ℕ) → 1 ≤ length xs → slice_index xs 0 ∷ drop 1 xs ≡ xs
first_and_rest [] some = absurd (omega (arith, some))
first_and_rest (x ∷ xs) some = refl

plain_row : (fields : List Field) (bytes : List ℕ) (memos : List (List ℕ)) (next : ℕ) → memo_count fields ≡ 0 → length bytes ≡ 1 + widths fields → HasWrittenFlag bytes
    → row_bytes next fields (row_with fields bytes memos) ≡ bytes
plain_row fields bytes memos next none long flag =
    let cells = plain_bytes fields (drop 1 bytes) memos next none (omega (arith, length-drop 1 bytes, long)) in
    rw (flag, cells) (first_and_rest bytes (omega (arith, long)))

pub plain_rows : (fields : List Field) (size n : ℕ) (bytes : List ℕ) (memos : List (List ℕ)) (next : ℕ) → memo_count fields ≡ 0 → size ≡ 1 + widths fields → n * size ≤ length bytes
    → AllByRecursion HasWrittenFlag (chunks size n bytes) → flat_map (λ bytes. bytes) (rows_bytes next fields (rows_with fields (chunks size n bytes) memos)) ≡ take (n * size) bytes
plain_rows fields size zero bytes memos next none wide room flags =
    let k : 0 * size ≡ 0 = omega arith in
    rw k refl
plain_rows fields size (suc n) bytes memos next none wide room flags =
    let k : suc n * size ≡ size + n * size = omega arith in
    let room' : size + n * size ≤ length bytes = rw k at room in
    let front = take size bytes in
    let row = row_with fields front memos in
    let memos' = drop (memo_count fields) memos in
    let next' = next + cells_blocks fields row.cells in
    let here = plain_row fields front memos next none (length-take-le size bytes (omega (arith, room')) ∙ wide) flags.0 in
    let later = plain_rows fields size n (drop size bytes) memos' next' none wide (omega (arith, room', length-drop size bytes)) flags.1 in
    rw (k, take-add size (n * size) bytes) (ap₂ (λ (a b : List ℕ). a ++ b) here later)
