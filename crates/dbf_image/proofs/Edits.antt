-- What a change of the bytes or of the memos makes of the rows.
use Rattle.std.proofs.Math.Seq.{take-nil, take-set-lt}
use Rattle.std.proofs.Common.{◌≡◌, ◌≢◌, ℕ, zero, suc, ◌+◌, ◌-◌, ◌*◌, ◌<◌, ◌≤◌, Bool, true, false, cond, eqb, List, [], ◌∷◌, ◌++◌, length, map, take, drop, replicate, get_or, set, refl, sym, ap, ◌∙◌, arith, inl, inr}
use Rattle.std.proofs.lemmas.Bool.{eq-eqb, ne_eqb, cases_Bool}
use Rattle.std.proofs.lemmas.List.{take-append-le, drop-append-le, take_all, take_at, drop_at, take-set-le, drop-set-lt, drop-set-add, length-set, drop-drop, length-take-le, length-drop, length-append, take-replicate, drop-replicate}
use Rattle.std.proofs.lemmas.List.Sums.{sum_by-cons}
use Rattle.std.proofs.lemmas.Slice.{drop-put_mid, take-put_mid_below}
use borrow.Rule.Slice.PartMut.{put_mid}
use Rattle.dbf_fields.specs.declared.field.Field.{Field}
use Rattle.dbf_fields.specs.Field.{widths}
use Rattle.dbf_image.specs.declared.format.TheConstants.{DELETED, KEPT, MAX_RECORDS}
use Rattle.dbf_fields.specs.Layout.{width_of}
use Rattle.dbf_image.specs.Table.{Row, kind_at, blank_cell, blank_row, row_with_cell, row_marked}
use Rattle.dbf_image.specs.DbfText.{chunks, AreRecords}
use Rattle.dbf_image.specs.Store.{first_memo, memo_count, cells_with, row_with, rows_with, rows_of}
use Rattle.dbf_image.proofs.ReadBack.{flag_again}
use Rattle.dbf_image.proofs.Rows.{length-chunks}
use Rattle.dbf_image.proofs.CellOffsets.{chunk_here, row_here, cell_within, memo_within, chunk-inside}
use Rattle.dbf_fields.specs.declared.format.TheConstants.{BLANK, MEMO}

-- ---- one more record

pub chunks_push : (size n : ℕ) (bytes row : List ℕ) → length bytes ≡ n * size → length row ≡ size → chunks size (n + 1) (bytes ++ row) ≡ chunks size n bytes ++ row ∷ []
chunks_push size zero [] row e long = rw (take_all size row (omega arith)) refl
chunks_push size zero (b ∷ bs) row e long = absurd (omega arith)
chunks_push size (suc n) bytes row e long =
    let k : suc n + 1 ≡ suc (n + 1) = omega arith in
    let wide : suc n * size ≡ size + n * size = omega arith in
    let room : size ≤ length bytes = omega arith in
    let there = chunks_push size n (drop size bytes) row (omega (arith, length-drop size bytes)) long in
    rw (k, take-append-le size bytes row room, drop-append-le size bytes row room, there) refl

-- a record's cells take no more than its own memos
pub cells_front : (fields : List Field) (bytes : List ℕ) (memos : List (List ℕ)) → cells_with fields bytes (take (memo_count fields) memos) ≡ cells_with fields bytes memos
cells_front [] bytes memos = refl
cells_front (f ∷ fs) bytes [] = rw take-nil refl
cells_front (f ∷ fs) bytes (t ∷ ts) = elim (cases_Bool (eqb f.kind MEMO)) [
  | inl e ↦ rw e (ap (λ (x : List (List ℕ)). t ∷ x) (cells_front fs (drop f.width bytes) ts))
  | inr e ↦ rw e (ap (λ (x : List (List ℕ)). take f.width bytes ∷ x) (cells_front fs (drop f.width bytes) (t ∷ ts)))
]

abbrev row_of_cells : List ℕ → List (List ℕ) → Row
row_of_cells bytes cells = record { deleted = eqb (get_or bytes 0 0) DELETED; cells = cells }

row_same : (fields : List Field) (bytes : List ℕ) (memos others : List (List ℕ)) → take (memo_count fields) memos ≡ take (memo_count fields) others
    → row_with fields bytes memos ≡ row_with fields bytes others
row_same fields bytes memos others e =
    ap (row_of_cells bytes) (sym (cells_front fields (drop 1 bytes) memos) ∙ ap (cells_with fields (drop 1 bytes)) e ∙ cells_front fields (drop 1 bytes) others)

pub rows_append : (fields : List Field) (ps qs memos more : List (List ℕ)) → length memos ≡ length ps * memo_count fields
    → rows_with fields (ps ++ qs) (memos ++ more) ≡ rows_with fields ps memos ++ rows_with fields qs more
rows_append fields [] qs [] more e = refl
rows_append fields [] qs (t ∷ ts) more e = absurd (omega arith)
rows_append fields (p ∷ ps) qs memos more e =
    let n : ℕ = memo_count fields in
    let room : n ≤ length memos = omega arith in
    let here = row_same fields p (memos ++ more) memos (take-append-le n memos more room) in
    rw (here, drop-append-le n memos more room, rows_append fields ps qs (drop n memos) more (omega (arith, length-drop n memos))) refl

cells_none : (fields : List Field) (bytes : List ℕ) (k : ℕ) → cells_with fields bytes (replicate k []) ≡ cells_with fields bytes []
cells_none [] bytes k = refl
cells_none (f ∷ fs) bytes zero = refl
cells_none (f ∷ fs) bytes (suc k) = elim (cases_Bool (eqb f.kind MEMO)) [
  | inl e ↦ rw e (ap (λ (x : List (List ℕ)). [] ∷ x) (cells_none fs (drop f.width bytes) k))
  | inr e ↦ rw e (ap (λ (x : List (List ℕ)). take f.width bytes ∷ x) (cells_none fs (drop f.width bytes) (suc k)))
]

-- a record with memos of its own
pub rows_add : (fields : List Field) (n : ℕ) (bytes row : List ℕ) (memos own : List (List ℕ)) → AreRecords fields n bytes → length row ≡ 1 + widths fields → length memos ≡ n * memo_count fields
    → rows_of fields (n + 1) (bytes ++ row) (memos ++ own) ≡ rows_of fields n bytes memos ++ row_with fields row own ∷ []
rows_add fields n bytes row memos own records long many =
    let size : ℕ = 1 + widths fields in
    let counted : length memos ≡ length (chunks size n bytes) * memo_count fields = rw (length-chunks size n bytes) many in
    ap (λ (ps : List (List ℕ)). rows_with fields ps (memos ++ own)) (chunks_push size n bytes row records.whole long)
    ∙ rows_append fields (chunks size n bytes) (row ∷ []) memos own counted

pub rows_push : (fields : List Field) (n : ℕ) (bytes row : List ℕ) (memos : List (List ℕ)) → AreRecords fields n bytes → length row ≡ 1 + widths fields → length memos ≡ n * memo_count fields
    → rows_of fields (n + 1) (bytes ++ row) (memos ++ replicate (memo_count fields) []) ≡ rows_of fields n bytes memos ++ row_with fields row [] ∷ []
rows_push fields n bytes row memos records long many =
    rows_add fields n bytes row memos (replicate (memo_count fields) []) records long many
    ∙ ap (λ (cells : List (List ℕ)). rows_of fields n bytes memos ++ row_of_cells row cells ∷ []) (cells_none fields (drop 1 row) (memo_count fields))

cells_blank : (fields : List Field) → cells_with fields (replicate (widths fields) BLANK) [] ≡ map blank_cell fields
cells_blank [] = refl
cells_blank (f ∷ fs) =
    let sum : widths (f ∷ fs) ≡ f.width + widths fs = sum_by-cons (λ (g : Field). g.width) f fs in
    let left : f.width + widths fs - f.width ≡ widths fs = omega arith in
    let here = take-replicate {X = ℕ} f.width (f.width + widths fs) BLANK (omega arith) in
    let there = drop-replicate {X = ℕ} f.width (f.width + widths fs) BLANK ∙ ap (λ (k : ℕ). replicate k BLANK) left in
    elim (cases_Bool (eqb f.kind MEMO)) [
      | inl e ↦ rw (e, sum, there, cells_blank fs) refl
      | inr e ↦ rw (e, sum, there, here, cells_blank fs) refl
    ]

pub row_blank : (fields : List Field) → row_with fields (replicate (1 + widths fields) BLANK) [] ≡ blank_row fields
row_blank fields =
    let k : 1 + widths fields ≡ suc (widths fields) = omega arith in
    rw k (ap (λ (cells : List (List ℕ)). record { deleted = false; cells = cells }) (cells_blank fields))

pub resized : {X : Type 0} (xs : List X) (n k w : ℕ) (x : X) → n ≡ length xs + w → k ≡ w → take n xs ++ replicate k x ≡ xs ++ replicate w x
resized xs n k w x e same = rw (same, take_all n xs (omega arith)) refl

-- ---- bytes that are written over others

pub drop_put : (s a k : ℕ) (xs ys : List ℕ) → s + a ≤ length xs → drop s (put_mid (s + a) k xs ys) ≡ put_mid a k (drop s xs) ys
drop_put zero a k xs ys le =
    let e : 0 + a ≡ a = omega arith in
    rw e refl
drop_put (suc s) a k [] ys le = absurd (omega arith)
drop_put (suc s) a k (x ∷ xs) ys le =
    let e : suc s + a ≡ suc (s + a) = omega arith in
    rw e (drop_put s a k xs ys (omega arith))

pub length-put : (a : ℕ) (xs ys : List ℕ) → a + length ys ≤ length xs → length (put_mid a (length ys) xs ys) ≡ length xs
length-put a xs ys room =
    let front : length (take a xs) ≡ a = length-take-le a xs (omega arith) in
    let rest : List ℕ = drop (length ys) (drop a xs) in
    omega (arith, front, length-append (take a xs) (ys ++ rest), length-append ys rest, length-drop (length ys) (drop a xs), length-drop a xs)

take_front : (size : ℕ) (xs ys : List ℕ) → length ys ≤ size → size ≤ length xs → take size (ys ++ drop (length ys) xs) ≡ ys ++ drop (length ys) (take size xs)
take_front size xs [] le room = refl
take_front zero xs (y ∷ ys) le room = absurd (omega arith)
take_front (suc size) [] (y ∷ ys) le room = absurd (omega arith)
take_front (suc size) (x ∷ xs) (y ∷ ys) le room = ap (λ (zs : List ℕ). y ∷ zs) (take_front size xs ys (omega arith) (omega arith))

take_put : (size m : ℕ) (xs ys : List ℕ) → m + length ys ≤ size → size ≤ length xs → take size (put_mid m (length ys) xs ys) ≡ put_mid m (length ys) (take size xs) ys
take_put size zero xs ys le room = take_front size xs ys (omega arith) room
take_put zero (suc m) xs ys le room = absurd (omega arith)
take_put (suc size) (suc m) [] ys le room = absurd (omega arith)
take_put (suc size) (suc m) (x ∷ xs) ys le room = ap (λ (zs : List ℕ). x ∷ zs) (take_put size m xs ys (omega arith) (omega arith))

-- inside one of the chunks
pub chunks_put : (size n i m : ℕ) (bytes ys : List ℕ) → i < n → n * size ≤ length bytes → m + length ys ≤ size
    → chunks size n (put_mid (i * size + m) (length ys) bytes ys) ≡ set (chunks size n bytes) i (put_mid m (length ys) (take size (drop (i * size) bytes)) ys)
chunks_put size zero i m bytes ys lt room le = absurd (omega arith)
chunks_put size (suc n) zero m bytes ys lt room le =
    let wide : suc n * size ≡ size + n * size = omega arith in
    let k : 0 * size + m ≡ m = omega arith in
    let z : 0 * size ≡ 0 = omega arith in
    rw (k, z, take_put size m bytes ys le (omega arith), drop-put_mid m (length ys) bytes ys size le (omega arith) refl) refl
chunks_put size (suc n) (suc i) m bytes ys lt room le =
    let wide : suc n * size ≡ size + n * size = omega arith in
    let near = chunk-inside size (suc n) (suc i) (suc n * size) lt refl in
    let k : suc i * size + m ≡ size + (i * size + m) = omega arith in
    let z : suc i * size ≡ size + i * size = omega arith in
    let inside : i * size + m ≤ length (drop size bytes) = omega (arith, length-drop size bytes) in
    rw (
      k,
      z,
      ← drop-drop (i * size) size bytes,
      take-put_mid_below (size + (i * size + m)) (length ys) bytes ys size (omega arith) (omega arith),
      drop_put size (i * size + m) (length ys) bytes ys (omega arith),
      chunks_put size n i m (drop size bytes) ys (omega arith) (omega (arith, length-drop size bytes)) le,
    ) refl

-- one of the rows has another chunk
rows_set : (fields : List Field) (ps memos : List (List ℕ)) (i : ℕ) (p : List ℕ)
    → rows_with fields (set ps i p) memos ≡ set (rows_with fields ps memos) i (row_with fields p (drop (i * memo_count fields) memos))
rows_set fields [] memos i p = refl
rows_set fields (q ∷ ps) memos zero p =
    let k : 0 * memo_count fields ≡ 0 = omega arith in
    rw k refl
rows_set fields (q ∷ ps) memos (suc i) p =
    let n : ℕ = memo_count fields in
    let k : suc i * n ≡ n + i * n = omega arith in
    rw (k, ← drop-drop (i * n) n memos, rows_set fields ps (drop n memos) i p) refl

cells_put : (fields : List Field) (j : ℕ) (bytes ys : List ℕ) (memos : List (List ℕ)) → j < length fields → kind_at fields j ≢ MEMO → length ys ≡ width_of fields j → widths fields ≤ length bytes
    → cells_with fields (put_mid (widths (take j fields)) (length ys) bytes ys) memos ≡ set (cells_with fields bytes memos) j ys
cells_put [] j bytes ys memos lt other wide room = absurd (omega arith)
cells_put (f ∷ fs) zero bytes ys memos lt other wide room =
    rw (ne_eqb f.kind MEMO other, wide, take_at ys (drop f.width bytes) f.width wide, drop_at ys (drop f.width bytes) f.width wide) refl
cells_put (f ∷ fs) (suc j) bytes ys memos lt other wide room =
    let front : widths (f ∷ take j fs) ≡ f.width + widths (take j fs) = sum_by-cons (λ (g : Field). g.width) f (take j fs) in
    let whole : widths (f ∷ fs) ≡ f.width + widths fs = sum_by-cons (λ (g : Field). g.width) f fs in
    let within = cell_within fs j (omega arith) in
    let left : widths fs ≤ length (drop f.width bytes) = omega (arith, length-drop f.width bytes) in
    rw (
      front,
      take-put_mid_below (f.width + widths (take j fs)) (length ys) bytes ys f.width (omega arith) (omega arith),
      drop_put f.width (widths (take j fs)) (length ys) bytes ys (omega arith),
    ) (elim (cases_Bool (eqb f.kind MEMO)) [
      | inl e ↦ rw (e, cells_put fs j (drop f.width bytes) ys (drop 1 memos) (omega arith) other wide left) refl
      | inr e ↦ rw (e, cells_put fs j (drop f.width bytes) ys memos (omega arith) other wide left) refl
    ])

flag_stays : (m k : ℕ) (bytes ys : List ℕ) → 1 ≤ length bytes → get_or (put_mid (1 + m) k bytes ys) 0 0 ≡ get_or bytes 0 0
flag_stays m k [] ys some = absurd (omega arith)
flag_stays m k (b ∷ bs) ys some =
    let e : 1 + m ≡ suc m = omega arith in
    rw e refl

row_put : (fields : List Field) (j : ℕ) (bytes ys : List ℕ) (memos : List (List ℕ)) → j < length fields → kind_at fields j ≢ MEMO → length ys ≡ width_of fields j → 1 + widths fields ≤ length bytes
    → row_with fields (put_mid (1 + widths (take j fields)) (length ys) bytes ys) memos ≡ row_with_cell (row_with fields bytes memos) j ys
row_put fields j bytes ys memos lt other wide room =
    let within = cell_within fields j lt in
    let cells = cells_put fields j (drop 1 bytes) ys memos lt other wide (omega (arith, length-drop 1 bytes)) in
    let rest = drop_put 1 (widths (take j fields)) (length ys) bytes ys (omega arith) in
    let flag = flag_stays (widths (take j fields)) (length ys) bytes ys (omega arith) in
    rw (flag, rest, cells) refl

pub rows_put : (fields : List Field) (n i j : ℕ) (bytes ys : List ℕ) (memos : List (List ℕ)) (d : Row) → AreRecords fields n bytes → i < n → j < length fields → kind_at fields j ≢ MEMO → length ys ≡ width_of fields j
    → rows_of fields n (put_mid (i * (1 + widths fields) + (1 + widths (take j fields))) (length ys) bytes ys) memos
    ≡ set (rows_of fields n bytes memos) i (row_with_cell (get_or (rows_of fields n bytes memos) i d) j ys)
rows_put fields n i j bytes ys memos d records lt inside other wide =
    let size : ℕ = 1 + widths fields in
    let from : ℕ = 1 + widths (take j fields) in
    let chunk : List ℕ = take size (drop (i * size) bytes) in
    let within = cell_within fields j inside in
    let near_chunk = chunk-inside size n i (length bytes) lt records.whole in
    let long : length chunk ≡ size = length-take-le size (drop (i * size) bytes) (omega (arith, length-drop (i * size) bytes)) in
    ap (λ (ps : List (List ℕ)). rows_with fields ps memos) (chunks_put size n i from bytes ys lt (omega (arith, records.whole)) (omega arith))
    ∙ rows_set fields (chunks size n bytes) memos i (put_mid from (length ys) chunk ys)
    ∙ ap (set (rows_of fields n bytes memos) i) (
    row_put fields j chunk ys (drop (i * memo_count fields) memos) inside other wide (omega arith) ∙ ap (λ (r : Row). row_with_cell r j ys) (sym (row_here fields n i bytes memos d lt))
    )

-- ---- a memo that is replaced

set_by : (fs : List Field) (cell rest text : List ℕ) (j n k : ℕ) (memos : List (List ℕ)) (b : Bool)
    → ((m : List (List ℕ)) → n ≤ length m → cells_with fs rest (set m k text) ≡ set (cells_with fs rest m) j text) → cond b (suc n) n ≤ length memos
    → cond b (first_memo (set memos (cond b (suc k) k) text) ∷ cells_with fs rest (drop 1 (set memos (cond b (suc k) k) text))) (cell ∷ cells_with fs rest (set memos (cond b (suc k) k) text))
    ≡ set (cond b (first_memo memos ∷ cells_with fs rest (drop 1 memos)) (cell ∷ cells_with fs rest memos)) (suc j) text
set_by fs cell rest text j n k [] true ih room = absurd (omega arith)
set_by fs cell rest text j n k (t ∷ ts) true ih room = ap (λ (x : List (List ℕ)). t ∷ x) (ih ts (omega arith))
set_by fs cell rest text j n k memos false ih room = ap (λ (x : List (List ℕ)). cell ∷ x) (ih memos room)

cells_set : (fields : List Field) (j : ℕ) (bytes text : List ℕ) (memos : List (List ℕ)) → j < length fields → kind_at fields j ≡ MEMO → memo_count fields ≤ length memos
    → cells_with fields bytes (set memos (memo_count (take j fields)) text) ≡ set (cells_with fields bytes memos) j text
cells_set [] j bytes text memos lt kind room = absurd (omega arith)
cells_set (f ∷ fs) zero bytes text [] lt kind room =
    let some : suc (memo_count fs) ≤ 0 = rw (eq-eqb f.kind MEMO kind) at room in
    absurd (omega arith)
cells_set (f ∷ fs) zero bytes text (t ∷ ts) lt kind room = rw (eq-eqb f.kind MEMO kind) refl
cells_set (f ∷ fs) (suc j) bytes text memos lt kind room =
    set_by fs (take f.width bytes) (drop f.width bytes) text j (memo_count fs) (memo_count (take j fs)) memos (eqb f.kind MEMO)
    (λ m h. cells_set fs j (drop f.width bytes) text m (omega arith) kind h) room

memo_set : (fields : List Field) (ps memos : List (List ℕ)) (i m : ℕ) (text e : List ℕ) → m < memo_count fields → i < length ps
    → rows_with fields ps (set memos (i * memo_count fields + m) text) ≡ set (rows_with fields ps memos) i (row_with fields (get_or ps i e) (set (drop (i * memo_count fields) memos) m text))
memo_set fields [] memos i m text e lt inside = absurd (omega arith)
memo_set fields (p ∷ ps) memos zero m text e lt inside =
    let k : 0 * memo_count fields + m ≡ m = omega arith in
    let z : 0 * memo_count fields ≡ 0 = omega arith in
    rw (k, z, drop-set-lt (memo_count fields) memos m text lt) refl
memo_set fields (p ∷ ps) memos (suc i) m text e lt inside =
    let n : ℕ = memo_count fields in
    let k : suc i * n + m ≡ n + (i * n + m) = omega arith in
    let z : suc i * n ≡ n + i * n = omega arith in
    let here = row_same fields p (set memos (n + (i * n + m)) text) memos (take-set-le n memos (n + (i * n + m)) text (omega arith)) in
    rw (k, z, ← drop-drop (i * n) n memos, here, drop-set-add n memos (i * n + m) text, memo_set fields ps (drop n memos) i m text e lt (omega arith)) refl

pub rows_memo : (fields : List Field) (n i j : ℕ) (bytes text : List ℕ) (memos : List (List ℕ)) (d : Row) → length memos ≡ n * memo_count fields → i < n → j < length fields → kind_at fields j ≡ MEMO
    → rows_of fields n bytes (set memos (i * memo_count fields + memo_count (take j fields)) text)
    ≡ set (rows_of fields n bytes memos) i (row_with_cell (get_or (rows_of fields n bytes memos) i d) j text)
rows_memo fields n i j bytes text memos d many lt inside kind =
    let size : ℕ = 1 + widths fields in
    let mc : ℕ = memo_count fields in
    let nothing : List ℕ = [] in
    let chunk : List ℕ = take size (drop (i * size) bytes) in
    let own : List (List ℕ) = drop (i * mc) memos in
    let m : ℕ = memo_count (take j fields) in
    let within = memo_within fields j inside kind in
    let near_chunk = chunk-inside mc n i (length memos) lt many in
    let room : mc ≤ length own = omega (arith, length-drop (i * mc) memos) in
    let here : i < length (chunks size n bytes) = rw (length-chunks size n bytes) lt in
    memo_set fields (chunks size n bytes) memos i m text nothing within here
    ∙ ap (set (rows_of fields n bytes memos) i) (
    ap (λ (p : List ℕ). row_with fields p (set own m text)) (chunk_here size n i bytes nothing lt)
    ∙ ap (row_of_cells chunk) (cells_set fields j (drop 1 chunk) text own inside kind room)
    ∙ ap (λ (r : Row). row_with_cell r j text) (sym (row_here fields n i bytes memos d lt))
    )

-- a records of one more record
pub records_push : (fields : List Field) (n : ℕ) (bytes row : List ℕ) → AreRecords fields n bytes → length row ≡ 1 + widths fields → n < MAX_RECORDS → AreRecords fields (n + 1) (bytes ++ row)
records_push fields n bytes row records long count_bounded =
    let more : (n + 1) * (1 + widths fields) ≡ n * (1 + widths fields) + (1 + widths fields) = omega arith in
    record { whole = omega (arith, length-append bytes row, records.whole); count_bounded = omega arith }

-- a records that is written over at one offset
pub records_put : (fields : List Field) (n a : ℕ) (bytes ys : List ℕ) → AreRecords fields n bytes → a + length ys ≤ length bytes → AreRecords fields n (put_mid a (length ys) bytes ys)
records_put fields n a bytes ys records room = record { whole = length-put a bytes ys room ∙ records.whole; count_bounded = records.count_bounded }

-- ---- a flag that is replaced

chunks_set : (size n i b : ℕ) (bytes : List ℕ) → i < n → 0 < size → chunks size n (set bytes (i * size) b) ≡ set (chunks size n bytes) i (set (take size (drop (i * size) bytes)) 0 b)
chunks_set size zero i b bytes lt some = absurd (omega arith)
chunks_set size (suc n) zero b bytes lt some =
    let z : 0 * size ≡ 0 = omega arith in
    rw (z, take-set-lt size bytes 0 b some, drop-set-lt size bytes 0 b some) refl
chunks_set size (suc n) (suc i) b bytes lt some =
    let z : suc i * size ≡ size + i * size = omega arith in
    rw (
      z,
      ← drop-drop (i * size) size bytes,
      take-set-le size bytes (size + i * size) b (omega arith),
      drop-set-add size bytes (i * size) b,
      chunks_set size n i b (drop size bytes) (omega arith) some,
    ) refl

row_flag : (fields : List Field) (bytes : List ℕ) (memos : List (List ℕ)) (deleted : Bool) → 0 < length bytes → row_with fields (set bytes 0 (cond deleted DELETED KEPT)) memos ≡ row_marked (row_with fields bytes memos) deleted
row_flag fields [] memos deleted some = absurd (omega arith)
row_flag fields (b ∷ bs) memos deleted some = rw (flag_again deleted) refl

-- a record's first byte is replaced by a flag
pub rows_flag : (fields : List Field) (n i : ℕ) (bytes : List ℕ) (memos : List (List ℕ)) (deleted : Bool) (d : Row) → AreRecords fields n bytes → i < n
    → rows_of fields n (set bytes (i * (1 + widths fields)) (cond deleted DELETED KEPT)) memos
    ≡ set (rows_of fields n bytes memos) i (row_marked (get_or (rows_of fields n bytes memos) i d) deleted)
rows_flag fields n i bytes memos deleted d records lt =
    let size : ℕ = 1 + widths fields in
    let flag : ℕ = cond deleted DELETED KEPT in
    let chunk : List ℕ = take size (drop (i * size) bytes) in
    let within = chunk-inside size n i (length bytes) lt records.whole in
    let long : length chunk ≡ size = length-take-le size (drop (i * size) bytes) (omega (arith, length-drop (i * size) bytes)) in
    ap (λ (ps : List (List ℕ)). rows_with fields ps memos) (chunks_set size n i flag bytes lt (omega arith))
    ∙ rows_set fields (chunks size n bytes) memos i (set chunk 0 flag)
    ∙ ap (set (rows_of fields n bytes memos) i) (
    row_flag fields chunk (drop (i * memo_count fields) memos) deleted (omega arith) ∙ ap (λ (r : Row). row_marked r deleted) (sym (row_here fields n i bytes memos d lt))
    )

pub records_set : (fields : List Field) (n k b : ℕ) (bytes : List ℕ) → AreRecords fields n bytes → AreRecords fields n (set bytes k b)
records_set fields n k b bytes records = record { whole = length-set bytes k b ∙ records.whole; count_bounded = records.count_bounded }
