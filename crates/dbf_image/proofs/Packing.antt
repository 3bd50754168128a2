-- The records of a table that are moved to the front of its lists, and those that are left behind them.
use Rattle.std.proofs.Common.{◌≡◌, ◌≢◌, ℕ, ◌+◌, ◌-◌, ◌*◌, ◌<◌, ◌≤◌, Bool, cond, List, [], ◌∷◌, ◌++◌, length, take, drop, get_or, refl, sym, ap, ◌∙◌, append_assoc, arith}
use Rattle.std.specs.List.{AllByRecursion, copy_within}
use Rattle.std.specs.Prelude.{not}
use Rattle.std.proofs.Math.Seq.{paste}
use Rattle.std.proofs.lemmas.Bool.{eq-eqb, ne_eqb}
use Rattle.std.proofs.lemmas.List.{append-nil, length-map, length-drop, length-take-le, map-append, drop-drop, get_or-take, get_or-drop}
use Rattle.std.proofs.lemmas.List.Edits.{take-paste, drop-paste, length-paste}
use Rattle.std.proofs.lemmas.List.Elements.{filter-append}
use Rattle.dbf_fields.specs.declared.field.Field.{Field}
use Rattle.dbf_fields.specs.Field.{widths}
use Rattle.dbf_image.specs.declared.format.TheConstants.{DELETED}
use Rattle.dbf_image.specs.MemoStore.{Texts}
use Rattle.dbf_image.specs.Packing.{Moved}
use Rattle.dbf_image.specs.Table.{Row, kept_rows}
use Rattle.dbf_image.specs.DbfText.{chunks, AreRecords}
use Rattle.dbf_image.specs.Store.{text_of, texts_of, IsMemo, memo_count, row_with, rows_with, rows_of}
use Rattle.dbf_image.proofs.CellOffsets.{chunk-inside}
use Rattle.dbf_image.proofs.Edits.{rows_add}
use Rattle.dbf_image.proofs.MemoLists.{all_append}
use Rattle.dbf_image.proofs.Rows.{all_drop, all_take}
use Rattle.dbf_image.proofs.Steps.{rows_more}

pub times_le : (i n size : ℕ) → i ≤ n → i * size ≤ n * size
times_le i n size le =
    let e : n ≡ i + (n - i) = omega arith in
    let wide : n * size ≡ (i + (n - i)) * size = ap (λ (m : ℕ). m * size) e in
    omega (arith, wide)

-- ---- a part that is moved

pub part_moved : {X : Type 0} (xs : List X) (size from to : ℕ) → to ≤ from → from * size + size ≤ length xs
    → Moved size from to xs (copy_within xs (from * size) (from * size + size) (to * size))
part_moved xs size from to le inside =
    let start : ℕ = from * size in
    let dest : ℕ = to * size in
    let before : dest ≤ start = times_le to from size le in
    let part = drop start xs in
    let k : start + size - start ≡ size = omega arith in
    let room : dest ≤ length xs = omega arith in
    let long : size ≤ length part = omega (arith, length-drop start xs) in
    let far : start + size ≡ dest + size + (start - dest) = omega arith in
    let fits : dest + size ≤ length xs = omega arith in
    rw k (record {
      front = take-paste xs dest part size room long;
      rest = rw far (sym (drop-drop (start - dest) (dest + size) (paste xs dest part size)) ∙ ap (drop (start - dest)) (drop-paste xs dest part size room long) ∙ drop-drop (start - dest) (dest + size) xs);
      len = length-paste xs dest part size fits long;
    })

-- ---- what is left of the records

drop_next : {X : Type 0} (i size : ℕ) (xs : List X) → drop size (drop (i * size) xs) ≡ drop ((i + 1) * size) xs
drop_next i size xs =
    let e : i * size + size ≡ (i + 1) * size = omega arith in
    drop-drop size (i * size) xs ∙ ap (λ (k : ℕ). drop k xs) e

-- the record of an index, with its memos
abbrev pub row_from : List Field → ℕ → List ℕ → Texts → List ℕ → Row
row_from fields i bytes texts numbers = row_with fields (take (1 + widths fields) (drop (i * (1 + widths fields)) bytes)) (texts_of texts (take (memo_count fields) (drop (i * memo_count fields) numbers)))

-- those from an index on that are not marked
abbrev pub kept_from : List Field → ℕ → ℕ → List ℕ → Texts → List ℕ → List Row
kept_from fields n i bytes texts numbers = kept_rows (rows_with fields (chunks (1 + widths fields) (n - i) (drop (i * (1 + widths fields)) bytes)) (texts_of texts (drop (i * memo_count fields) numbers)))

kept-next : (fields : List Field) (n i : ℕ) (bytes : List ℕ) (texts : Texts) (numbers : List ℕ) → i < n
    → kept_from fields n i bytes texts numbers ≡ kept_rows (row_from fields i bytes texts numbers ∷ []) ++ kept_from fields n (i + 1) bytes texts numbers
kept-next fields n i bytes texts numbers lt =
    let size : ℕ = 1 + widths fields in
    let k : ℕ = memo_count fields in
    let rest : List ℕ = drop (i * size) bytes in
    let memos : List ℕ = drop (i * k) numbers in
    let others : List Row = rows_with fields (chunks size (n - (i + 1)) (drop size rest)) (texts_of texts (drop k memos)) in
    let first : Row = row_from fields i bytes texts numbers in
    rw (← drop_next i size bytes, ← drop_next i k numbers) (ap kept_rows (rows_more fields size n i rest texts memos lt) ∙ filter-append (λ (r : Row). not r.deleted) (first ∷ []) others)

-- ---- the records up to an index are packed

-- those that are kept stand in front, and the records from the index on where they stood
pub record Packs (fields : List Field) (n i kept : ℕ) (old now olds nows : List ℕ) : Type 0 where
  pub count_bounded : kept ≤ i
  pub len : length now ≡ length old
  pub many : length nows ≡ length olds
  pub left : drop (i * (1 + widths fields)) now ≡ drop (i * (1 + widths fields)) old
  pub others : drop (i * memo_count fields) nows ≡ drop (i * memo_count fields) olds
  pub each : (texts : Texts) → AllByRecursion (IsMemo texts) olds → AllByRecursion (IsMemo texts) (take (kept * memo_count fields) nows)
  pub rows : (texts : Texts) → rows_of fields kept (take (kept * (1 + widths fields)) now) (texts_of texts (take (kept * memo_count fields) nows)) ++ kept_from fields n i old texts olds
      ≡ kept_rows (rows_of fields n old (texts_of texts olds))

pub packs_none : (fields : List Field) (n : ℕ) (old olds : List ℕ) → Packs fields n 0 0 old old olds olds
packs_none fields n old olds =
    let size : 0 * (1 + widths fields) ≡ 0 = omega arith in
    let k : 0 * memo_count fields ≡ 0 = omega arith in
    let all : n - 0 ≡ n = omega arith in
    record {
      count_bounded = omega arith;
      len = refl;
      many = refl;
      left = refl;
      others = refl;
      each = λ texts h. rw k tt;
      rows = λ texts. rw (size, k, all) refl;
    }

-- the front is records with their memos
front_records : (fields : List Field) (n i kept : ℕ) (old now olds nows : List ℕ) → i ≤ n → AreRecords fields n old → Packs fields n i kept old now olds nows → AreRecords fields kept (take (kept * (1 + widths fields)) now)
front_records fields n i kept old now olds nows le records packs =
    let size : ℕ = 1 + widths fields in
    let inside : kept * size ≤ n * size = times_le kept n size (omega (arith, packs.count_bounded)) in
    record {
      whole = length-take-le (kept * size) now (omega (arith, packs.len, records.whole));
      count_bounded = omega (arith, packs.count_bounded, records.count_bounded);
    }

front_many : (fields : List Field) (n i kept : ℕ) (old now olds nows : List ℕ) → i ≤ n → length olds ≡ n * memo_count fields → Packs fields n i kept old now olds nows → length (take (kept * memo_count fields) nows) ≡ kept * memo_count fields
front_many fields n i kept old now olds nows le long packs =
    let inside : kept * memo_count fields ≤ n * memo_count fields = times_le kept n (memo_count fields) (omega (arith, packs.count_bounded)) in
    length-take-le (kept * memo_count fields) nows (omega (arith, packs.many))

-- at the end all are packed
pub all_packed : (fields : List Field) (n i kept : ℕ) (old now olds nows : List ℕ) (texts : Texts) → i ≡ n → Packs fields n i kept old now olds nows
    → rows_of fields kept (take (kept * (1 + widths fields)) now) (texts_of texts (take (kept * memo_count fields) nows)) ≡ kept_rows (rows_of fields n old (texts_of texts olds))
all_packed fields n i kept old now olds nows texts end packs =
    let none : n - i ≡ 0 = omega arith in
    sym (append-nil _) ∙ rw none at (packs.rows texts)

-- the flag of the next record
flag_there : (fields : List Field) (n i kept : ℕ) (old now olds nows : List ℕ) → Packs fields n i kept old now olds nows
    → get_or (take (1 + widths fields) (drop (i * (1 + widths fields)) old)) 0 0 ≡ get_or now (i * (1 + widths fields)) 0
flag_there fields n i kept old now olds nows packs =
    let size : ℕ = 1 + widths fields in
    let e : i * size + 0 ≡ i * size = omega arith in
    rw (← packs.left, get_or-take size (drop (i * size) now) 0 0 (omega arith), get_or-drop (i * size) now 0 0, e) refl

-- what stands after an index stands after the next
left_next : {X : Type 0} (i size : ℕ) (now old : List X) → drop (i * size) now ≡ drop (i * size) old → drop ((i + 1) * size) now ≡ drop ((i + 1) * size) old
left_next i size now old same = sym (drop_next i size now) ∙ ap (drop size) same ∙ drop_next i size old

-- a record that is marked is passed over
pub packs_marked : (fields : List Field) (n i kept : ℕ) (old now olds nows : List ℕ) → i < n → get_or now (i * (1 + widths fields)) 0 ≡ DELETED → Packs fields n i kept old now olds nows → Packs fields n (i + 1) kept old now olds nows
packs_marked fields n i kept old now olds nows lt marked packs =
    let flag = flag_there fields n i kept old now olds nows packs ∙ marked in
    record {
      count_bounded = omega (arith, packs.count_bounded);
      len = packs.len;
      many = packs.many;
      left = left_next i (1 + widths fields) now old packs.left;
      others = left_next i (memo_count fields) nows olds packs.others;
      each = packs.each;
      rows = λ texts.
          let first : Row = row_from fields i old texts olds in
          let others : List Row = kept_from fields n (i + 1) old texts olds in
          let gone : kept_rows (first ∷ []) ≡ [] = ap (λ (b : Bool). cond (not b) (first ∷ []) []) (eq-eqb _ _ flag) in
          let front = rows_of fields kept (take (kept * (1 + widths fields)) now) (texts_of texts (take (kept * memo_count fields) nows)) in
          ap (λ (rows : List Row). front ++ rows) (sym (kept-next fields n i old texts olds lt ∙ ap (λ (rows : List Row). rows ++ others) gone)) ∙ packs.rows texts;
    }

-- another one is moved to the front
pub packs_moved : (fields : List Field) (n i kept : ℕ) (old now new olds nows news : List ℕ) → i < n → AreRecords fields n old → length olds ≡ n * memo_count fields → get_or now (i * (1 + widths fields)) 0 ≢ DELETED
    → Moved (1 + widths fields) i kept now new → Moved (memo_count fields) i kept nows news → Packs fields n i kept old now olds nows → Packs fields n (i + 1) (kept + 1) old new olds news
packs_moved fields n i kept old now new olds nows news lt records long unmarked moved memos packs =
    let size : ℕ = 1 + widths fields in
    let k : ℕ = memo_count fields in
    let flag = flag_there fields n i kept old now olds nows packs in
    let row : List ℕ = take size (drop (i * size) old) in
    let own : List ℕ = take k (drop (i * k) olds) in
    let front : List ℕ = take (kept * size) now in
    let mine : List ℕ = take (kept * k) nows in
    let size_next : (kept + 1) * size ≡ kept * size + size = omega arith in
    let k_next : (kept + 1) * k ≡ kept * k + k = omega arith in
    let i_size : (i + 1) * size ≡ i * size + size = omega arith in
    let i_k : (i + 1) * k ≡ i * k + k = omega arith in
    let bytes : take ((kept + 1) * size) new ≡ front ++ row = rw size_next (moved.front ∙ ap (λ (xs : List ℕ). front ++ take size xs) packs.left) in
    let numbers : take ((kept + 1) * k) news ≡ mine ++ own = rw k_next (memos.front ∙ ap (λ (xs : List ℕ). mine ++ take k xs) packs.others) in
    let inside = chunk-inside size n i (length old) lt records.whole in
    let wide : length row ≡ 1 + widths fields = length-take-le size (drop (i * size) old) (omega (arith, length-drop (i * size) old)) in
    let whole = front_records fields n i kept old now olds nows (omega arith) records packs in
    let many = front_many fields n i kept old now olds nows (omega arith) long packs in
    record {
      count_bounded = omega (arith, packs.count_bounded);
      len = moved.len ∙ packs.len;
      many = memos.len ∙ packs.many;
      left = (rw i_size moved.rest) ∙ left_next i size now old packs.left;
      others = (rw i_k memos.rest) ∙ left_next i k nows olds packs.others;
      each = λ texts h. rw numbers (all_append (IsMemo texts) mine own (packs.each texts h) (all_take (IsMemo texts) (drop (i * k) olds) k (all_drop (IsMemo texts) olds (i * k) h)));
      rows = λ texts.
          let first : Row = row_from fields i old texts olds in
          let before : List Row = rows_of fields kept front (texts_of texts mine) in
          let others : List Row = kept_from fields n (i + 1) old texts olds in
          let differs = ne_eqb (get_or row 0 0) DELETED (λ e. unmarked (sym flag ∙ e)) in
          let stays : kept_rows (first ∷ []) ≡ first ∷ [] = ap (λ (b : Bool). cond (not b) (first ∷ []) []) differs in
          let added : rows_of fields (kept + 1) (front ++ row) (texts_of texts (mine ++ own)) ≡ before ++ first ∷ [] =
          ap (rows_of fields (kept + 1) (front ++ row)) (map-append (text_of texts) mine own)
          ∙ rows_add fields kept front row (texts_of texts mine) (texts_of texts own) whole wide (length-map mine (text_of texts) ∙ many) in
          rw (bytes, numbers) (ap (λ (rows : List Row). rows ++ others) added
          ∙ append_assoc before (first ∷ []) others
          ∙ ap (λ (rows : List Row). before ++ rows) (sym (kept-next fields n i old texts olds lt ∙ ap (λ (rows : List Row). rows ++ others) stays))
          ∙ packs.rows texts);
    }
