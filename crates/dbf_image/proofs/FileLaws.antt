-- The files that are written of a table are files of that table.
use Rattle.std.proofs.Common.{◌≡◌, ℕ, suc, ◌+◌, ◌*◌, ◌^◌, ◌<◌, ◌≤◌, true, List, [], ◌∷◌, ◌++◌, length, map, drop, Some, refl, sym, ap, ◌∙◌, inl, inr, append_assoc, lit<, arith}
use Rattle.std.specs.Prelude.{flat_map}
use Rattle.std.specs.List.{AllByRecursion}
use Rattle.std.proofs.lemmas.Bool.{eqb-true, cases_Bool}
use Rattle.std.proofs.lemmas.List.{length-append, append-nil, map-id}
use Rattle.std.proofs.lemmas.List.Sums.{sum_by-cons}
use Rattle.byteorder.specs.Numbers.{little_number-reads_back}
use Rattle.dbf_fields.specs.declared.field.Field.{Field}
use Rattle.dbf_fields.specs.Field.{widths, folded, has_width}
use Rattle.dbf_fields.proofs.SchemaLaws.{schema_names, schema_widths, schema_count, schema_wide}
use Rattle.dbf_image.specs.Table.{Row, Table, has_memos, AreCells, IsRow, IsTable}
use Rattle.dbf_image.specs.DbfText.{chunks, header_length, record_length, header_record_count, field_of, EncodesRow, EncodesRows, IsDbf}
use Rattle.dbf_image.specs.Blocks.{cells_bytes, cells_blocks, cells_memos, cell_bytes, cell_blocks, rows_blocks, rows_memos, next_free, memo_header, memo_image}
use Rattle.dbf_image.specs.Image.{header_bytes, descriptor, row_bytes, rows_bytes, image}
use Rattle.dbf_image.proofs.ReadBack.{chunks-join, length-join, names_from, descriptors_long, fields_again, not_end, after_header, end_here, not_here, flag_again}
use Rattle.dbf_image.proofs.BlockLaws.{AreWide, cells_again, length-cell, length-cells_memos}
use Rattle.dbf_image.specs.declared.format.TheConstants.{BLOCK, DESCRIPTOR, END_OF_FILE, HEADER, HEADER_END, MAX_BLOCK_NUMBER}
use Rattle.dbf_fields.specs.declared.format.TheConstants.{MAX_FIELDS, MAX_RECORD_BYTES}

pub memos_wide : (fs : List Field) → AllByRecursion (λ f. has_width f ≡ true) fs → AreWide fs
memos_wide [] h = tt
memos_wide (f ∷ fs) h = (λ kind. eqb-true f.width 10 (rw kind at h.0), memos_wide fs h.1)

length-cells : (fields : List Field) (cells : List (List ℕ)) (next : ℕ) → AreWide fields → AreCells fields cells → length (cells_bytes next fields cells) ≡ widths fields
length-cells [] [] next wide h = refl
length-cells [] (c ∷ cs) next wide h = absurd h
length-cells (f ∷ fs) [] next wide h = absurd h
length-cells (f ∷ fs) (c ∷ cs) next wide h =
    let here : List ℕ = cell_bytes next f c in
    let later : ℕ = next + cell_blocks f c in
    let sum : widths (f ∷ fs) ≡ f.width + widths fs = sum_by-cons (λ (g : Field). g.width) f fs in
    omega (arith, length-append here (cells_bytes later fs cs), length-cell next f c wide.0 h.0, length-cells fs cs later wide.1 h.1)

-- ---- records

length-images : (fields : List Field) (rows : List Row) (next : ℕ) → length (rows_bytes next fields rows) ≡ length rows
length-images fields [] next = refl
length-images fields (r ∷ rs) next = ap suc (length-images fields rs (next + cells_blocks fields r.cells))

images_long : (fields : List Field) (rows : List Row) (next : ℕ) → AreWide fields → AllByRecursion (IsRow fields) rows
    → AllByRecursion (λ b. length b ≡ 1 + widths fields) (rows_bytes next fields rows)
images_long fields [] next wide h = tt
images_long fields (r ∷ rs) next wide h =
    let here = length-cells fields r.cells next wide h.0 in
    (omega (arith, here), images_long fields rs (next + cells_blocks fields r.cells) wide h.1)

record_again : (fields : List Field) (row : Row) (dbt front rest : List ℕ) (next : ℕ) → dbt ≡ front ++ (cells_memos fields row.cells ++ rest)
    → length front ≡ BLOCK * next → 0 < next → next + cells_blocks fields row.cells < 10 ^ 10 → AreWide fields → AreCells fields row.cells
    → EncodesRow dbt fields (row_bytes next fields row) row
record_again fields row dbt front rest next is len some room wide h =
    let nothing : List ℕ = [] in
    let cells = cells_again fields row.cells dbt front rest nothing next is len some room wide h in
    (sym (flag_again row.deleted), rw append-nil at cells)

pub records_again : (fields : List Field) (rows : List Row) (dbt front rest : List ℕ) (next : ℕ) → dbt ≡ front ++ (rows_memos fields rows ++ rest)
    → length front ≡ BLOCK * next → 0 < next → next + rows_blocks fields rows < 10 ^ 10 → AreWide fields → AllByRecursion (IsRow fields) rows
    → EncodesRows dbt fields (rows_bytes next fields rows) rows
records_again fields [] dbt front rest next is len some room wide h = tt
records_again fields (r ∷ rs) dbt front rest next is len some room wide h =
    let later : ℕ = next + cells_blocks fields r.cells in
    let memo : List ℕ = cells_memos fields r.cells in
    let memos : List ℕ = rows_memos fields rs in
    let moved : length (front ++ memo) ≡ BLOCK * later = omega (arith, length-append front memo, length-cells_memos fields r.cells) in
    let one : dbt ≡ front ++ (memo ++ (memos ++ rest)) = is ∙ ap (λ (x : List ℕ). front ++ x) (append_assoc memo memos rest) in
    let two : dbt ≡ (front ++ memo) ++ (memos ++ rest) = one ∙ sym (append_assoc front memo (memos ++ rest)) in
    (record_again fields r dbt front (memos ++ rest) next one len some (omega arith) wide h.0, records_again fields rs dbt (front ++ memo) rest later two moved (omega arith) (omega arith) wide h.1)

-- ---- the whole files

pub is_dbf_image : (table : Table) (year month day : ℕ) → IsTable table → next_free table ≤ MAX_BLOCK_NUMBER
    → IsDbf (image table year month day) (Some (memo_image table)) table
is_dbf_image table year month day t room =
    let schema : List Field = table.schema in
    let n : ℕ = length schema in
    let size : ℕ = 1 + widths schema in
    let head : List ℕ = header_bytes table year month day in
    let body : List ℕ = flat_map descriptor schema in
    let images : List (List ℕ) = rows_bytes 1 schema table.rows in
    let records : List ℕ = flat_map (λ b. b) images in
    let bytes : List ℕ = image table year month day in
    let wide_memos : AreWide schema = memos_wide schema (schema_wide schema t.fields) in
    let names = names_from schema (schema_names schema t.fields) in
    let bounded : next_free table < 10 ^ 10 = omega arith in
    let count_bounded : n ≤ MAX_FIELDS = schema_count schema t.fields in
    let narrow : widths schema ≤ MAX_RECORD_BYTES = schema_widths schema t.fields in
    let count : header_record_count bytes ≡ length table.rows = little_number-reads_back 4 (length table.rows) [] (omega (arith, t.count_bounded)) in
    let header : header_length bytes ≡ DESCRIPTOR * n + (HEADER + 1) = little_number-reads_back 2 (DESCRIPTOR * n + (HEADER + 1)) [] (omega arith) in
    let wide : record_length bytes ≡ size = little_number-reads_back 2 size [] (omega arith) in
    let body_long : length body ≡ n * DESCRIPTOR = length-join DESCRIPTOR descriptor schema (descriptors_long schema names) in
    let long = images_long schema table.rows 1 wide_memos t.fit in
    let many : length images ≡ length table.rows = length-images schema table.rows 1 in
    let records_long : length records ≡ length images * size = length-join size (λ (b : List ℕ). b) images long in
    let records_size : length records ≡ length table.rows * size = records_long ∙ ap (λ (k : ℕ). k * size) many in
    let fields : map field_of (chunks DESCRIPTOR n (drop HEADER bytes)) ≡ schema =
    ap (map field_of) (chunks-join DESCRIPTOR descriptor schema (HEADER_END ∷ (records ++ END_OF_FILE ∷ [])) (descriptors_long schema names)) ∙ fields_again schema names in
    let rest : drop (DESCRIPTOR * n + (HEADER + 1)) bytes ≡ records ++ END_OF_FILE ∷ [] = after_header head body (records ++ END_OF_FILE ∷ []) (DESCRIPTOR * n + (HEADER + 1)) (omega arith) in
    let joined : chunks size (length images) (records ++ END_OF_FILE ∷ []) ≡ map (λ (b : List ℕ). b) images = chunks-join size (λ (b : List ℕ). b) images (END_OF_FILE ∷ []) long in
    let cut : chunks size (length table.rows) (records ++ END_OF_FILE ∷ []) ≡ images = ap (λ (k : ℕ). chunks size k (records ++ END_OF_FILE ∷ [])) (sym many) ∙ joined ∙ map-id images in
    let nothing : List ℕ = [] in
    let memos : memo_image table ≡ memo_header (next_free table) ++ (rows_memos schema table.rows ++ nothing) = ap (λ (x : List ℕ). memo_header (next_free table) ++ x) (sym (append-nil (rows_memos schema table.rows))) in
    let all = records_again schema table.rows (memo_image table) (memo_header (next_free table)) nothing 1 memos refl (lit< tt) bounded wide_memos t.fit in
    let chunks_are : chunks (record_length bytes) (header_record_count bytes) (drop (header_length bytes) bytes) ≡ images = rw (wide, count, header, rest) cut in
    record {
      long = omega (arith, length-append head (body ++ HEADER_END ∷ (records ++ END_OF_FILE ∷ [])));
      version = elim (cases_Bool (has_memos schema)) [ inl some ↦ inr (rw some refl) | inr none ↦ inl (rw none refl) ];
      field_count = n;
      last_field = end_here head body (records ++ END_OF_FILE ∷ []) (HEADER + DESCRIPTOR * n) (omega arith);
      not_before = λ i lt. not_here head (body ++ HEADER_END ∷ (records ++ END_OF_FILE ∷ [])) HEADER (DESCRIPTOR * i) refl (not_end schema (HEADER_END ∷ (records ++ END_OF_FILE ∷ [])) names i lt);
      in_header = rw header (omega arith);
      accepted = rw fields t.fields.accepted;
      schema = sym (ap (map folded) fields ∙ t.fields.kept);
      wide = wide;
      count_bounded = rw count t.count_bounded;
      whole = rw (header, count, wide) (omega (arith, length-append head (body ++ HEADER_END ∷ (records ++ END_OF_FILE ∷ [])), length-append body (HEADER_END ∷ (records ++ END_OF_FILE ∷ [])), length-append records (END_OF_FILE ∷ [])));
      memos = λ _. refl;
      rows = rw chunks_are all;
    }
