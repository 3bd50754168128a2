-- The lines that are printed of a table are its records again.
use Rattle.std.proofs.Common.{◌≡◌, ◌+◌, ◌-◌, ◌<◌, ◌≤◌, ◌∷◌, ◌++◌, ◌∙◌, [], ℕ, List, Bool, true, false, Option, None, refl, sym, ap, subst, arith, zero, suc, length, map, take, get_or, set, append_assoc, length-append}
use Rattle.std.specs.Prelude.{flat_map, ◌^◌}
use Rattle.std.specs.Prelude.{Ok}
use Rattle.std.specs.List.{filter, range_with_len, AllByRecursion}
use Rattle.std.proofs.Math.Seq.{get_or-append_seam, set-append_seam}
use Rattle.std.proofs.lemmas.Bool.{eq-eqb, le-leb, lt-ltb}
use Rattle.std.proofs.lemmas.List.{length-map, length-take-le, take_all, take_more}
use Rattle.dbf_fields.specs.declared.field.Field.{Field}
use Rattle.dbf_fields.specs.Schema.{IsSchema}
use Rattle.dbf_image.specs.declared.format.TheConstants.{MAX_RECORDS}
use Rattle.dbf_image.specs.Table.{IsTable, Row, Table, AreCells, blank_cell, blank_row, empty_table, row_at}
use Rattle.table_text.specs.Csv.{csv_heading, csv_line, csv_value}
use Rattle.table_text.specs.Selection.{is_selected, selected}
use Rattle.table_loader.specs.declared.form.CsvForm.{CsvForm}
use Rattle.table_loader.specs.declared.form.DateForm.TheVariants.{Digits}
use Rattle.table_loader.specs.declared.form.Separator.{Separator}
use Rattle.table_loader.specs.ComingBack.{ComesBack, HaveMeaning, IsPrintedForm, all_records, whole_csv}
use Rattle.table_loader.specs.CsvText.{csv_lines, separator_byte}
use Rattle.table_loader.specs.Headings.{Columns, column_of, columns_by, mark_name, text_for, text_in_column}
use Rattle.table_loader.specs.Loading.{csv_loaded, filled, loaded, mark_said, row_of_line, with_line, with_lines}
use Rattle.table_loader.specs.Values.{value_of}
use Rattle.table_loader.proofs.NamesBack.{AreGood, field_column, heading_accepted, mark_column, names_kept, names_of, schema_good}
use Rattle.table_loader.proofs.TextBack.{line_texts, mark_text, printed_lines, texts_from}
use Rattle.table_loader.proofs.ValuesBack.{value_back}

-- ---- the texts of a line are found by the names of the fields

-- each field's text in a line is what is printed of a cell
abbrev Says : Columns → List (List ℕ) → ℕ → List Field → List (List ℕ) → Type 0
Says columns cells index [] rest = Unit {0}
Says columns cells index (f ∷ fs) [] = Unit {0}
Says columns cells index (f ∷ fs) (c ∷ cs) = (text_for columns cells index ≡ csv_value f.kind c) × Says columns cells (index + 1) fs cs

text_at_seam : (text : ℕ → Field → List ℕ) (from : ℕ) (earlier : List Field) (f : Field) (fs : List Field) (last : List (List ℕ))
    → get_or (texts_from text from (earlier ++ f ∷ fs) ++ last) (length earlier) [] ≡ text (from + length earlier) f
text_at_seam text from [] f fs last = let same : from ≡ from + 0 = omega arith in ap (λ (n : ℕ). text n f) same
text_at_seam text from (e ∷ es) f fs last =
    let same : from + 1 + length es ≡ from + suc (length es) = omega arith in
    text_at_seam text (from + 1) es f fs last ∙ ap (λ (n : ℕ). text n f) same

mapped_at_seam : (g : Field → Option ℕ) (earlier : List Field) (f : Field) (fs : List Field) → get_or (map g (earlier ++ f ∷ fs)) (length earlier) None ≡ g f
mapped_at_seam g [] f fs = refl
mapped_at_seam g (e ∷ es) f fs = mapped_at_seam g es f fs

abbrev heading_of : List Field → List (List ℕ)
heading_of fields = names_of fields ++ mark_name ∷ []

field_says : (text : ℕ → Field → List ℕ) (earlier : List Field) (f : Field) (fs : List Field) (last : List (List ℕ)) → AreGood earlier (f ∷ fs)
    → text_for (columns_by (earlier ++ f ∷ fs) (heading_of (earlier ++ f ∷ fs))) (texts_from text 0 (earlier ++ f ∷ fs) ++ last) (length earlier) ≡ text (length earlier) f
field_says text earlier f fs last (here, later) =
    let schema = earlier ++ f ∷ fs in
    let column = mapped_at_seam (λ g. column_of (heading_of schema) g.name) earlier f fs ∙ field_column earlier f fs here in
    let zero_from : 0 + length earlier ≡ length earlier = omega arith in
    ap (text_in_column (texts_from text 0 schema ++ last)) column ∙ text_at_seam text 0 earlier f fs last ∙ ap (λ (n : ℕ). text n f) zero_from

all_say : (row_cells last : List (List ℕ)) (schema earlier fs : List Field) (done rest : List (List ℕ)) → schema ≡ earlier ++ fs → row_cells ≡ done ++ rest
    → length done ≡ length earlier → AreGood earlier fs
    → Says (columns_by schema (heading_of schema)) (texts_from (λ index f. csv_value f.kind (get_or row_cells index [])) 0 schema ++ last) (length earlier) fs rest
all_say row_cells last schema earlier [] done rest is cells long good = tt
all_say row_cells last schema earlier (f ∷ fs) done [] is cells long good = tt
all_say row_cells last schema earlier (f ∷ fs) done (c ∷ cs) is cells long (here, later) =
    let text : ℕ → Field → List ℕ = λ index f. csv_value f.kind (get_or row_cells index []) in
    let cell : get_or row_cells (length earlier) [] ≡ c = ap (λ (x : List (List ℕ)). get_or x (length earlier) []) cells ∙ ap (λ (n : ℕ). get_or (done ++ c ∷ cs) n []) (sym long) ∙ get_or-append_seam done c cs [] in
    let said = subst (λ (s : List Field). text_for (columns_by s (heading_of s)) (texts_from text 0 s ++ last) (length earlier) ≡ text (length earlier) f) (sym is)
    (field_says text earlier f fs last (here, later)) in
    let next : length (earlier ++ f ∷ []) ≡ length earlier + 1 = length-append earlier (f ∷ []) in
    let more = all_say row_cells last schema (earlier ++ f ∷ []) fs (done ++ c ∷ []) cs (is ∙ sym (append_assoc earlier (f ∷ []) fs)) (cells ∙ sym (append_assoc done (c ∷ []) cs))
    (length-append done (c ∷ []) ∙ ap (λ (n : ℕ). n + 1) long ∙ sym next) later in (
      said ∙ ap (csv_value f.kind) cell,
      subst (λ (n : ℕ). Says (columns_by schema (heading_of schema)) (texts_from text 0 schema ++ last) n fs cs) next more,
    )

-- ---- the record is filled with its own cells

abbrev kept_row : List (List ℕ) → Row
kept_row cells = record { deleted = false; cells = cells }

rest_filled : (form : CsvForm) (columns : Columns) (line : ℕ) (texts : List (List ℕ)) (earlier fs : List Field) (done rest : List (List ℕ)) (index : ℕ)
    → form.dates ≡ Digits → length done ≡ index → AreGood earlier fs → AreCells fs rest → HaveMeaning fs rest → Says columns texts index fs rest
    → filled form columns line texts index fs (kept_row (done ++ map blank_cell fs)) ≡ Ok (kept_row (done ++ rest))
rest_filled form columns line texts earlier [] done [] index plain long good are have says = refl
rest_filled form columns line texts earlier [] done (c ∷ cs) index plain long good are have says = absurd are
rest_filled form columns line texts earlier (f ∷ fs) done [] index plain long good are have says = absurd are
rest_filled form columns line texts earlier (f ∷ fs) done (c ∷ cs) index plain long (here, later) (is, are) (means, mean) (said, say) =
    let value : value_of form f (text_for columns texts index) ≡ Ok c = ap (value_of form f) said ∙ value_back form f c plain here.kind here.wide is means in
    let put = ap (λ (n : ℕ). kept_row (set (done ++ blank_cell f ∷ map blank_cell fs) n c)) (sym long) ∙ ap kept_row (set-append_seam done (blank_cell f) (map blank_cell fs) c)
    ∙ ap kept_row (sym (append_assoc done (c ∷ []) (map blank_cell fs))) in
    let next : length (done ++ c ∷ []) ≡ index + 1 = length-append done (c ∷ []) ∙ ap (λ (n : ℕ). n + 1) long in
    let more = rest_filled form columns line texts (earlier ++ f ∷ []) fs (done ++ c ∷ []) cs (index + 1) plain next later are mean say in
    rw value (ap (filled form columns line texts (index + 1) fs) put ∙ more ∙ ap (λ (x : List (List ℕ)). Ok (kept_row x)) (append_assoc done (c ∷ []) cs))

mark_again : (line : ℕ) (deleted : Bool) → mark_said line (mark_text deleted) ≡ Ok deleted
mark_again line true = refl
mark_again line false = refl

-- ---- and it is the record

length_texts : (text : ℕ → Field → List ℕ) (from : ℕ) (fs : List Field) → length (texts_from text from fs) ≡ length fs
length_texts text from [] = refl
length_texts text from (f ∷ fs) = ap suc (length_texts text (from + 1) fs)

last_text : (xs : List (List ℕ)) (last : List ℕ) (n : ℕ) → length xs ≡ n → get_or (xs ++ last ∷ []) n [] ≡ last
last_text xs last n is = ap (λ (k : ℕ). get_or (xs ++ last ∷ []) k []) (sym is) ∙ get_or-append_seam xs last [] []

-- the texts of a record
abbrev texts_of_row : List Field → Row → List (List ℕ)
texts_of_row schema row = texts_from (λ index f. csv_value f.kind (get_or row.cells index [])) 0 schema ++ mark_text row.deleted ∷ []

row_again : (form : CsvForm) (schema : List Field) (line : ℕ) (row : Row) → form.dates ≡ Digits → AreGood [] schema → AreCells schema row.cells → HaveMeaning schema row.cells
    → row_of_line form (columns_by schema (heading_of schema)) line (texts_of_row schema row) schema ≡ Ok row
row_again form schema line row plain good are mean =
    let columns = columns_by schema (heading_of schema) in
    let texts = texts_of_row schema row in
    let says = all_say row.cells (mark_text row.deleted ∷ []) schema [] schema [] row.cells refl refl refl good in
    let cells = rest_filled form columns line texts [] schema [] row.cells 0 plain refl good are mean says in
    let column : text_in_column texts columns.of_marks ≡ mark_text row.deleted =
    ap (text_in_column texts) (mark_column schema good) ∙ last_text (texts_from (λ index f. csv_value f.kind (get_or row.cells index [])) 0 schema) (mark_text row.deleted) (length schema) (length_texts _ 0 schema) in
    let mark : mark_said line (text_in_column texts columns.of_marks) ≡ Ok row.deleted = ap (mark_said line) column ∙ mark_again line row.deleted in
    rw (cells, mark) refl

line_again : (form : CsvForm) (schema : List Field) (line : ℕ) (rows : List Row) (row : Row) → form.dates ≡ Digits → AreGood [] schema → AreCells schema row.cells → HaveMeaning schema row.cells
    → length rows < MAX_RECORDS
    → with_line form (columns_by schema (heading_of schema)) line (record { schema = schema; rows = rows }) (texts_of_row schema row)
    ≡ Ok (record { schema = schema; rows = rows ++ row ∷ [] })
line_again form schema line rows row plain good are mean room =
    let many : length (texts_of_row schema row) ≡ length (heading_of schema) =
    omega (
      arith,
      length-append (texts_from (λ index f. csv_value f.kind (get_or row.cells index [])) 0 schema) (mark_text row.deleted ∷ []),
      length_texts (λ index f. csv_value f.kind (get_or row.cells index [])) 0 schema,
      length-append (names_of schema) (mark_name ∷ []),
      length-map schema (λ (f : Field). f.name),
    ) in
    rw (eq-eqb (length (texts_of_row schema row)) (length (heading_of schema)) many, lt-ltb (length rows) MAX_RECORDS room, row_again form schema line row plain good are mean) refl

-- ---- the records, one after the other

at_row : (P : Row → Type 0) (rows : List Row) (index : ℕ) (other : Row) → AllByRecursion P rows → index < length rows → P (get_or rows index other)
at_row P [] index other all inside = absurd (omega arith)
at_row P (r ∷ rs) zero other all inside = all.0
at_row P (r ∷ rs) (suc index) other all inside = at_row P rs index other all.1 (omega arith)

abbrev table_to : Table → ℕ → Table
table_to table k = record { schema = table.schema; rows = take k table.rows }

records_again : (form : CsvForm) (table : Table) (line k m : ℕ) → form.dates ≡ Digits → IsTable table → ComesBack table → AreGood [] table.schema → k + m ≡ length table.rows
    → with_lines form (columns_by table.schema (heading_of table.schema)) line (table_to table k) (map (line_texts table) (range_with_len (k + 1) m)) ≡ Ok table
records_again form table line k zero plain is comes good all =
    let whole : take k table.rows ≡ table.rows = take_all k table.rows (omega arith) in
    ap (λ (rows : List Row). Ok (record { schema = table.schema; rows = rows })) whole
records_again form table line k (suc m) plain is comes good all =
    let inside : k < length table.rows = omega arith in
    let first : k + 1 - 1 ≡ k = omega arith in
    let blank = blank_row table.schema in
    let row = get_or table.rows k blank in
    let here : row_at table (k + 1) ≡ row = ap (λ (n : ℕ). get_or table.rows n blank) first in
    let are = at_row (λ r. AreCells table.schema r.cells) table.rows k blank is.fit inside in
    let mean = at_row (λ r. HaveMeaning table.schema r.cells) table.rows k blank comes inside in
    let short : length (take k table.rows) ≡ k = length-take-le k table.rows (omega arith) in
    let texts : line_texts table (k + 1) ≡ texts_of_row table.schema row = ap (texts_of_row table.schema) here in
    let step = ap (with_line form (columns_by table.schema (heading_of table.schema)) line (table_to table k)) texts
    ∙ line_again form table.schema line (take k table.rows) row plain good are mean (omega (arith, short, is.count_bounded)) in
    let more : take (k + 1) table.rows ≡ take k table.rows ++ row ∷ [] = take_more table.rows k blank inside in
    let next = records_again form table (line + 1) (k + 1) m plain is comes good (omega arith) in
    rw (step, ← more) next

-- ---- all records are shown

all_kept : (p : ℕ → Bool) (from n : ℕ) → ((k : ℕ) → from ≤ k → k < from + n → p k ≡ true) → filter p (range_with_len from n) ≡ range_with_len from n
all_kept p from zero passes = refl
all_kept p from (suc n) passes =
    rw (passes from (omega arith) (omega arith)) (ap (λ (x : List ℕ). from ∷ x) (all_kept p (from + 1) n (λ k low high. passes k (omega arith) (omega arith))))

all_selected : (table : Table) → length table.rows ≤ MAX_RECORDS → selected table None all_records ≡ range_with_len 1 (length table.rows)
all_selected table few =
    all_kept (is_selected table all_records) 1 (length table.rows) (λ k low high.
    rw (le-leb 1 k low, le-leb k (length table.rows) (omega arith), le-leb k (2 ^ 32 - 1) (omega (arith, few))) refl)

-- ---- the whole table

some_field : (fields : List Field) → AreGood [] fields → 0 < length fields → (f : Field) × (fs : List Field) × (fields ≡ f ∷ fs)
some_field [] good some = absurd (omega arith)
some_field (f ∷ fs) good some = (f, fs, refl)

schema_some : (fields : List Field) → IsSchema fields → 0 < length fields
schema_some [] schema = absurd cc
schema_some (f ∷ fs) schema = omega arith

-- what is printed of a table whose cells mean something is this table again
pub printed_again : (form : CsvForm) (table : Table) → IsPrintedForm form → IsTable table → ComesBack table → csv_loaded form (empty_table table.schema) (whole_csv table) ≡ Ok table
printed_again form table printed is comes =
    let good = schema_good table.schema is.fields in
    let (f, fs, split) = some_field table.schema good (schema_some table.schema is.fields) in
    let shown : whole_csv table ≡ csv_heading true table ++ flat_map (csv_line true table) (range_with_len 1 (length table.rows)) =
    ap (λ (n : List ℕ). csv_heading true table ++ flat_map (csv_line true table) n) (all_selected table is.count_bounded) in
    let lines = ap (csv_lines 44) shown ∙ printed_lines table f fs (range_with_len 1 (length table.rows)) split (subst (λ (s : List Field). AreGood [] s) split good) in
    ap (λ (by : Separator). loaded form (empty_table table.schema) (csv_lines (separator_byte by) (whole_csv table))) printed.separator
    ∙ ap (loaded form (empty_table table.schema)) lines
    ∙ rw (names_kept [] table.schema good, heading_accepted table.schema good) (records_again form table 2 0 (length table.rows) printed.dates is comes good (omega arith))
