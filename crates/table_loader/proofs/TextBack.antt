-- What is printed of a table as CSV is read as the texts of its cells.
use Rattle.std.proofs.Common.{◌≡◌, ◌+◌, ◌<◌, ◌∷◌, ◌++◌, ◌==◌, ◌∙◌, [], ℕ, List, Bool, true, false, Some, inl, inr, refl, sym, ap, subst, arith, suc, length, map, append_assoc}
use Rattle.std.specs.Prelude.{◌||◌, ◌&&◌, codes, flat_map}
use Rattle.std.specs.Char.{is_ascii_alphabetic}
use Rattle.std.specs.Int.{is_in_range}
use Rattle.std.specs.Prelude.{if◌then◌else◌, slice_index}
use Rattle.std.specs.List.{list_all, list_any}
use Rattle.std.proofs.lemmas.Bool.{and_parts, cases_Bool, eqb-true, ne_eqb, or_from, or_parts}
use Rattle.csv.specs.Machine.{next_record}
use Rattle.csv.specs.Reading.{default_config, records_from, strip_bom}
use Rattle.csv.specs.Writing.{default_writer, escaped, field_text, fields_text, needs_byte}
use Rattle.csv.specs.declared.parser.State.TheVariants as st
use Rattle.csv.proofs.RoundTrip.{field-run, record-same}
use Rattle.dbf_fields.specs.declared.field.Field.{Field}
use Rattle.dbf_fields.specs.Name.{is_name, is_name_char}
use Rattle.dbf_image.specs.Table.{Table, cell_at, row_at}
use Rattle.table_text.specs.Csv.{csv_field, csv_fields, csv_heading, csv_line, csv_value, mark_field, quoted_byte, separator, wants_quotes}
use Rattle.table_loader.specs.CsvText.{csv_lines, lines_from}
use Rattle.table_loader.specs.Headings.{mark_name}
use Rattle.table_loader.proofs.LineLaws.{line_taken, same_lines}
use Rattle.table_loader.proofs.NamesBack.{AreGood, names_of}

-- ---- a text that is printed is one that the writer of CSV writes

regrouped : (p r n : Bool) → ((p || r) || n) ≡ (((p || (r || n)) || false) || false)
regrouped true r n = refl
regrouped false true n = refl
regrouped false false true = refl
regrouped false false false = refl

same_wish : (byte : ℕ) → wants_quotes byte ≡ needs_byte default_writer byte
same_wish byte = regrouped ((byte == 44) || (byte == 34)) (byte == 13) (byte == 10)

same_wishes : (text : List ℕ) → list_any wants_quotes text ≡ list_any (needs_byte default_writer) text
same_wishes [] = refl
same_wishes (b ∷ bs) =
    ap (λ (x : Bool). x || list_any wants_quotes bs) (same_wish b) ∙ ap (λ (x : Bool). needs_byte default_writer b || x) (same_wishes bs)

same_escape : (text : List ℕ) → flat_map quoted_byte text ≡ escaped default_writer text
unfolding escaped
same_escape [] = refl
same_escape (b ∷ bs) = elim (cases_Bool (b == 34)) [
  | inl quote ↦ rw (quote, same_escape bs, eqb-true b 34 quote) refl
  | inr other ↦ rw (other, same_escape bs) refl
]

same_field : (text : List ℕ) → csv_field false text ≡ field_text default_writer text
unfolding csv_field
same_field text = elim (cases_Bool (list_any wants_quotes text)) [
  | inl wanted ↦ rw (wanted, sym (same_wishes text) ∙ wanted, same_escape text) refl
  | inr plain ↦ rw (plain, sym (same_wishes text) ∙ plain) refl
]

-- ---- the texts of a line

-- the texts of the fields from the one with this index on
abbrev pub texts_from : (ℕ → Field → List ℕ) → ℕ → List Field → List (List ℕ)
texts_from text index [] = []
texts_from text index (f ∷ fs) = text index f ∷ texts_from text (index + 1) fs

-- a text of each field as it is printed
abbrev printed : (ℕ → Field → List ℕ) → ℕ → Field → List ℕ
printed text index f = csv_field false (text index f)

later_fields : (text : ℕ → Field → List ℕ) (index : ℕ) (fs : List Field) → 0 < index → csv_fields (printed text) index fs ≡ fields_text default_writer (texts_from text index fs)
unfolding fields_text
later_fields text index [] later = refl
later_fields text index (f ∷ fs) later =
    let second : (index == 0) ≡ false = ne_eqb index 0 (λ e. omega (arith, e)) in
    rw (second, same_field (text index f), later_fields text (index + 1) fs (omega arith)) refl

fields_joined : (xs ys : List (List ℕ)) → fields_text default_writer (xs ++ ys) ≡ fields_text default_writer xs ++ fields_text default_writer ys
unfolding fields_text
fields_joined [] ys = refl
fields_joined (x ∷ xs) ys =
    ap (λ (t : List ℕ). 44 ∷ (field_text default_writer x ++ t)) (fields_joined xs ys)
    ∙ ap (λ (t : List ℕ). 44 ∷ t) (sym (append_assoc (field_text default_writer x) (fields_text default_writer xs) (fields_text default_writer ys)))

-- the end of a line
abbrev line_end : List ℕ → List ℕ
line_end tail = 13 ∷ 10 ∷ tail

-- a line that is printed of some texts, and a last one
printed_line : (text : ℕ → Field → List ℕ) (f : Field) (fs : List Field) (last tail mark : List ℕ) → mark ≡ fields_text default_writer (last ∷ [])
    → (csv_fields (printed text) 0 (f ∷ fs) ++ (mark ++ line_end [])) ++ tail
    ≡ (field_text default_writer (text 0 f) ++ fields_text default_writer (texts_from text 1 fs ++ last ∷ [])) ++ line_end tail
printed_line text f fs last tail mark is =
    let first = field_text default_writer (text 0 f) in
    let rest = fields_text default_writer (texts_from text 1 fs) in
    let front : csv_fields (printed text) 0 (f ∷ fs) ≡ first ++ rest =
    ap (λ (t : List ℕ). t ++ csv_fields (printed text) 1 fs) (same_field (text 0 f)) ∙ ap (λ (t : List ℕ). first ++ t) (later_fields text 1 fs (omega arith)) in
    let more : fields_text default_writer (texts_from text 1 fs ++ last ∷ []) ≡ rest ++ mark = fields_joined (texts_from text 1 fs) (last ∷ []) ∙ ap (λ (t : List ℕ). rest ++ t) (sym is) in
    append_assoc (csv_fields (printed text) 0 (f ∷ fs)) (mark ++ line_end []) tail
    ∙ ap (λ (t : List ℕ). csv_fields (printed text) 0 (f ∷ fs) ++ t) (append_assoc mark (line_end []) tail)
    ∙ ap (λ (t : List ℕ). t ++ (mark ++ line_end tail)) front
    ∙ append_assoc first rest (mark ++ line_end tail)
    ∙ ap (λ (t : List ℕ). first ++ t) (sym (append_assoc rest mark (line_end tail)))
    ∙ sym (append_assoc first (rest ++ mark) (line_end tail))
    ∙ ap (λ (t : List ℕ). (first ++ t) ++ line_end tail) (sym more)

-- ---- and it is read as these texts

abbrev head_of : List (List ℕ) → ℕ
head_of [] = 13
head_of (z ∷ zs) = 44

abbrev tail_of : List (List ℕ) → List ℕ → List ℕ
tail_of [] tail = 10 ∷ tail
tail_of (z ∷ zs) tail = (field_text default_writer z ++ fields_text default_writer zs) ++ line_end tail

text_head : (ys : List (List ℕ)) (tail : List ℕ) → fields_text default_writer ys ++ line_end tail ≡ head_of ys ∷ tail_of ys tail
unfolding fields_text
text_head [] tail = refl
text_head (z ∷ zs) tail = refl

head_plain : (ys : List (List ℕ)) → (head_of ys == 34) ≡ false
head_plain [] = refl
head_plain (z ∷ zs) = refl

end_field : (fields : List (List ℕ)) (x u : List ℕ)
    → next_record default_config st.InField fields x (44 ∷ u) ≡ next_record default_config st.StartField (fields ++ (x ∷ [])) [] u
unfolding next_record
end_field fields x u = refl

rest_read : (fields : List (List ℕ)) (x : List ℕ) (rest : List (List ℕ)) (tail : List ℕ)
    → next_record default_config st.InField fields x (fields_text default_writer rest ++ line_end tail) ≡ Some (fields ++ (x ∷ rest), st.AfterCr, 10 ∷ tail)
unfolding next_record fields_text
rest_read fields x [] tail = refl
rest_read fields x (y ∷ ys) tail =
    let e = text_head ys tail in
    let u : (field_text default_writer y ++ fields_text default_writer ys) ++ line_end tail ≡ field_text default_writer y ++ (head_of ys ∷ tail_of ys tail) =
    append_assoc (field_text default_writer y) (fields_text default_writer ys) (line_end tail) ∙ ap (λ (t : List ℕ). field_text default_writer y ++ t) e in
    let run = field-run (fields ++ (x ∷ [])) y (head_of ys) (tail_of ys tail) (head_plain ys) in
    let more = rest_read (fields ++ (x ∷ [])) y ys tail in
    let back = subst (λ (t : List ℕ). next_record default_config st.InField (fields ++ (x ∷ [])) y t ≡ Some ((fields ++ (x ∷ [])) ++ (y ∷ ys), st.AfterCr, 10 ∷ tail)) e more in
    rw (end_field fields x _, u) (run ∙ back ∙ rw (append_assoc fields (x ∷ []) (y ∷ ys)) refl)

plain_start : (b : ℕ) → needs_byte default_writer b ≡ false → ((b == 13) ≡ false) × ((b == 10) ≡ false)
plain_start b plain =
    let parts = or_parts _ _ (same_wish b ∙ plain) in
    ((or_parts _ _ parts.0).1, parts.1)

first_same : (x tail : List ℕ) → next_record default_config st.StartRecord [] [] (field_text default_writer x ++ (44 ∷ tail))
    ≡ next_record default_config st.StartField [] [] (field_text default_writer x ++ (44 ∷ tail))
first_same [] tail = record-same [] [] 44 tail refl refl
first_same (b ∷ bs) tail = elim (cases_Bool (list_any (needs_byte default_writer) (b ∷ bs))) [
  | inl needs ↦ rw needs (record-same [] [] 34 _ refl refl)
  | inr plain ↦
      let start = plain_start b (or_parts _ _ plain).0 in
      rw plain (record-same [] [] b (bs ++ (44 ∷ tail)) start.0 start.1)
]

line_read : (x y : List ℕ) (ys : List (List ℕ)) (tail : List ℕ)
    → next_record default_config st.StartRecord [] [] ((field_text default_writer x ++ fields_text default_writer (y ∷ ys)) ++ line_end tail) ≡ Some (x ∷ y ∷ ys, st.AfterCr, 10 ∷ tail)
line_read x y ys tail =
    let e = text_head (y ∷ ys) tail in
    let u : (field_text default_writer x ++ fields_text default_writer (y ∷ ys)) ++ line_end tail ≡ field_text default_writer x ++ (44 ∷ tail_of (y ∷ ys) tail) =
    append_assoc (field_text default_writer x) (fields_text default_writer (y ∷ ys)) (line_end tail) ∙ ap (λ (t : List ℕ). field_text default_writer x ++ t) e in
    let run = field-run [] x 44 (tail_of (y ∷ ys) tail) refl in
    let more = subst (λ (t : List ℕ). next_record default_config st.InField [] x t ≡ Some ([] ++ (x ∷ y ∷ ys), st.AfterCr, 10 ∷ tail)) e (rest_read [] x (y ∷ ys) tail) in
    ap (next_record default_config st.StartRecord [] []) u ∙ first_same x (tail_of (y ∷ ys) tail) ∙ run ∙ more

-- after it the lines are those of what is left

end_passed : (n : ℕ) (tail : List ℕ) → records_from default_config (suc n) st.AfterCr (10 ∷ tail) ≡ records_from default_config (suc n) st.StartRecord tail
unfolding records_from next_record
end_passed n tail = refl

more_fuel : (tail : List ℕ) → lines_from 44 st.AfterCr (Some (10 ∷ tail)) ≡ records_from default_config (length tail + 1 + 1) st.StartRecord tail
more_fuel tail =
    let left : length (10 ∷ tail) + 1 ≡ suc (length tail + 1) = omega arith in
    let right : length tail + 1 + 1 ≡ suc (length tail + 1) = omega arith in
    ap (λ (n : ℕ). records_from default_config n st.AfterCr (10 ∷ tail)) left ∙ end_passed (length tail + 1) tail
    ∙ ap (λ (n : ℕ). records_from default_config n st.StartRecord tail) (sym right)

after_line : (tail : List ℕ) → lines_from 44 st.AfterCr (Some (10 ∷ tail)) ≡ lines_from 44 st.StartRecord (Some tail)
after_line tail = more_fuel tail ∙ same_lines 44 (length tail + 1 + 1) (length tail + 1) st.StartRecord tail refl (omega arith) (omega arith)

then_line : (text : ℕ → Field → List ℕ) (f : Field) (last tail : List ℕ) (more : List (List ℕ)) (line : List ℕ)
    → line ≡ (field_text default_writer (text 0 f) ++ fields_text default_writer (more ++ last ∷ [])) ++ line_end tail
    → lines_from 44 st.StartRecord (Some line) ≡ (text 0 f ∷ (more ++ last ∷ [])) ∷ lines_from 44 st.StartRecord (Some tail)
then_line text f last tail [] line is =
    ap (λ (t : List ℕ). lines_from 44 st.StartRecord (Some t)) is ∙ (line_taken 44 st.StartRecord _ _ refl (line_read (text 0 f) last [] tail)).0
    ∙ ap (λ (t : List (List (List ℕ))). (text 0 f ∷ last ∷ []) ∷ t) (after_line tail)
then_line text f last tail (m ∷ ms) line is =
    ap (λ (t : List ℕ). lines_from 44 st.StartRecord (Some t)) is ∙ (line_taken 44 st.StartRecord _ _ refl (line_read (text 0 f) m (ms ++ last ∷ []) tail)).0
    ∙ ap (λ (t : List (List (List ℕ))). (text 0 f ∷ m ∷ (ms ++ last ∷ [])) ∷ t) (after_line tail)

-- a line that is printed of texts is read as these, and then what is left
pub line_then : (text : ℕ → Field → List ℕ) (f : Field) (fs : List Field) (last tail mark : List ℕ) → mark ≡ fields_text default_writer (last ∷ [])
    → lines_from 44 st.StartRecord (Some ((csv_fields (printed text) 0 (f ∷ fs) ++ (mark ++ line_end [])) ++ tail))
    ≡ (texts_from text 0 (f ∷ fs) ++ last ∷ []) ∷ lines_from 44 st.StartRecord (Some tail)
line_then text f fs last tail mark is = then_line text f last tail (texts_from text 1 fs) _ (printed_line text f fs last tail mark is)

-- ---- the lines of records

-- a cell's text
abbrev pub cell_text : Table → ℕ → ℕ → Field → List ℕ
cell_text table number index f = csv_value f.kind (cell_at table number index)

abbrev pub mark_text : Bool → List ℕ
mark_text deleted = if deleted then codes "true" else codes "false"

-- the texts of a record's line
abbrev pub line_texts : Table → ℕ → List (List ℕ)
line_texts table number = texts_from (cell_text table number) 0 table.schema ++ mark_text (row_at table number).deleted ∷ []

mark_printed : (deleted : Bool) → mark_field true deleted ≡ fields_text default_writer (mark_text deleted ∷ [])
unfolding fields_text
mark_printed true = refl
mark_printed false = refl

lines_of_records : (f : Field) (fs : List Field) (table : Table) → table.schema ≡ f ∷ fs → (numbers : List ℕ)
    → lines_from 44 st.StartRecord (Some (flat_map (csv_line true table) numbers)) ≡ map (line_texts table) numbers
unfolding records_from next_record
lines_of_records f fs table is [] = refl
lines_of_records f fs table is (n ∷ ns) =
    let tail = flat_map (csv_line true table) ns in
    let deleted = (row_at table n).deleted in
    let line = line_then (cell_text table n) f fs (mark_text deleted) tail (mark_field true deleted) (mark_printed deleted) in
    let whole = subst (λ (s : List Field). lines_from 44 st.StartRecord (Some ((csv_fields (printed (cell_text table n)) 0 s ++ (mark_field true deleted ++ line_end [])) ++ tail))
    ≡ (texts_from (cell_text table n) 0 s ++ mark_text deleted ∷ []) ∷ lines_from 44 st.StartRecord (Some tail)) (sym is) line in
    whole ∙ ap (λ (t : List (List (List ℕ))). line_texts table n ∷ t) (lines_of_records f fs table is ns)

-- ---- the heading

-- a byte of a name is none that no name has
unlike : (b c : ℕ) → is_name_char b ≡ true → is_name_char c ≡ false → (b == c) ≡ false
unlike b c named bad = elim (cases_Bool (b == c)) [
  | inl same ↦ absurd (cc (ap is_name_char (eqb-true b c same)))
  | inr differs ↦ differs
]

plain_byte : (b : ℕ) → is_name_char b ≡ true → wants_quotes b ≡ false
plain_byte b named =
    or_from _ _ (or_from _ _ (or_from _ _ (unlike b 44 named refl) (unlike b 34 named refl)) (unlike b 13 named refl)) (unlike b 10 named refl)

plain_text : (text : List ℕ) → list_all is_name_char text ≡ true → list_any wants_quotes text ≡ false
plain_text [] all = refl
plain_text (b ∷ bs) all = let parts = and_parts _ _ all in or_from _ _ (plain_byte b parts.0) (plain_text bs parts.1)

name_printed : (name : List ℕ) → is_name name ≡ true → csv_field false name ≡ name
unfolding csv_field
name_printed name named =
    let letters = and_parts (is_in_range 1 10 (length name)) (is_ascii_alphabetic (slice_index name 0) && list_all is_name_char name) named in
    let plain = plain_text name (and_parts (is_ascii_alphabetic (slice_index name 0)) (list_all is_name_char name) letters.1).1 in
    rw plain refl

abbrev name_text : ℕ → Field → List ℕ
name_text index f = f.name

names_printed : (earlier : List Field) (index : ℕ) (fs : List Field) → AreGood earlier fs → csv_fields (λ _ f. f.name) index fs ≡ csv_fields (printed name_text) index fs
names_printed earlier index [] good = refl
names_printed earlier index (f ∷ fs) (here, later) =
    ap (λ (t : List ℕ). separator index ++ (f.name ++ t)) (names_printed (earlier ++ f ∷ []) (index + 1) fs later)
    ∙ ap (λ (t : List ℕ). separator index ++ (t ++ csv_fields (printed name_text) (index + 1) fs)) (sym (name_printed f.name here.named))

names_texts : (index : ℕ) (fs : List Field) → texts_from name_text index fs ≡ names_of fs
names_texts index [] = refl
names_texts index (f ∷ fs) = ap (λ (t : List (List ℕ)). f.name ∷ t) (names_texts (index + 1) fs)

heading_mark : codes ",deleted" ≡ fields_text default_writer (mark_name ∷ [])
unfolding fields_text
heading_mark = refl

no_bom : (b : ℕ) (rest : List ℕ) → (b == 239) ≡ false → strip_bom (b ∷ rest) ≡ b ∷ rest
unfolding strip_bom
no_bom b [] other = refl
no_bom b (c ∷ []) other = refl
no_bom b (c ∷ d ∷ rest) other = rw other refl

first_letter : (b : ℕ) → is_ascii_alphabetic b ≡ true → (b == 239) ≡ false
first_letter b letter = elim (cases_Bool (b == 239)) [
  | inl same ↦ absurd (cc (ap is_ascii_alphabetic (eqb-true b 239 same)))
  | inr differs ↦ differs
]

strip_named : (name rest : List ℕ) → is_name name ≡ true → strip_bom (name ++ rest) ≡ name ++ rest
strip_named [] rest named = absurd cc
strip_named (b ∷ bs) rest named = no_bom b (bs ++ rest) (first_letter b (and_parts _ _ (and_parts _ _ named).1).0)

heading_strip : (f : Field) (fs : List Field) (rest : List ℕ) → is_name f.name ≡ true
    → strip_bom (csv_fields (λ _ f. f.name) 0 (f ∷ fs) ++ rest) ≡ csv_fields (λ _ f. f.name) 0 (f ∷ fs) ++ rest
heading_strip f fs rest named =
    let whole = append_assoc f.name (csv_fields (λ _ f. f.name) 1 fs) rest in
    ap strip_bom whole ∙ strip_named f.name _ named ∙ sym whole

-- ---- the whole text

-- the lines of what is printed of a table: the names, and the texts of each record
pub printed_lines : (table : Table) (f : Field) (fs : List Field) (numbers : List ℕ) → table.schema ≡ f ∷ fs → AreGood [] (f ∷ fs)
    → csv_lines 44 (csv_heading true table ++ flat_map (csv_line true table) numbers) ≡ (names_of table.schema ++ mark_name ∷ []) ∷ map (line_texts table) numbers
printed_lines table f fs numbers is good =
    let tail = flat_map (csv_line true table) numbers in
    let mark = codes ",deleted" in
    let heading : List Field → List ℕ = λ s. csv_fields (λ _ f. f.name) 0 s ++ (mark ++ line_end []) in
    let assoc : heading (f ∷ fs) ++ tail ≡ csv_fields (λ _ f. f.name) 0 (f ∷ fs) ++ ((mark ++ line_end []) ++ tail) =
    append_assoc (csv_fields (λ _ f. f.name) 0 (f ∷ fs)) (mark ++ line_end []) tail in
    let bare : strip_bom (heading (f ∷ fs) ++ tail) ≡ heading (f ∷ fs) ++ tail = ap strip_bom assoc ∙ heading_strip f fs _ good.0.named ∙ sym assoc in
    let quoted : heading (f ∷ fs) ++ tail ≡ (csv_fields (printed name_text) 0 (f ∷ fs) ++ (mark ++ line_end [])) ++ tail =
    ap (λ (t : List ℕ). (t ++ (mark ++ line_end [])) ++ tail) (names_printed [] 0 (f ∷ fs) good) in
    let read = line_then name_text f fs mark_name tail mark heading_mark in
    let lines : lines_from 44 st.StartRecord (Some (strip_bom (heading (f ∷ fs) ++ tail))) ≡ (names_of (f ∷ fs) ++ mark_name ∷ []) ∷ lines_from 44 st.StartRecord (Some tail) =
    ap (λ (t : List ℕ). lines_from 44 st.StartRecord (Some t)) (bare ∙ quoted) ∙ read
    ∙ ap (λ (t : List (List ℕ)). (t ++ mark_name ∷ []) ∷ lines_from 44 st.StartRecord (Some tail)) (names_texts 0 (f ∷ fs)) in
    subst (λ (s : List Field). lines_from 44 st.StartRecord (Some (strip_bom (heading s ++ tail))) ≡ (names_of s ++ mark_name ∷ []) ∷ lines_from 44 st.StartRecord (Some tail)) (sym is) lines
    ∙ ap (λ (t : List (List (List ℕ))). (names_of table.schema ++ mark_name ∷ []) ∷ t) (lines_of_records f fs table is numbers)
