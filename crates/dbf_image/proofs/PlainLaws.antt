-- A table without memos needs no file of memos.
use Rattle.std.proofs.Common.{◌≡◌, ℕ, false, eqb, List, [], ◌∷◌, drop, Option, refl, sym, ◌∙◌, arith}
use Rattle.std.specs.Prelude.{unwrap_or}
use Rattle.std.proofs.lemmas.Bool.{eqb-false, true≢false, or_parts}
use Rattle.dbf_fields.specs.declared.field.Field.{Field}
use Rattle.dbf_image.specs.Table.{Row, Table, has_memos, IsTable}
use Rattle.dbf_image.specs.Memo.{EncodesCells}
use Rattle.dbf_image.specs.DbfText.{EncodesRows, IsDbf}
use Rattle.dbf_image.specs.Blocks.{cells_blocks, rows_blocks, memo_image}
use Rattle.dbf_image.specs.Image.{image}
use Rattle.dbf_image.proofs.FileLaws.{is_dbf_image}
use Rattle.dbf_fields.specs.declared.format.TheConstants.{MEMO}

other_cells : (a b : List ℕ) (fields : List Field) (bytes : List ℕ) (cells : List (List ℕ)) → has_memos fields ≡ false → EncodesCells a fields bytes cells → EncodesCells b fields bytes cells
other_cells a b [] bytes [] e h = tt
other_cells a b [] bytes (c ∷ cs) e h = absurd h
other_cells a b (f ∷ fs) bytes [] e h = absurd h
other_cells a b (f ∷ fs) bytes (c ∷ cs) e h =
    let p = or_parts (eqb f.kind MEMO) (has_memos fs) e in
    ((λ kind. absurd (eqb-false f.kind MEMO p.0 kind), h.0.1), other_cells a b fs (drop f.width bytes) cs p.1 h.1)

other_records : (a b : List ℕ) (fields : List Field) (ps : List (List ℕ)) (rows : List Row) → has_memos fields ≡ false → EncodesRows a fields ps rows → EncodesRows b fields ps rows
other_records a b fields [] [] e h = tt
other_records a b fields [] (r ∷ rs) e h = absurd h
other_records a b fields (p ∷ ps) [] e h = absurd h
other_records a b fields (p ∷ ps) (r ∷ rs) e h = ((h.0.0, other_cells a b fields (drop 1 p) r.cells e h.0.1), other_records a b fields ps rs e h.1)

no_blocks : (fields : List Field) (cells : List (List ℕ)) → has_memos fields ≡ false → cells_blocks fields cells ≡ 0
no_blocks [] cells e = refl
no_blocks (f ∷ fs) [] e = refl
no_blocks (f ∷ fs) (c ∷ cs) e =
    let p = or_parts (eqb f.kind MEMO) (has_memos fs) e in
    rw p.0 (omega (arith, no_blocks fs cs p.1))

pub none_free : (fields : List Field) (rows : List Row) → has_memos fields ≡ false → rows_blocks fields rows ≡ 0
none_free fields [] e = refl
none_free fields (r ∷ rs) e = omega (arith, no_blocks fields r.cells e, none_free fields rs e)

pub is_plain_image : (table : Table) (year month day : ℕ) (dbt : Option (List ℕ)) → IsTable table → has_memos table.schema ≡ false
    → IsDbf (image table year month day) dbt table
is_plain_image table year month day dbt t e =
    let none = none_free table.schema table.rows e in
    let r = is_dbf_image table year month day t (omega (arith, none)) in
    record {
      long = r.long;
      version = r.version;
      field_count = r.field_count;
      last_field = r.last_field;
      not_before = r.not_before;
      in_header = r.in_header;
      accepted = r.accepted;
      schema = r.schema;
      wide = r.wide;
      count_bounded = r.count_bounded;
      whole = r.whole;
      memos = λ h. absurd (true≢false (sym h ∙ e));
      rows = other_records (memo_image table) (unwrap_or dbt []) table.schema _ table.rows e r.rows;
    }
