-- What has changed of a record: nothing exactly where it is the same.
use Rattle.std.proofs.Common.{◌≡◌, ℕ, zero, suc, ◌+◌, ◌<◌, Bool, true, false, cond, List, [], ◌∷◌, ◌++◌, length, get_or, drop, take, refl, sym, ap, ◌∙◌, arith, subst}
use Rattle.std.specs.Prelude.{◌==◌, bytes_eq, flat_map, slice_index_or}
use Rattle.std.proofs.lemmas.Bool.{or_parts}
use Rattle.std.proofs.lemmas.List.{ext_get_or}
use Rattle.std.proofs.lemmas.Slice.Eq.{bytes_eq-Decides}
use Rattle.dbf_fields.specs.declared.field.Field.{Field}
use Rattle.dbf_fields.specs.declared.format.TheConstants.{MEMO}
use Rattle.dbf_fields.specs.Schema.{IsSchema}
use Rattle.dbf_image.specs.Growing.{IsRecord}
use Rattle.dbf_image.specs.Store.{cells_with, row_with}
use Rattle.dbf_image.specs.Table.{Row, Table, AreCells, cell_at, has_memos, kind_at, row_at}
use Rattle.table_text.specs.Csv.{csv_value}
use Rattle.table_diff.specs.declared.fields.SharedField.{SharedField}
use Rattle.table_diff.specs.declared.matching.RecordNumbers.{RecordNumbers}
use Rattle.table_diff.specs.Changes.{Change, cell_changes, mark_changes, name_of_field, replaced_value, row_changes, value_changes}
use Rattle.table_diff.specs.Fields.{shared_fields}
use Rattle.table_diff.proofs.FieldLaws.{matched, same_at, same_from}

-- ---- lists of nothing

pub both_none : {X : Type 0} (xs ys : List X) → xs ++ ys ≡ [] → (xs ≡ []) × (ys ≡ [])
both_none [] ys e = (refl, e)
both_none (x ∷ xs) ys e = absurd cc

pub none_at : {X Y : Type 0} (f : X → List Y) (xs : List X) (k : ℕ) (d : X) → flat_map f xs ≡ [] → k < length xs → f (get_or xs k d) ≡ []
none_at f [] k d e lt = absurd (omega (arith, lt))
none_at f (x ∷ xs) zero d e lt = (both_none (f x) (flat_map f xs) e).0
none_at f (x ∷ xs) (suc k) d e lt = none_at f xs k d (both_none (f x) (flat_map f xs) e).1 (omega (arith, lt))

-- ---- the same record

told_none : (b : Bool) (c : Change) → cond b [] (c ∷ []) ≡ [] → b ≡ true
told_none true c e = refl
told_none false c e = absurd cc

same_value : (numbers : RecordNumbers) (name : List ℕ) (old_kind new_kind : ℕ) (a b : List ℕ) → value_changes numbers name true old_kind new_kind a b ≡ [] → a ≡ b
same_value numbers name old_kind new_kind a b e =
    (bytes_eq-Decides a b).0 (told_none (bytes_eq a b) (replaced_value numbers name a b (csv_value old_kind a) (csv_value new_kind b)) e)

no_change : (numbers : RecordNumbers) (name : List ℕ) (old_kind new_kind : ℕ) (a b : List ℕ) → a ≡ b → value_changes numbers name true old_kind new_kind a b ≡ []
no_change numbers name old_kind new_kind a b e = rw ((bytes_eq-Decides a b).1 e) refl

cells_same : (old new : Table) (numbers : RecordNumbers) (i k : ℕ) (fs : List Field) → flat_map (cell_changes old new numbers) (same_from i fs) ≡ [] → k < length fs
    → cell_at old numbers.old_number (i + k) ≡ cell_at new numbers.new_number (i + k)
cells_same old new numbers i k [] e lt = absurd (omega (arith, lt))
cells_same old new numbers i zero (f ∷ fs) e lt =
    let parts = both_none (cell_changes old new numbers (same_at i)) (flat_map (cell_changes old new numbers) (same_from (i + 1) fs)) e in
    let here : cell_at old numbers.old_number i ≡ cell_at new numbers.new_number i =
    same_value numbers (name_of_field old.schema i) (kind_at old.schema i) (kind_at new.schema i) (cell_at old numbers.old_number i) (cell_at new numbers.new_number i) parts.0 in
    let at : i ≡ i + zero = omega arith in
    subst (λ (n : ℕ). cell_at old numbers.old_number n ≡ cell_at new numbers.new_number n) at here
cells_same old new numbers i (suc k) (f ∷ fs) e lt =
    let parts = both_none (cell_changes old new numbers (same_at i)) (flat_map (cell_changes old new numbers) (same_from (i + 1) fs)) e in
    let at : (i + 1) + k ≡ i + suc k = omega arith in
    subst (λ (n : ℕ). cell_at old numbers.old_number n ≡ cell_at new numbers.new_number n) at (cells_same old new numbers (i + 1) k fs parts.1 (omega (arith, lt)))

no_cell_changes : (old new : Table) (numbers : RecordNumbers) (i : ℕ) (fs : List Field) → row_at old numbers.old_number ≡ row_at new numbers.new_number
    → flat_map (cell_changes old new numbers) (same_from i fs) ≡ []
no_cell_changes old new numbers i [] e = refl
no_cell_changes old new numbers i (f ∷ fs) e =
    let cells : cell_at old numbers.old_number i ≡ cell_at new numbers.new_number i = ap (λ (row : Row). slice_index_or row.cells i []) e in
    let here = no_change numbers (name_of_field old.schema i) (kind_at old.schema i) (kind_at new.schema i) (cell_at old numbers.old_number i) (cell_at new numbers.new_number i) cells in
    ap (λ (cs : List Change). cs ++ flat_map (cell_changes old new numbers) (same_from (i + 1) fs)) here ∙ no_cell_changes old new numbers (i + 1) fs e

marks_same : (numbers : RecordNumbers) (was is : Bool) → mark_changes numbers was is ≡ [] → was ≡ is
marks_same numbers true true e = refl
marks_same numbers true false e = absurd cc
marks_same numbers false true e = absurd cc
marks_same numbers false false e = refl

no_mark_changes : (numbers : RecordNumbers) (was is : Bool) → was ≡ is → mark_changes numbers was is ≡ []
no_mark_changes numbers true true e = refl
no_mark_changes numbers true false e = absurd cc
no_mark_changes numbers false true e = absurd cc
no_mark_changes numbers false false e = refl

many_cells : (fields : List Field) (cells : List (List ℕ)) → AreCells fields cells → length cells ≡ length fields
many_cells [] [] h = refl
many_cells [] (c ∷ cs) h = absurd h
many_cells (f ∷ fs) [] h = absurd h
many_cells (f ∷ fs) (c ∷ cs) h = ap (λ (n : ℕ). suc n) (many_cells fs cs h.1)

same_row : (a b : Row) → a.deleted ≡ b.deleted → a.cells ≡ b.cells → a ≡ b
same_row a b mark cells = λ i. record { deleted = mark i; cells = cells i }

-- a record of which nothing has changed is the same,
pub row_same : (old new : Table) (numbers : RecordNumbers) → IsSchema old.schema → old.schema ≡ new.schema
    → AreCells old.schema (row_at old numbers.old_number).cells → AreCells old.schema (row_at new numbers.new_number).cells
    → row_changes old new numbers ≡ [] → row_at old numbers.old_number ≡ row_at new numbers.new_number
row_same old new numbers is fields own other e =
    let parts = both_none (mark_changes numbers (row_at old numbers.old_number).deleted (row_at new numbers.new_number).deleted) (flat_map (cell_changes old new numbers) (shared_fields old.schema new.schema)) e in
    let mark = marks_same numbers (row_at old numbers.old_number).deleted (row_at new numbers.new_number).deleted parts.0 in
    let shared : shared_fields old.schema new.schema ≡ same_from 0 old.schema = ap (shared_fields old.schema) (sym fields) ∙ matched old.schema is in
    let none = subst (λ (xs : List SharedField). flat_map (cell_changes old new numbers) xs ≡ []) shared parts.1 in
    let many : length (row_at old numbers.old_number).cells ≡ length old.schema = many_cells old.schema (row_at old numbers.old_number).cells own in
    let as_many : length (row_at new numbers.new_number).cells ≡ length old.schema = many_cells old.schema (row_at new numbers.new_number).cells other in
    let cells = ext_get_or {A = List ℕ} [] (row_at old numbers.old_number).cells (row_at new numbers.new_number).cells (many ∙ sym as_many) (λ k lt.
    let inside : k < length old.schema = omega (arith, lt, many) in
    let zero-k : 0 + k ≡ k = omega arith in
    subst (λ (n : ℕ). cell_at old numbers.old_number n ≡ cell_at new numbers.new_number n) zero-k (cells_same old new numbers 0 k old.schema none inside)) in
    same_row (row_at old numbers.old_number) (row_at new numbers.new_number) mark cells

-- and of the same record nothing has changed
pub same_unchanged : (old new : Table) (numbers : RecordNumbers) → IsSchema old.schema → old.schema ≡ new.schema → row_at old numbers.old_number ≡ row_at new numbers.new_number → row_changes old new numbers ≡ []
same_unchanged old new numbers is fields e =
    let shared : shared_fields old.schema new.schema ≡ same_from 0 old.schema = ap (shared_fields old.schema) (sym fields) ∙ matched old.schema is in
    let mark : (row_at old numbers.old_number).deleted ≡ (row_at new numbers.new_number).deleted = ap (λ (row : Row). row.deleted) e in
    let none = subst (λ (xs : List SharedField). flat_map (cell_changes old new numbers) xs ≡ []) (sym shared) (no_cell_changes old new numbers 0 old.schema e) in
    ap (λ (cs : List Change). cs ++ flat_map (cell_changes old new numbers) (shared_fields old.schema new.schema)) (no_mark_changes numbers _ _ mark) ∙ none

-- ---- bytes of records without memos

plain_cells : (fields : List Field) (bytes : List ℕ) (memos others : List (List ℕ)) → has_memos fields ≡ false → cells_with fields bytes memos ≡ cells_with fields bytes others
plain_cells [] bytes memos others h = refl
plain_cells (f ∷ fs) bytes memos others h =
    let parts = or_parts (f.kind == MEMO) (has_memos fs) h in
    let no : (f.kind == MEMO) ≡ false = parts.0 in
    rw no (ap (λ (cs : List (List ℕ)). take f.width bytes ∷ cs) (plain_cells fs (drop f.width bytes) memos others parts.1))

abbrev row_of : Bool → List (List ℕ) → Row
row_of deleted cells = record { deleted = deleted; cells = cells }

-- records with the same bytes are the same, where no field is a memo
pub by_their_bytes : (fields : List Field) (bytes others : List ℕ) (row other : Row) → has_memos fields ≡ false → IsRecord fields bytes row → IsRecord fields others other
    → bytes ≡ others → row ≡ other
by_their_bytes fields bytes others row other h is are same =
    let cells = plain_cells fields (drop 1 bytes) is.memos are.memos h in
    let own : row_with fields bytes is.memos ≡ row_with fields bytes are.memos = ap (row_of (row_with fields bytes []).deleted) cells in
    is.is ∙ own ∙ ap (λ (bs : List ℕ). row_with fields bs are.memos) same ∙ sym are.is

-- so nothing has changed of them
pub bytes_tell : (old new : Table) (numbers : RecordNumbers) (bytes others : List ℕ) → IsSchema old.schema → old.schema ≡ new.schema → has_memos old.schema ≡ false
    → IsRecord old.schema bytes (row_at old numbers.old_number) → IsRecord new.schema others (row_at new numbers.new_number) → bytes ≡ others → row_changes old new numbers ≡ []
bytes_tell old new numbers bytes others is fields h own other same =
    let moved = subst (λ (fs : List Field). IsRecord fs others (row_at new numbers.new_number)) (sym fields) other in
    same_unchanged old new numbers is fields (by_their_bytes old.schema bytes others (row_at old numbers.old_number) (row_at new numbers.new_number) h own moved same)
