-- Nothing has changed of records that are matched by their keys exactly where the rows in the order of the keys are the same.
use Rattle.std.proofs.Common.{◌≡◌, ℕ, ◌-◌, Bool, true, false, cond, List, [], ◌∷◌, ◌++◌, length, map, Result, Ok, Err, refl, sym, ap, ◌∙◌, subst, arith}
use Rattle.std.specs.Prelude.{◌↔◌, IfOk, bytes_eq, filter, flat_map}
use Rattle.std.specs.List.{AllByRecursion}
use Rattle.std.proofs.lemmas.Grind.{flat_map-append}
use Rattle.std.proofs.lemmas.List.{map-append, nil_from_length}
use Rattle.dbf_fields.specs.declared.field.Field.{Field}
use Rattle.dbf_fields.specs.Schema.{IsSchema}
use Rattle.dbf_image.specs.Table.{Row, Table, IsTable, AreCells, blank_row, row_at}
use Rattle.key_expr.specs.Grammar.{Expr}
use Rattle.key_expr.specs.Keys.{key}
use Rattle.ndx_index.specs.declared.pair.Pair.{Pair}
use Rattle.table_order.specs.Laws.Given.{order_own}
use Rattle.table_order.specs.TableOrder.{order, IsRecordPair}
use Rattle.table_diff.specs.declared.matching.RecordNumbers.{RecordNumbers}
use Rattle.table_diff.specs.ByKey.{changes_by_key, changes_of_matches, diff_text_by_key, rows_by_key, AreSameByKey}
use Rattle.table_diff.specs.Changes.{Change, field_changes, match_changes, row_changes}
use Rattle.table_diff.specs.DiffText.{change_lines}
use Rattle.table_diff.specs.Matching.{all_matches, matches_by_key, matches_with, numbers_with, side_by_side, HasRecord}
use Rattle.table_diff.proofs.FieldLaws.{fields_same}
use Rattle.table_diff.proofs.FieldLaws as field_laws
use Rattle.table_diff.proofs.KeyMatching.{new_order, old_order, table_keys}
use Rattle.table_diff.proofs.RowLaws.{both_none, row_same, same_unchanged}
use Rattle.table_diff.proofs.SameLaws.{row_fits}
use Rattle.table_diff.proofs.TextLaws.{no_lines}

abbrev pub have_records : Table → List ℕ → Type 0
have_records table numbers = AllByRecursion (HasRecord table) numbers

-- the cells of a record are those of the fields
fit_at : (table : Table) (number : ℕ) → IsTable table → HasRecord table number → AreCells table.schema (row_at table number).cells
fit_at table number is has = row_fits table.schema table.rows (number - 1) (blank_row table.schema) is.fit (omega (arith, has.some, has.inside))

-- ---- records that are matched one by one

-- nothing has changed of them: so the rows are the same,
rows_same : (old new : Table) (os ns : List ℕ) → IsTable old → IsTable new → old.schema ≡ new.schema → have_records old os → have_records new ns
    → changes_of_matches old new (side_by_side os ns) ≡ [] → map (row_at old) os ≡ map (row_at new) ns
rows_same old new [] [] is are fields a b e = refl
rows_same old new [] (n ∷ ns) is are fields a b e = absurd cc
rows_same old new (o ∷ os) [] is are fields a b e = absurd cc
rows_same old new (o ∷ os) (n ∷ ns) is are fields a b e =
    let numbers : RecordNumbers = record { old_number = o; new_number = n } in
    let parts = both_none (row_changes old new numbers) (changes_of_matches old new (side_by_side os ns)) e in
    let fits : AreCells old.schema (row_at new n).cells = subst (λ (fs : List Field). AreCells fs (row_at new n).cells) (sym fields) (fit_at new n are b.0) in
    let here = row_same old new numbers is.fields fields (fit_at old o is a.0) fits parts.0 in
    let rest = rows_same old new os ns is are fields a.1 b.1 parts.1 in
    ap (λ (r : Row). r ∷ map (row_at old) os) here ∙ ap (λ (rs : List Row). row_at new n ∷ rs) rest

-- and where the rows are the same nothing has changed
none_changed : (old new : Table) (os ns : List ℕ) → IsSchema old.schema → old.schema ≡ new.schema → map (row_at old) os ≡ map (row_at new) ns
    → changes_of_matches old new (side_by_side os ns) ≡ []
none_changed old new [] [] is fields e = refl
none_changed old new [] (n ∷ ns) is fields e = absurd cc
none_changed old new (o ∷ os) [] is fields e = absurd cc
none_changed old new (o ∷ os) (n ∷ ns) is fields e =
    let numbers : RecordNumbers = record { old_number = o; new_number = n } in
    let row : row_at old o ≡ row_at new n = cc in
    let rest : map (row_at old) os ≡ map (row_at new) ns = cc in
    ap (λ (cs : List Change). cs ++ changes_of_matches old new (side_by_side os ns)) (same_unchanged old new numbers is fields row)
    ∙ none_changed old new os ns is fields rest

-- ---- records of all keys

kept_all : {X : Type 0} (P : X → Type 0) (b : Bool) (x : X) (xs : List X) → P x → AllByRecursion P xs → AllByRecursion P (cond b (x ∷ xs) xs)
kept_all P true x xs h k = (h, k)
kept_all P false x xs h k = k

pub numbers_there : (table : Table) (e : Expr) (ps : List Pair) (k : List ℕ) → AllByRecursion (IsRecordPair table e) ps → have_records table (numbers_with ps k)
numbers_there table e [] k all = tt
numbers_there table e (p ∷ ps) k all = there (bytes_eq p.key k) (filter (λ (q : Pair). bytes_eq q.key k) ps) (numbers_there table e ps k all.1)
  where
    there : (b : Bool) (qs : List Pair) → have_records table (map (λ (q : Pair). q.number) qs) → have_records table (map (λ (q : Pair). q.number) (cond b (p ∷ qs) qs))
    there true qs h = (record { some = all.0.some; inside = all.0.inside }, h)
    there false qs h = h

rows_of_keys : (old new : Table) (e f : Expr) (ps qs : List Pair) (ks : List (List ℕ)) → IsTable old → IsTable new → old.schema ≡ new.schema
    → AllByRecursion (IsRecordPair old e) ps → AllByRecursion (IsRecordPair new f) qs
    → changes_of_matches old new (flat_map (matches_with ps qs) ks) ≡ []
    → map (row_at old) (flat_map (numbers_with ps) ks) ≡ map (row_at new) (flat_map (numbers_with qs) ks)
rows_of_keys old new e f ps qs [] is are fields a b none = refl
rows_of_keys old new e f ps qs (k ∷ ks) is are fields a b none =
    let apart = flat_map-append (match_changes old new) (matches_with ps qs k) (flat_map (matches_with ps qs) ks) in
    let parts = both_none (changes_of_matches old new (matches_with ps qs k)) (changes_of_matches old new (flat_map (matches_with ps qs) ks)) (sym apart ∙ none) in
    let here = rows_same old new (numbers_with ps k) (numbers_with qs k) is are fields (numbers_there old e ps k a) (numbers_there new f qs k b) parts.0 in
    let rest = rows_of_keys old new e f ps qs ks is are fields a b parts.1 in
    map-append (row_at old) (numbers_with ps k) (flat_map (numbers_with ps) ks)
    ∙ ap (λ (rs : List Row). rs ++ map (row_at old) (flat_map (numbers_with ps) ks)) here
    ∙ ap (λ (rs : List Row). map (row_at new) (numbers_with qs k) ++ rs) rest
    ∙ sym (map-append (row_at new) (numbers_with qs k) (flat_map (numbers_with qs) ks))

-- a row has a key
abbrev has_row_key : Expr → List ℕ → Row → Bool
has_row_key e k row = bytes_eq (key row.cells e) k

-- the rows that have a key are those of all rows that have it
rows_with : (table : Table) (e : Expr) (ps : List Pair) (k : List ℕ) → AllByRecursion (IsRecordPair table e) ps
    → map (row_at table) (numbers_with ps k) ≡ filter (has_row_key e k) (map (row_at table) (map (λ (p : Pair). p.number) ps))
rows_with table e [] k all = refl
rows_with table e (p ∷ ps) k all =
    let own : p.key ≡ key (row_at table p.number).cells e = ap (λ (q : Pair). q.key) all.0.own in
    with_one (bytes_eq p.key k) (has_row_key e k (row_at table p.number)) (filter (λ (q : Pair). bytes_eq q.key k) ps) _ (ap (λ (x : List ℕ). bytes_eq x k) own)
    (rows_with table e ps k all.1)
  where
    with_one : (b c : Bool) (qs : List Pair) (rows : List Row) → b ≡ c → map (row_at table) (map (λ (q : Pair). q.number) qs) ≡ rows
        → map (row_at table) (map (λ (q : Pair). q.number) (cond b (p ∷ qs) qs)) ≡ cond c (row_at table p.number ∷ rows) rows
    with_one true true qs rows same h = ap (λ (rs : List Row). row_at table p.number ∷ rs) h
    with_one true false qs rows same h = absurd cc
    with_one false true qs rows same h = absurd cc
    with_one false false qs rows same h = h

none_of_keys : (old new : Table) (e : Expr) (ks : List (List ℕ)) → IsSchema old.schema → old.schema ≡ new.schema → rows_by_key old e ≡ rows_by_key new e
    → changes_of_matches old new (flat_map (matches_with (order old e) (order new e)) ks) ≡ []
none_of_keys old new e [] is fields rows = refl
none_of_keys old new e (k ∷ ks) is fields rows =
    let ps : List Pair = order old e in
    let qs : List Pair = order new e in
    let same : map (row_at old) (numbers_with ps k) ≡ map (row_at new) (numbers_with qs k) =
    rows_with old e ps k (order_own old e) ∙ ap (filter (has_row_key e k)) rows ∙ sym (rows_with new e qs k (order_own new e)) in
    flat_map-append (match_changes old new) (matches_with ps qs k) (flat_map (matches_with ps qs) ks)
    ∙ ap (λ (cs : List Change). cs ++ changes_of_matches old new (flat_map (matches_with ps qs) ks)) (none_changed old new (numbers_with ps k) (numbers_with qs k) is fields same)
    ∙ none_of_keys old new e ks is fields rows

-- ---- two tables

pub unchanged_same : (old new : Table) (e f : Expr) → IsTable old → IsTable new → (old.schema ≡ new.schema → e ≡ f) → changes_by_key old new e f ≡ [] → AreSameByKey old new e
unfolding all_matches
unchanged_same old new e f is are alike none =
    let parts = both_none (field_changes old.schema new.schema) (changes_of_matches old new (matches_by_key old new e f)) none in
    let fields : old.schema ≡ new.schema = fields_same old.schema new.schema parts.0 in
    let rows = rows_of_keys old new e f (order old e) (order new f) (table_keys old new e f) is are fields (order_own old e) (order_own new f) parts.1 in
    let by_f : rows_by_key old e ≡ rows_by_key new f =
    ap (map (row_at old)) (sym (old_order old new e f)) ∙ rows ∙ ap (map (row_at new)) (new_order old new e f) in
    (fields, subst (λ (x : Expr). rows_by_key old e ≡ rows_by_key new x) (sym (alike fields)) by_f)

pub same_unchanged_by : (old new : Table) (e f : Expr) → IsTable old → (old.schema ≡ new.schema → e ≡ f) → AreSameByKey old new e → changes_by_key old new e f ≡ []
unfolding all_matches
same_unchanged_by old new e f is alike same =
    let fields : field_changes old.schema new.schema ≡ [] =
    subst (λ (fs : List Field). field_changes old.schema fs ≡ []) same.0 (field_laws.same_unchanged old.schema) in
    let none = none_of_keys old new e (table_keys old new e e) is.fields same.0 same.1 in
    let records : changes_of_matches old new (matches_by_key old new e f) ≡ [] =
    subst (λ (x : Expr). changes_of_matches old new (matches_by_key old new e x) ≡ []) (alike same.0) none in
    ap (λ (cs : List Change). cs ++ changes_of_matches old new (matches_by_key old new e f)) fields ∙ records

-- so the count of changes is 0 exactly where they are the same
pub counted_by_key : {E : Type 0} (old new : Table) (e f : Expr) (r : Result ℕ E) → IsTable old → IsTable new → (old.schema ≡ new.schema → e ≡ f)
    → IfOk r (λ n. n ≡ length (changes_by_key old new e f)) → IfOk r (λ n. (n ≡ 0) ↔ AreSameByKey old new e)
counted_by_key old new e f (Ok n) is are alike h = (
  λ none. unchanged_same old new e f is are alike (nil_from_length (changes_by_key old new e f) (sym h ∙ none)),
  λ same. h ∙ ap (length {A = Change}) (same_unchanged_by old new e f is alike same),
)
counted_by_key old new e f (Err fault) is are alike h = tt

pub told_by_key : (old new : Table) (e f : Expr) → IsTable old → IsTable new → (old.schema ≡ new.schema → e ≡ f) → diff_text_by_key old new e f ≡ [] ↔ AreSameByKey old new e
told_by_key old new e f is are alike = (
  λ none. unchanged_same old new e f is are alike (no_lines (changes_by_key old new e f) none),
  λ same. ap change_lines (same_unchanged_by old new e f is alike same),
)
