-- What is handed over of an index and of a table, and one more of it.
use Rattle.std.proofs.Common.{◌≡◌, ℕ, zero, suc, ◌+◌, ◌-◌, ◌<◌, ◌≤◌, List, [], ◌∷◌, ◌++◌, Option, Some, None, length, get_or, map, take, refl, ap, sym, ◌∙◌, length-append, arith}
use Rattle.std.proofs.lemmas.List.{get_or-map, get_or_at, length-map}
use Rattle.std.specs.Prelude.{IfSome}
use Rattle.std.specs.List.{slice_get, AllByRecursion}
use Rattle.std.specs.Option.{option_map}
use Rattle.dbf_fields.specs.declared.field.Field.{Field}
use Rattle.key_expr.specs.Expression.{Expression}
use Rattle.key_expr.specs.Keys.{key_length}
use Rattle.ndx_index.specs.declared.pair.Pair.{Pair}
use Rattle.table_order.specs.Laws.RecordOrders.{length-order}
use Rattle.dbf_image.specs.Table.{Table}
use Rattle.table_core.specs.Content.{Content, Held, Indexed, pairs_by, key_length_by}
use Rattle.table_core.specs.Parts.{handed_of}
use Rattle.catalogue_core.specs.Replay.{History, names_of, state_of}
use Rattle.catalogue_core.specs.State.{no_content}
use Rattle.office_run.specs.ClosedIndex.{index_with}
use Rattle.office_run.specs.HandedOver.{closed_with, end_of, index_of, AreEndOf, IsIndexFor, WasReadFor}

-- there are not more pairs than records
pub few_pairs : (content : Content) (at : Option Indexed) → length (pairs_by content at) ≤ length content.table.rows
few_pairs content None = omega arith
few_pairs content (Some x) = omega (arith, length-order content.table x.expr.expr)

pub key_length_is : (at : Option Indexed) (e : Expression) → Some e ≡ option_map (λ x. x.expr) at → key_length_by at ≡ key_length e.fields e.expr
key_length_is None e is = absurd cc
key_length_is (Some x) e is = let same : e ≡ x.expr = cc in ap (λ (y : Expression). key_length y.fields y.expr) (sym same)

-- an index by its name, its expression and its pairs
pub index_is : (content : Content) (at : Option Indexed) (name : List ℕ) (e : Expression) (pairs : List Pair) → Some name ≡ option_map (λ x. x.name) at → Some e ≡ option_map (λ x. x.expr) at
    → pairs ≡ pairs_by content at → Some (index_with name e pairs) ≡ option_map (index_of content.table) at
index_is content None name e pairs named is all = absurd cc
index_is content (Some x) name e pairs named is all =
    let same_name : name ≡ x.name = cc in
    let same : e ≡ x.expr = cc in
    rw (same_name, same, all) refl

-- indexes whose expressions were read for the fields, one by one
pub all_for : (fields : List Field) (xs : List Indexed) → ((k : ℕ) → k < length xs → IfSome (slice_get xs k) (IsIndexFor fields)) → AllByRecursion (IsIndexFor fields) xs
all_for fields [] each = tt
all_for fields (x ∷ xs) each = (each 0 (omega arith), all_for fields xs (λ k low. each (suc k) (omega arith)))

-- all indexes that a table has handed over, as their files are written
pub closed_all : (table : Table) (xs : List Indexed) → map closed_with (map (handed_of table) xs) ≡ map (index_of table) xs
closed_all table [] = refl
closed_all table (x ∷ xs) = ap (λ l. index_of table x ∷ l) (closed_all table xs)

pub read_all : (fields : List Field) (table : Table) (xs : List Indexed) → AllByRecursion (WasReadFor fields) (map (handed_of table) xs) → AllByRecursion (IsIndexFor fields) xs
read_all fields table [] each = tt
read_all fields table (x ∷ xs) each = (each.0, read_all fields table xs each.1)

-- an element of a list that has grown: an earlier one, and the last
pub get_front : {A : Type 0} (xs ys : List A) (i : ℕ) (x : A) → slice_get xs i ≡ Some x → slice_get (xs ++ ys) i ≡ Some x
get_front [] ys i x e = absurd cc
get_front (z ∷ zs) ys zero x e = e
get_front (z ∷ zs) ys (suc i) x e = get_front zs ys i x e

pub get_last : {A : Type 0} (xs : List A) (x : A) (i : ℕ) → i ≡ length xs → slice_get (xs ++ x ∷ []) i ≡ Some x
get_last [] x zero e = refl
get_last [] x (suc i) e = absurd (omega arith)
get_last (z ∷ zs) x zero e = absurd (omega arith)
get_last (z ∷ zs) x (suc i) e = get_last zs x i (omega arith)

-- one more of what is made of a list
pub mapped_next : {X Y : Type 0} (f : X → Y) (xs : List X) (i : ℕ) (y : Y) → Some y ≡ option_map f (slice_get xs i) → map f (take (suc i) xs) ≡ map f (take i xs) ++ y ∷ []
mapped_next f [] i y e = absurd cc
mapped_next f (x ∷ xs) zero y e = let same : f x ≡ y = cc in ap (λ z. z ∷ []) same
mapped_next f (x ∷ xs) (suc i) y e = ap (λ l. f x ∷ l) (mapped_next f xs i y e)

-- ---- tables that are taken out one after another

-- the table that is taken out after others is the one of its number
pub taken_table : (h : History) (before : List Held) (t : Held) (rest : List Held) → map (λ (x : Held). x.content) (before ++ t ∷ rest) ≡ (state_of h).tables → end_of h (length before + 1) ≡ t.content
taken_table h before t rest e =
    let back : length before + 1 - 1 ≡ length before = omega arith in
    let there : length before < length (before ++ t ∷ rest) = omega (arith, length-append before (t ∷ rest)) in
    ap (λ (k : ℕ). get_or (state_of h).tables k no_content) back
    ∙ ap (λ (l : List Content). get_or l (length before) no_content) (sym e)
    ∙ get_or-map (λ (x : Held). x.content) (before ++ t ∷ rest) (length before) t no_content there
    ∙ ap (λ (x : Held). x.content) (get_or_at before t rest t (length before) refl)

-- tables that are a history's at its end, under its names
pub are_end_of : (h : History) (names : List (List ℕ)) (tables : List Held) → names ≡ names_of h.opened → map (λ (x : Held). x.content) tables ≡ (state_of h).tables → length tables ≡ length h.opened.tables
    → AreEndOf h names (map (λ (x : Held). x.content) tables)
are_end_of h names tables named ends count = record { named = named; ends = ends; count = length-map tables (λ (x : Held). x.content) ∙ count }
