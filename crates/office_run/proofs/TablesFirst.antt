-- The table of an index has been loaded before it, where each index's entry stands after its table's.
use Rattle.std.proofs.Common.{◌≡◌, ℕ, zero, suc, ◌+◌, ◌<◌, Bool, true, false, not, cond, List, [], ◌∷◌, length, take, Option, Some, None, refl, sym, ap, ◌∙◌, arith}
use Rattle.std.specs.Prelude.{◌⊎◌, ◌||◌, IsSome, bytes_eq, nat_lt, slice_get, slice_set}
use mathlib.Core.Logic.{inl, inr}
use Rattle.std.specs.List.{list_any, position, position_or_len}
use Rattle.std.proofs.lemmas.Bool.{false≢true}
use Rattle.std.proofs.lemmas.Bool.Decides.{nat_tests}
use Rattle.std.proofs.lemmas.List.Folds.{list_any-append}
use Rattle.std.proofs.lemmas.Slice.Eq.{bytes_eq-Decides}
use Rattle.catalogue_core.specs.declared.source.TableSource.{TableSource}
use Rattle.folders.specs.declared.named.NamedFile.{NamedFile}
use Rattle.station_lines.specs.Setup.{is_table_of, IndexesFollowTables}
use Rattle.station_lines.specs.declared.setup.entry.SetupEntry.{SetupEntry}
use Rattle.station_lines.specs.declared.setup.entry.SetupEntry.TheVariants.{Table, Index, Station}
use Rattle.office_run.specs.Loading.{Read, nothing, CanLoad, Loads, LoadAll}

-- ---- tests of lists

-- the first element that passes a test, where one does
found_at : (b : Bool) (m n : ℕ) → (b ≡ false → m < n) → cond (not b) (1 + m) 0 < suc n
found_at true m n h = omega arith
found_at false m n h = let k : m < n = h refl in omega (arith, k)

left_of : (a b : Bool) → (a || b) ≡ true → a ≡ false → b ≡ true
left_of true b e f = absurd (false≢true (sym f))
left_of false b e f = e

inside : {A : Type 0} (p : A → Bool) (xs : List A) → list_any p xs ≡ true → position_or_len p xs < length xs
inside p [] e = absurd (false≢true e)
inside p (x ∷ xs) e = found_at (p x) (position_or_len p xs) (length xs) (λ f. inside p xs (left_of (p x) (list_any p xs) e f))

lt_test : (m n : ℕ) → m < n → nat_lt m n ≡ true
lt_test m n h = grind (arith, nat_tests)

some_if : (b : Bool) (n : ℕ) → b ≡ true → IsSome (cond b (Some n) None)
some_if true n e = refl
some_if false n e = absurd (false≢true e)

first_of_any : {A : Type 0} (p : A → Bool) (xs : List A) → list_any p xs ≡ true → IsSome (position p xs)
first_of_any p xs e = some_if (nat_lt (position_or_len p xs) (length xs)) (position_or_len p xs) (lt_test (position_or_len p xs) (length xs) (inside p xs e))

-- one element is another, of which the test is the same
same_any : {A : Type 0} (p : A → Bool) (xs : List A) (i : ℕ) (x y : A) → slice_get xs i ≡ Some x → p y ≡ p x → list_any p (slice_set xs i y) ≡ list_any p xs
same_any p [] i x y e same = absurd cc
same_any p (z ∷ zs) zero x y e same =
    let is : z ≡ x = cc in
    ap (λ b. b || list_any p zs) (same ∙ ap p (sym is))
same_any p (z ∷ zs) (suc i) x y e same = ap (λ b. p z || b) (same_any p zs i x y e same)

with_last : (a b : Bool) → (a ≡ true) ⊎ (b ≡ true) → (a || (b || false)) ≡ true
with_last true b k = refl
with_last false true k = refl
with_last false false (inl e) = absurd (false≢true e)
with_last false false (inr e) = absurd (false≢true e)

either : (a b : Bool) → (a || b) ≡ true → (a ≡ true) ⊎ (b ≡ true)
either true b e = inl refl
either false b e = inr e

-- ---- the names of tables that have been loaded

abbrev is_named : List ℕ → TableSource → Bool
is_named name table = bytes_eq name table.name

abbrev has_named : List ℕ → List TableSource → Bool
has_named name tables = list_any (λ (t : TableSource). is_named name t) tables

named_same : (own name other : List ℕ) → other ≡ own → bytes_eq own name ≡ true → bytes_eq name other ≡ true
named_same own name other is e = (bytes_eq-Decides name other).1 (sym (is ∙ (bytes_eq-Decides own name).0 e))

-- tables that were loaded stay, and a table's entry loads one of its name
named_next : (files : Option (List NamedFile)) (name : List ℕ) (entry : SetupEntry) (old new : Read) → Loads files entry old new
    → (has_named name old.tables ≡ true) ⊎ (is_table_of name entry ≡ true) → has_named name new.tables ≡ true
named_next files name (Table own dbf dbt) old new h (inl k) =
    ap (λ (r : Read). has_named name r.tables) h.2 ∙ list_any-append (is_named name) old.tables (h.0 ∷ []) ∙ with_last (has_named name old.tables) (is_named name h.0) (inl k)
named_next files name (Table own dbf dbt) old new h (inr k) =
    ap (λ (r : Read). has_named name r.tables) h.2 ∙ list_any-append (is_named name) old.tables (h.0 ∷ [])
    ∙ with_last (has_named name old.tables) (is_named name h.0) (inr (named_same own name h.0.name h.1.named k))
named_next files name (Index table own ndx) old new h (inl k) =
    let has = h.2 in
    ap (has_named name) has.others ∙ same_any (is_named name) old.tables has.place has.table has.changed has.there (ap (bytes_eq name) has.one_more.named) ∙ k
named_next files name (Index table own ndx) old new h (inr k) = absurd (false≢true k)
named_next files name (Station script) old new h (inl k) = ap (λ (r : Read). has_named name r.tables) h.2 ∙ k
named_next files name (Station script) old new h (inr k) = absurd (false≢true k)

now_or_later : (files : Option (List NamedFile)) (name : List ℕ) (entry : SetupEntry) (entries : List SetupEntry) (old next : Read) → Loads files entry old next
    → (is_table_of name entry ≡ true) ⊎ (list_any (is_table_of name) entries ≡ true) → (has_named name next.tables ≡ true) ⊎ (list_any (is_table_of name) entries ≡ true)
now_or_later files name entry entries old next h (inl k) = inl (named_next files name entry old next h (inr k))
now_or_later files name entry entries old next h (inr k) = inr k

next_or_later : (files : Option (List NamedFile)) (name : List ℕ) (entry : SetupEntry) (entries : List SetupEntry) (old next : Read) → Loads files entry old next
    → (has_named name old.tables ≡ true) ⊎ (list_any (is_table_of name) (entry ∷ entries) ≡ true) → (has_named name next.tables ≡ true) ⊎ (list_any (is_table_of name) entries ≡ true)
next_or_later files name entry entries old next h (inl k) = inl (named_next files name entry old next h (inl k))
next_or_later files name entry entries old next h (inr k) = now_or_later files name entry entries old next h (either (is_table_of name entry) (list_any (is_table_of name) entries) k)

named_all : (files : Option (List NamedFile)) (name : List ℕ) (entries : List SetupEntry) (old new : Read) → LoadAll files entries old new
    → (has_named name old.tables ≡ true) ⊎ (list_any (is_table_of name) entries ≡ true) → has_named name new.tables ≡ true
named_all files name [] old new h (inl k) = ap (λ (r : Read). has_named name r.tables) h ∙ k
named_all files name [] old new h (inr k) = absurd (false≢true k)
named_all files name (e ∷ es) old new h k = named_all files name es h.0 new h.2 (next_or_later files name e es old h.0 h.1 k)

-- an entry can be loaded after those before it
pub can_load : (files : Option (List NamedFile)) (entries : List SetupEntry) (i : ℕ) (entry : SetupEntry) (read : Read) → IndexesFollowTables entries
    → slice_get entries i ≡ Some entry → LoadAll files (take i entries) nothing read → CanLoad read.tables entry
can_load files entries i (Table name dbf dbt) read first at loaded = tt
can_load files entries i (Station script) read first at loaded = tt
can_load files entries i (Index table name ndx) read first at loaded =
    first_of_any (λ (t : TableSource). is_named table t) read.tables (named_all files table (take i entries) nothing read loaded (inr (first i table name ndx at)))
