-- The names of the tables that the lines of a setup name.
use Rattle.std.proofs.Common.{◌≡◌, ℕ, ◌≤◌, List, [], ◌∷◌, ◌++◌, length, Bool, true, false, cond, Option, Some, None, refl, ap, ◌∙◌, sym, subst, arith}
use Rattle.std.specs.Prelude.{◌||◌, bytes_eq, nat_le}
use Rattle.std.specs.List.{list_any}
use Rattle.std.specs.Char.{to_ascii_uppercase}
use Rattle.std.proofs.lemmas.Bool.{false≢true}
use Rattle.std.proofs.lemmas.Bool.Decides.{nat_tests}
use Rattle.std.proofs.lemmas.List.{length-map}
use Rattle.std.proofs.lemmas.List.Folds.{list_any-append}
use Rattle.std.proofs.lemmas.Slice.Eq.{bytes_eq-Decides}
use Rattle.catalogue_core.specs.Names.{includes_name, with_name}
use Rattle.station_lines.specs.declared.setup.entry.SetupEntry.{SetupEntry}
use Rattle.station_lines.specs.declared.setup.entry.SetupEntry.TheVariants.{Table, Index, Station}
use Rattle.station_lines.specs.declared.setup.said.Said.{Said}
use Rattle.station_lines.specs.declared.setup.said.Said.TheVariants as said
use Rattle.station_lines.specs.declared.setup.said.TheConstants.{MAX_NAME_BYTES}
use Rattle.station_lines.specs.Script.Parts.{capitals, is_name_word}
use Rattle.station_lines.specs.Setup.{short_name, is_table_of, IsEntry}
use Rattle.station_lines.specs.SetupReading.{entry_of, with_table_name, AreTablesOf, HasShortTable}
use Rattle.station_lines.proofs.ScriptLaws.PartLaws.{same_text}

-- ---- names are short

some_name : (word name : List ℕ) → Some word ≡ Some name → word ≡ name
some_name word name e = cc

by_tests : (word name : List ℕ) (short named : Bool) → nat_le (length word) MAX_NAME_BYTES ≡ short
    → cond short (cond named (Some (capitals word)) None) None ≡ Some name → length name ≤ MAX_NAME_BYTES
by_tests word name true true fits e =
    let long : length (capitals word) ≡ length word = length-map word to_ascii_uppercase in
    subst (λ (n : List ℕ). length n ≤ MAX_NAME_BYTES) (some_name (capitals word) name e) (grind (arith, nat_tests, fits, long))
by_tests word name true false fits e = absurd cc
by_tests word name false named fits e = absurd cc

name_fits : (word name : List ℕ) → short_name word ≡ Some name → length name ≤ MAX_NAME_BYTES
name_fits word name e = by_tests word name (nat_le (length word) MAX_NAME_BYTES) (is_name_word word) refl e

-- the table of an index that a line says is short
pub short_table : (line : List ℕ) (s : Said) → IsEntry line (entry_of s) → HasShortTable s
short_table line (said.Table name dbf dbt) h = tt
short_table line (said.Index table name ndx) h =
    let long : length (capitals table.now) ≡ length table.now = length-map table.now to_ascii_uppercase in
    let fits = name_fits h.3.0 (capitals table.now) h.3.3 in
    omega (arith, fits, long)
short_table line (said.Station script) h = tt

-- ---- the tables of one entry more

or_false : (x : Bool) → x ≡ (x || false)
or_false true = refl
or_false false = refl

or_true : (x : Bool) → true ≡ (x || true)
or_true true = refl
or_true false = refl

-- two texts are compared alike either way round
flips : (a b : List ℕ) (one other : Bool) → bytes_eq a b ≡ one → bytes_eq b a ≡ other → one ≡ other
flips a b true true e f = refl
flips a b true false e f = absurd (false≢true (sym f ∙ (bytes_eq-Decides b a).1 (sym ((bytes_eq-Decides a b).0 e))))
flips a b false true e f = absurd (false≢true (sym e ∙ (bytes_eq-Decides a b).1 (sym ((bytes_eq-Decides b a).0 f))))
flips a b false false e f = refl

-- where the last entry is this table or not, one of them is it or none of the others is
last_is : (entries : List SetupEntry) (entry : SetupEntry) (table : List ℕ) (known is : Bool) → list_any (is_table_of table) entries ≡ known
    → is_table_of table entry ≡ is → (known || is) ≡ list_any (is_table_of table) (entries ++ entry ∷ [])
last_is entries entry table known is e f =
    sym (list_any-append (is_table_of table) entries (entry ∷ [])
    ∙ (ap (λ (x : Bool). x || (is_table_of table entry || false)) e
    ∙ ap (λ (x : Bool). known || x) (sym (or_false (is_table_of table entry)) ∙ f)))

-- an entry that is no table's
no_table : (names : List (List ℕ)) (entries : List SetupEntry) (entry : SetupEntry) → ((table : List ℕ) → is_table_of table entry ≡ false)
    → AreTablesOf names entries → AreTablesOf names (entries ++ entry ∷ [])
no_table names entries entry none are table =
    or_false (includes_name names table) ∙ last_is entries entry table (includes_name names table) false (sym (are table)) (none table)

-- a table whose name is known
again : (names : List (List ℕ)) (entries : List SetupEntry) (name dbf : List ℕ) (dbt : Option (List ℕ)) (table : List ℕ) (same : Bool)
    → includes_name names name ≡ true → AreTablesOf names entries → bytes_eq name table ≡ same
    → includes_name names table ≡ list_any (is_table_of table) (entries ++ Table name dbf dbt ∷ [])
again names entries name dbf dbt table true known are e =
    let there : includes_name names table ≡ true = subst (λ (t : List ℕ). includes_name names t ≡ true) (same_text name table e) known in
    there ∙ (or_true (includes_name names table) ∙ last_is entries (Table name dbf dbt) table (includes_name names table) true (sym (are table)) e)
again names entries name dbf dbt table false known are e =
    or_false (includes_name names table) ∙ last_is entries (Table name dbf dbt) table (includes_name names table) false (sym (are table)) e

-- a table whose name is new
new : (names : List (List ℕ)) (entries : List SetupEntry) (name dbf : List ℕ) (dbt : Option (List ℕ)) (table : List ℕ)
    → AreTablesOf names entries → includes_name (names ++ name ∷ []) table ≡ list_any (is_table_of table) (entries ++ Table name dbf dbt ∷ [])
new names entries name dbf dbt table are =
    list_any-append (bytes_eq table) names (name ∷ [])
    ∙ (ap (λ (x : Bool). includes_name names table || x) (sym (or_false (bytes_eq table name)) ∙ flips table name (bytes_eq table name) (bytes_eq name table) refl refl)
    ∙ last_is entries (Table name dbf dbt) table (includes_name names table) (bytes_eq name table) (sym (are table)) refl)

by_name : (names : List (List ℕ)) (entries : List SetupEntry) (name dbf : List ℕ) (dbt : Option (List ℕ)) (known : Bool) → includes_name names name ≡ known
    → AreTablesOf names entries → AreTablesOf (cond known names (names ++ name ∷ [])) (entries ++ Table name dbf dbt ∷ [])
by_name names entries name dbf dbt true e are table = again names entries name dbf dbt table (bytes_eq name table) e are refl
by_name names entries name dbf dbt false e are table = new names entries name dbf dbt table are

with_one : (names : List (List ℕ)) (entries : List SetupEntry) (entry : SetupEntry) → AreTablesOf names entries
    → AreTablesOf (with_table_name names entry) (entries ++ entry ∷ [])
with_one names entries (Table name dbf dbt) are = by_name names entries name dbf dbt (includes_name names name) refl are
with_one names entries (Index table name ndx) are = no_table names entries (Index table name ndx) (λ t. refl) are
with_one names entries (Station script) are = no_table names entries (Station script) (λ t. refl) are

-- one entry more, and its table's name
pub one_more : (names more : List (List ℕ)) (entries after : List SetupEntry) (entry : SetupEntry) → AreTablesOf names entries
    → more ≡ with_table_name names entry → after ≡ entries ++ entry ∷ [] → AreTablesOf more after
one_more names more entries after entry are named added table =
    ap (λ (ns : List (List ℕ)). includes_name ns table) named ∙ (with_one names entries entry are table ∙ ap (λ (es : List SetupEntry). list_any (is_table_of table) es) (sym added))
