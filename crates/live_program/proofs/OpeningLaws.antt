-- The entries of tables and indexes stand in the order of the setup: each index after its table.
use Rattle.std.proofs.Common.{◌≡◌, ◌∙◌, ℕ, zero, suc, Bool, true, false, List, [], ◌∷◌, ◌++◌, length, take, Option, Some, Ok, arith, refl, sym, ap, subst, inl, inr}
use Rattle.std.specs.Prelude.{◌⊎◌, ◌||◌, slice_get}
use Rattle.std.specs.List.{list_any}
use Rattle.std.proofs.lemmas.List.{append-nil}
use Rattle.std.proofs.lemmas.List.Folds.{list_any-append}
use Rattle.station_lines.specs.declared.setup.entry.SetupEntry.{SetupEntry}
use Rattle.station_lines.specs.declared.setup.entry.SetupEntry.TheVariants.{Table, Index, Station}
use Rattle.station_lines.specs.Setup.{is_table_of, may_follow, IndexesFollowTables}
use Rattle.catalogue_core.specs.Opening.{Opening}
use Rattle.catalogue_core.specs.Replay.{Opened}
use Rattle.folders.specs.declared.named.NamedFile.{NamedFile}
use Rattle.office_run.specs.Loading.{LoadAll, Read, nothing, IsFaultIn}
use Rattle.office_run.specs.WholeRun.{IsReadFault, IsSaid}
use Rattle.office_run.specs.FileSums.{paths_in}
use Rattle.setup_files.specs.Noted.{AreNoted}
use Rattle.journal_file.specs.declared.sum.FileSum.{FileSum}
use Rattle.journal_file.specs.WholeText.{sum_of_file}
use Rattle.office_run.specs.declared.fault.ServeFault.{ServeFault}
use Rattle.office_run.specs.declared.fault.ServeFault.TheVariants as serve
use Rattle.live_program.specs.Openings.{before_tables, seats_in, tables_in, with_table, AreFilesRead, AreTablesOpened, AreTablesUnopened, IsSeatFault}

-- an element of a list that is one longer is an earlier one or the last, and these stand before it
abbrev EarlierOrLast : {A : Type 0} → List A → A → A → ℕ → Type 0
EarlierOrLast xs y z i = ((slice_get xs i ≡ Some z) × (take i (xs ++ y ∷ []) ≡ take i xs)) ⊎ ((y ≡ z) × (take i (xs ++ y ∷ []) ≡ xs))

one_more : {A : Type 0} (x : A) (xs : List A) (y z : A) (i : ℕ) → EarlierOrLast xs y z i → EarlierOrLast (x ∷ xs) y z (suc i)
one_more x xs y z i (inl h) = inl (h.0, ap (λ zs. x ∷ zs) h.1)
one_more x xs y z i (inr h) = inr (h.0, ap (λ zs. x ∷ zs) h.1)

earlier_or_last : {A : Type 0} (xs : List A) (y z : A) (i : ℕ) → slice_get (xs ++ y ∷ []) i ≡ Some z → EarlierOrLast xs y z i
earlier_or_last [] y z zero e = let same : y ≡ z = cc in inr (same, refl)
earlier_or_last [] y z (suc i) e = absurd cc
earlier_or_last (x ∷ xs) y z zero e = inl (e, refl)
earlier_or_last (x ∷ xs) y z (suc i) e = one_more x xs y z i (earlier_or_last xs y z i e)

by_either : (before : List SetupEntry) (entry : SetupEntry) → IndexesFollowTables before → may_follow before entry ≡ true → (i : ℕ) (table name ndx : List ℕ)
    → EarlierOrLast before entry (Index table name ndx) i → list_any (is_table_of table) (take i (before ++ entry ∷ [])) ≡ true
by_either before entry ordered can i table name ndx (inl h) =
    subst (λ (es : List SetupEntry). list_any (is_table_of table) es ≡ true) (sym h.1) (ordered i table name ndx h.0)
by_either before entry ordered can i table name ndx (inr h) =
    subst (λ (es : List SetupEntry). list_any (is_table_of table) es ≡ true) (sym h.1) (subst (λ (e : SetupEntry). may_follow before e ≡ true) h.0 can)

one_entry_more : (before : List SetupEntry) (entry : SetupEntry) → IndexesFollowTables before → may_follow before entry ≡ true → IndexesFollowTables (before ++ entry ∷ [])
one_entry_more before entry ordered can i table name ndx at = by_either before entry ordered can i table name ndx (earlier_or_last before entry (Index table name ndx) i at)

-- ---- the entries of tables and indexes

first_and_last : (first last : SetupEntry) (kept : List SetupEntry) → before_tables first (with_table kept last) ≡ with_table (before_tables first kept) last
first_and_last (Station script) last kept = refl
first_and_last (Table name dbf dbt) (Station script) kept = refl
first_and_last (Table name dbf dbt) (Table name2 dbf2 dbt2) kept = refl
first_and_last (Table name dbf dbt) (Index table name2 ndx) kept = refl
first_and_last (Index table name ndx) (Station script) kept = refl
first_and_last (Index table name ndx) (Table name2 dbf dbt) kept = refl
first_and_last (Index table name ndx) (Index table2 name2 ndx2) kept = refl

tables_one : (entry : SetupEntry) → tables_in (entry ∷ []) ≡ with_table [] entry
tables_one (Station script) = refl
tables_one (Table name dbf dbt) = refl
tables_one (Index table name ndx) = refl

tables_more : (before : List SetupEntry) (entry : SetupEntry) → tables_in (before ++ entry ∷ []) ≡ with_table (tables_in before) entry
tables_more [] entry = tables_one entry
tables_more (first ∷ before) entry = ap (before_tables first) (tables_more before entry) ∙ first_and_last first entry (tables_in before)

-- Some of the entries were looked at, and of these the tables and indexes were kept.
pub record AreSorted (entries kept left : List SetupEntry) : Type 0 where
  pub before : List SetupEntry
  pub order : entries ≡ before ++ left
  pub kept_is : kept ≡ tables_in before
  pub among : (table : List ℕ) → list_any (is_table_of table) before ≡ true → list_any (is_table_of table) kept ≡ true
  pub ordered : IndexesFollowTables kept

pub none_sorted : (entries : List SetupEntry) → AreSorted entries [] entries
none_sorted entries = record { before = []; order = refl; kept_is = refl; among = λ table is. is; ordered = λ i table name ndx at. absurd cc }

-- the entry after those before it
here : (before : List SetupEntry) (entry : SetupEntry) (left : List SetupEntry) → slice_get (before ++ entry ∷ left) (length before) ≡ Some entry
here [] entry left = refl
here (e ∷ before) entry left = here before entry left

front : (before left : List SetupEntry) → take (length before) (before ++ left) ≡ before
front [] left = refl
front (e ∷ before) left = ap (λ (es : List SetupEntry). e ∷ es) (front before left)

after : (before : List SetupEntry) (entry : SetupEntry) (left : List SetupEntry) → before ++ entry ∷ left ≡ (before ++ entry ∷ []) ++ left
after [] entry left = refl
after (e ∷ before) entry left = ap (λ (es : List SetupEntry). e ∷ es) (after before entry left)

or_true : (b : Bool) → (b || true) ≡ true
or_true true = refl
or_true false = refl

or_either : (a b c : Bool) → (a ≡ true → c ≡ true) → (a || b) ≡ true → (c || b) ≡ true
or_either true b c more is = ap (λ (d : Bool). d || b) (more refl)
or_either false b c more is = ap (λ (d : Bool). c || d) is ∙ or_true c

-- what is one of the first list is one of the other, and so with one more at the end of both
both_any : (p : SetupEntry → Bool) (xs ys : List SetupEntry) (y : SetupEntry) → (list_any p xs ≡ true → list_any p ys ≡ true) → list_any p (xs ++ y ∷ []) ≡ true → list_any p (ys ++ y ∷ []) ≡ true
both_any p xs ys y among is =
    list_any-append p ys (y ∷ []) ∙ or_either (list_any p xs) (list_any p (y ∷ [])) (list_any p ys) among (sym (list_any-append p xs (y ∷ [])) ∙ is)

or_neither : (a b : Bool) → b ≡ false → (a || b) ≡ true → a ≡ true
or_neither true b none is = refl
or_neither false b none is = sym none ∙ is

any_before : (p : SetupEntry → Bool) (xs : List SetupEntry) (y : SetupEntry) → list_any p (y ∷ []) ≡ false → list_any p (xs ++ y ∷ []) ≡ true → list_any p xs ≡ true
any_before p xs y none is = or_neither (list_any p xs) (list_any p (y ∷ [])) none (sym (list_any-append p xs (y ∷ [])) ∙ is)

-- an index of the setup may follow what was kept
can_follow : (entries kept left : List SetupEntry) (entry : SetupEntry) → IndexesFollowTables entries → AreSorted entries kept (entry ∷ left) → may_follow kept entry ≡ true
can_follow entries kept left (Index table name ndx) ordered so_far =
    let at : slice_get entries (length so_far.before) ≡ Some (Index table name ndx) =
    ap (λ (es : List SetupEntry). slice_get es (length so_far.before)) so_far.order ∙ here so_far.before (Index table name ndx) left in
    let taken : take (length so_far.before) entries ≡ so_far.before =
    ap (take (length so_far.before)) so_far.order ∙ front so_far.before (Index table name ndx ∷ left) in
    so_far.among table (ap (list_any (is_table_of table)) (sym taken) ∙ ordered (length so_far.before) table name ndx at)
can_follow entries kept left (Table name dbf dbt) ordered so_far = refl
can_follow entries kept left (Station script) ordered so_far = refl

-- a station's entry is none of a table
passed_sorted : (entries kept left : List SetupEntry) (script : List ℕ) → AreSorted entries kept (Station script ∷ left) → AreSorted entries kept left
passed_sorted entries kept left script so_far = record {
  before = so_far.before ++ Station script ∷ [];
  order = so_far.order ∙ after so_far.before (Station script) left;
  kept_is = so_far.kept_is ∙ sym (tables_more so_far.before (Station script));
  among = λ table is. so_far.among table (any_before (is_table_of table) so_far.before (Station script) refl is);
  ordered = so_far.ordered;
}

-- one more entry of a table or an index
kept_sorted : (entries kept left : List SetupEntry) (entry : SetupEntry) → ((tables : List SetupEntry) → with_table tables entry ≡ tables ++ entry ∷ []) → IndexesFollowTables entries → AreSorted entries kept (entry ∷ left)
    → AreSorted entries (kept ++ entry ∷ []) left
kept_sorted entries kept left entry is ordered so_far = record {
  before = so_far.before ++ entry ∷ [];
  order = so_far.order ∙ after so_far.before entry left;
  kept_is = ap (λ (es : List SetupEntry). es ++ entry ∷ []) so_far.kept_is ∙ sym (tables_more so_far.before entry ∙ is (tables_in so_far.before));
  among = λ table. both_any (is_table_of table) so_far.before kept entry (so_far.among table);
  ordered = one_entry_more kept entry so_far.ordered (can_follow entries kept left entry ordered so_far);
}

-- one more entry
pub sorted_more : (entries kept left : List SetupEntry) (entry : SetupEntry) → IndexesFollowTables entries → AreSorted entries kept (entry ∷ left) → AreSorted entries (with_table kept entry) left
sorted_more entries kept left (Station script) ordered so_far = passed_sorted entries kept left script so_far
sorted_more entries kept left (Table name dbf dbt) ordered so_far = kept_sorted entries kept left (Table name dbf dbt) (λ tables. refl) ordered so_far
sorted_more entries kept left (Index table name ndx) ordered so_far = kept_sorted entries kept left (Index table name ndx) (λ tables. refl) ordered so_far

none_of : (es : List SetupEntry) → length es ≡ 0 → es ≡ []
none_of [] none = refl
none_of (e ∷ es) none = absurd (omega (arith, none))

-- all entries were looked at
pub all_sorted : (entries kept left : List SetupEntry) → length left ≡ 0 → AreSorted entries kept left → kept ≡ tables_in entries
all_sorted entries kept left none so_far =
    so_far.kept_is ∙ ap tables_in (sym (so_far.order ∙ (ap (λ (es : List SetupEntry). so_far.before ++ es) (none_of left none) ∙ append-nil so_far.before)))

-- the tables that were opened are those of the setup
pub tables_opened : (files : Option (List NamedFile)) (setup : List ℕ) (reindex : Bool) (entries counted tables : List SetupEntry) (read : Read) (stations : ℕ) (opened : Opened) → IsSaid files setup (Ok entries) → counted ≡ entries
    → stations ≡ seats_in counted → tables ≡ tables_in entries → LoadAll files tables nothing read → Opening reindex stations read.tables (Ok opened.tables) → opened.stations ≡ stations → AreTablesOpened files setup reindex opened
tables_opened files setup reindex entries counted tables read stations opened said all seats taken loaded opening count =
    let seated : stations ≡ seats_in entries = seats ∙ ap seats_in all in
    record {
      entries = entries;
      said = said;
      read = read;
      loaded = subst (λ (es : List SetupEntry). LoadAll files es nothing read) taken loaded;
      opening = subst (λ (n : ℕ). Opening reindex n read.tables (Ok opened.tables)) seated opening;
      stations = count ∙ seated;
    }

-- ---- what was read

-- where sums are wanted there are some
noted_some : (files : Option (List NamedFile)) (paths : List (List ℕ)) (sums : List FileSum) (new : Option (List FileSum)) → AreNoted files paths (Some sums) new → (all : List FileSum) × (new ≡ Some all)
noted_some files [] sums new noted = (sums, noted)
noted_some files (path ∷ paths) sums new noted = noted_some files paths (sums ++ sum_of_file path noted.0 ∷ []) new noted.2

-- the setup, and then what its tables name
pub all_noted : (files : Option (List NamedFile)) (setup : List ℕ) (entries tables : List SetupEntry) (mid new : Option (List FileSum)) (read : List FileSum) → IsSaid files setup (Ok entries) → tables ≡ tables_in entries
    → AreNoted files (setup ∷ []) (Some []) mid → AreNoted files (paths_in tables) mid new → ((sums : List FileSum) → new ≡ Some sums → read ≡ sums) → AreFilesRead files setup read
all_noted files setup entries tables mid new read said taken first rest is =
    let both : AreNoted files (setup ∷ paths_in tables) (Some []) new = (first.0, first.1, subst (λ (o : Option (List FileSum)). AreNoted files (paths_in tables) o new) first.2 rest) in
    let some = noted_some files (setup ∷ paths_in tables) [] new both in
    let now : new ≡ Some read = some.1 ∙ ap (λ (l : List FileSum). Some l) (sym (is some.0 some.1)) in
    record {
      entries = entries;
      said = said;
      noted = subst (λ (es : List SetupEntry). AreNoted files (setup ∷ paths_in es) (Some []) (Some read)) taken
          (subst (λ (o : Option (List FileSum)). AreNoted files (setup ∷ paths_in tables) (Some []) o) now both);
    }

-- ---- why they are not opened

pub unread_tables : (files : Option (List NamedFile)) (setup : List ℕ) (reindex : Bool) (fault : ServeFault) → IsReadFault files setup fault → AreTablesUnopened files setup reindex fault
unread_tables files setup reindex serve.NoMemory h = tt
unread_tables files setup reindex (serve.Setup number) h = h
unread_tables files setup reindex (serve.File path why) h = inl h
unread_tables files setup reindex (serve.Refused why) h = absurd h
unread_tables files setup reindex (serve.Run why) h = absurd h
unread_tables files setup reindex (serve.Close why) h = absurd h

pub unloaded_tables : (files : Option (List NamedFile)) (setup : List ℕ) (reindex : Bool) (entries tables : List SetupEntry) (fault : ServeFault) → IsSaid files setup (Ok entries) → tables ≡ tables_in entries → IsFaultIn files tables fault
    → AreTablesUnopened files setup reindex fault
unloaded_tables files setup reindex entries tables serve.NoMemory said taken h = tt
unloaded_tables files setup reindex entries tables (serve.Setup number) said taken h = absurd h.is_fault
unloaded_tables files setup reindex entries tables (serve.File path why) said taken h = inr (entries, said, subst (λ (es : List SetupEntry). IsFaultIn files es (serve.File path why)) taken h)
unloaded_tables files setup reindex entries tables (serve.Refused why) said taken h = absurd h.is_fault
unloaded_tables files setup reindex entries tables (serve.Run why) said taken h = absurd h.is_fault
unloaded_tables files setup reindex entries tables (serve.Close why) said taken h = absurd h.is_fault

pub refused_tables : (files : Option (List NamedFile)) (setup : List ℕ) (reindex : Bool) (entries counted tables : List SetupEntry) (read : Read) (seats : ℕ) (fault : ServeFault) → IsSaid files setup (Ok entries) → counted ≡ entries → seats ≡ seats_in counted
    → tables ≡ tables_in entries → LoadAll files tables nothing read → IsSeatFault reindex seats read.tables fault → AreTablesUnopened files setup reindex fault
refused_tables files setup reindex entries counted tables read seats serve.NoMemory said all count taken loaded h = tt
refused_tables files setup reindex entries counted tables read seats (serve.Setup number) said all count taken loaded h = absurd h
refused_tables files setup reindex entries counted tables read seats (serve.File path why) said all count taken loaded h = absurd h
refused_tables files setup reindex entries counted tables read seats (serve.Refused why) said all count taken loaded h = (
  entries,
  said,
  read,
  subst (λ (es : List SetupEntry). LoadAll files es nothing read) taken loaded,
  subst (λ (n : ℕ). IsSeatFault reindex n read.tables (serve.Refused why)) (count ∙ ap seats_in all) h,
)
refused_tables files setup reindex entries counted tables read seats (serve.Run why) said all count taken loaded h = absurd h
refused_tables files setup reindex entries counted tables read seats (serve.Close why) said all count taken loaded h = absurd h
