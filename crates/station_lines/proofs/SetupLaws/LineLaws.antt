-- What a line of a setup says, by its words.
use Rattle.std.proofs.Common.{◌≡◌, ℕ, List, [], ◌∷◌, Bool, true, false, cond, Option, Some, None, refl, ap, ◌∙◌, sym, subst}
use Rattle.std.specs.Prelude.{◌⊎◌, is_some, nat_le, length, bytes_eq, codes}
use mathlib.Core.Logic.{inl, inr}
use Rattle.std.specs.List.{list_all}
use Rattle.std.specs.Char.{is_ascii}
use Rattle.std.proofs.lemmas.Bool.{false≢true}
use Rattle.station_lines.specs.declared.setup.entry.SetupEntry.{SetupEntry}
use Rattle.station_lines.specs.declared.setup.entry.SetupEntry.TheVariants.{Table, Index, Station}
use Rattle.station_lines.specs.declared.setup.said.TheConstants.{MAX_NAME_BYTES}
use Rattle.station_lines.specs.Script.Parts.{capitals, is_name_word}
use Rattle.station_lines.specs.Setup.{AreWords, skips, short_name, SaysEntry, IsSkipped, IsEntry, IsBadAfter, may_follow}
use Rattle.station_lines.specs.SetupReading.{only_word, table_entry, index_entry, table_in, index_in, station_entry, entry_in}
use Rattle.station_lines.proofs.ScriptLaws.PartLaws.{same_text}
use Rattle.station_lines.proofs.SetupLaws.WordCutting.{one_words, some_words}

-- what is said by words is read from them
pub says_read : (words : List (List ℕ)) (entry : SetupEntry) → SaysEntry words entry → entry_in words ≡ Some entry
says_read words (Table name dbf None) h = rw (h.1, h.2) refl
says_read words (Table name dbf (Some dbt)) h = rw (h.1, h.2) refl
says_read words (Index table name ndx) h = rw (h.2, h.3, h.4) refl
says_read words (Station script) h = rw h refl

some_one : {X : Type 0} (a b : X) → Some a ≡ Some b → a ≡ b
some_one a b e = cc

none_some : {X : Type 0} (a : X) → None ≡ Some a → ⊥
none_some a e = absurd cc

table_says : (key word dbf : List ℕ) → key ≡ codes "TABLE" → (o : Option (List ℕ)) → short_name word ≡ o → (entry : SetupEntry)
    → table_entry o dbf None ≡ Some entry → SaysEntry (key ∷ word ∷ dbf ∷ []) entry
table_says key word dbf is (Some name) named entry e =
    subst (λ (x : SetupEntry). SaysEntry (key ∷ word ∷ dbf ∷ []) x) (some_one (Table name dbf None) entry e)
    (word, ap (λ (k : List ℕ). k ∷ word ∷ dbf ∷ []) is, named)
table_says key word dbf is None named entry e = absurd (none_some entry e)

memo_table_says : (key word dbf dbt : List ℕ) → key ≡ codes "TABLE" → (o : Option (List ℕ)) → short_name word ≡ o → (entry : SetupEntry)
    → table_entry o dbf (Some dbt) ≡ Some entry → SaysEntry (key ∷ word ∷ dbf ∷ dbt ∷ []) entry
memo_table_says key word dbf dbt is (Some name) named entry e =
    subst (λ (x : SetupEntry). SaysEntry (key ∷ word ∷ dbf ∷ dbt ∷ []) x) (some_one (Table name dbf (Some dbt)) entry e)
    (word, ap (λ (k : List ℕ). k ∷ word ∷ dbf ∷ dbt ∷ []) is, named)
memo_table_says key word dbf dbt is None named entry e = absurd (none_some entry e)

index_says : (key first second ndx : List ℕ) → key ≡ codes "INDEX" → (o p : Option (List ℕ)) → short_name first ≡ o → short_name second ≡ p
    → (entry : SetupEntry) → index_entry o p ndx ≡ Some entry → SaysEntry (key ∷ first ∷ second ∷ ndx ∷ []) entry
index_says key first second ndx is (Some table) (Some name) one two entry e =
    subst (λ (x : SetupEntry). SaysEntry (key ∷ first ∷ second ∷ ndx ∷ []) x) (some_one (Index table name ndx) entry e)
    (first, second, ap (λ (k : List ℕ). k ∷ first ∷ second ∷ ndx ∷ []) is, one, two)
index_says key first second ndx is (Some table) None one two entry e = absurd (none_some entry e)
index_says key first second ndx is None p one two entry e = absurd (none_some entry e)

says_table : (key : List ℕ) (words : List (List ℕ)) → key ≡ codes "TABLE" → (entry : SetupEntry) → table_in words ≡ Some entry → SaysEntry (key ∷ words) entry
says_table key [] is entry e = absurd (none_some entry e)
says_table key (a ∷ []) is entry e = absurd (none_some entry e)
says_table key (a ∷ b ∷ []) is entry e = table_says key a b is (short_name a) refl entry e
says_table key (a ∷ b ∷ c ∷ []) is entry e = memo_table_says key a b c is (short_name a) refl entry e
says_table key (a ∷ b ∷ c ∷ d ∷ words) is entry e = absurd (none_some entry e)

says_index : (key : List ℕ) (words : List (List ℕ)) → key ≡ codes "INDEX" → (entry : SetupEntry) → index_in words ≡ Some entry → SaysEntry (key ∷ words) entry
says_index key [] is entry e = absurd (none_some entry e)
says_index key (a ∷ []) is entry e = absurd (none_some entry e)
says_index key (a ∷ b ∷ []) is entry e = absurd (none_some entry e)
says_index key (a ∷ b ∷ c ∷ []) is entry e = index_says key a b c is (short_name a) (short_name b) refl refl entry e
says_index key (a ∷ b ∷ c ∷ d ∷ words) is entry e = absurd (none_some entry e)

says_station : (key : List ℕ) (words : List (List ℕ)) → key ≡ codes "STATION" → (entry : SetupEntry) → station_entry words ≡ Some entry → SaysEntry (key ∷ words) entry
says_station key [] is entry e = absurd (none_some entry e)
says_station key (script ∷ []) is entry e =
    subst (λ (x : SetupEntry). SaysEntry (key ∷ script ∷ []) x) (some_one (Station script) entry e) (ap (λ (k : List ℕ). k ∷ script ∷ []) is)
says_station key (a ∷ b ∷ words) is entry e = absurd (none_some entry e)

by_key : (key : List ℕ) (words : List (List ℕ)) (t : Bool) → bytes_eq key (codes "TABLE") ≡ t → (i : Bool) → bytes_eq key (codes "INDEX") ≡ i
    → (s : Bool) → bytes_eq key (codes "STATION") ≡ s → (entry : SetupEntry)
    → cond t (table_in words) (cond i (index_in words) (cond s (station_entry words) None)) ≡ Some entry → SaysEntry (key ∷ words) entry
by_key key words true table i index s station entry e = says_table key words (same_text key (codes "TABLE") table) entry e
by_key key words false table true index s station entry e = says_index key words (same_text key (codes "INDEX") index) entry e
by_key key words false table false index true station entry e = says_station key words (same_text key (codes "STATION") station) entry e
by_key key words false table false index false station entry e = absurd (none_some entry e)

-- what is read from words is said by them
pub read_says : (words : List (List ℕ)) (entry : SetupEntry) → entry_in words ≡ Some entry → SaysEntry words entry
read_says [] entry e = absurd (none_some entry e)
read_says (key ∷ words) entry e =
    by_key key words (bytes_eq key (codes "TABLE")) refl (bytes_eq key (codes "INDEX")) refl (bytes_eq key (codes "STATION")) refl entry e

-- words that say something are not skipped
said_not_skipped : (words : List (List ℕ)) (entry : SetupEntry) → SaysEntry words entry → skips words ≡ false
said_not_skipped words (Table name dbf None) h = rw h.1 refl
said_not_skipped words (Table name dbf (Some dbt)) h = rw h.1 refl
said_not_skipped words (Index table name ndx) h = rw h.2 refl
said_not_skipped words (Station script) h = rw h refl

true_or_false : (b : Bool) → b ≡ true → b ≡ false → ⊥
true_or_false b e f = false≢true (sym f ∙ e)

-- a line that says something is not skipped
pub entry_not_skipped : (line : List ℕ) (entry : SetupEntry) → IsSkipped line → IsEntry line entry → ⊥
entry_not_skipped line entry s e =
    let same : s.0 ≡ e.0 = one_words s.0 e.0 line s.1 e.1 in
    true_or_false (skips e.0) (subst (λ (ws : List (List ℕ)). skips ws ≡ true) same s.2) (said_not_skipped e.0 entry e.3)

-- a line says one thing
pub one_entry : (line : List ℕ) (a b : SetupEntry) → IsEntry line a → IsEntry line b → a ≡ b
one_entry line a b x y =
    let same : x.0 ≡ y.0 = one_words x.0 y.0 line x.1 y.1 in
    some_one a b (sym (says_read x.0 a x.3) ∙ (ap (λ (ws : List (List ℕ)). entry_in ws) same ∙ says_read y.0 b y.3))

-- a line says nothing where its words are skipped
pub is_skipped : (line : List ℕ) → ((words : List (List ℕ)) → AreWords words line → true ≡ skips words) → IsSkipped line
is_skipped line reads = let words = some_words line in (words.0, words.1, sym (reads words.0 words.1))

-- a line without bytes over 127 says what its words say
pub says_that : (line : List ℕ) (entry : SetupEntry) → list_all is_ascii line ≡ true
    → ((words : List (List ℕ)) → AreWords words line → Some entry ≡ entry_in words) → IsEntry line entry
says_that line entry plain reads = let words = some_words line in (words.0, words.1, plain, read_says words.0 entry (sym (reads words.0 words.1)))

-- and nothing where they say nothing
pub says_none : (line : List ℕ) → ((words : List (List ℕ)) → AreWords words line → None ≡ entry_in words) → (entry : SetupEntry) → IsEntry line entry → ⊥
says_none line reads entry h = none_some entry (reads h.0 h.1 ∙ says_read h.0 entry h.3)

-- a line is no line of a setup
abbrev pub IsBad : List ℕ → Type 0
IsBad line = (IsSkipped line → ⊥) × ((entry : SetupEntry) → IsEntry line entry → ⊥)

-- a line that is none of a setup may stand nowhere
pub bad_after : (before : List SetupEntry) (line : List ℕ) → IsBad line → IsBadAfter before line
bad_after before line bad = (bad.0, λ entry h can. bad.1 entry h)

-- nor may a line whose entry may not stand there
pub unplaced : (before : List SetupEntry) (line : List ℕ) (entry : SetupEntry) → IsEntry line entry → may_follow before entry ≡ false → IsBadAfter before line
unplaced before line entry h barred = (
  λ s. entry_not_skipped line entry s h,
  λ other k can. true_or_false (may_follow before other) can (subst (λ (x : SetupEntry). may_follow before x ≡ false) (one_entry line entry other h k) barred),
)

by_entry : (line : List ℕ) (words : List (List ℕ)) → AreWords words line → (IsSkipped line → ⊥) → (p : Bool) → list_all is_ascii line ≡ p
    → (o : Option SetupEntry) → entry_in words ≡ o → ((entry : SetupEntry) × IsEntry line entry) ⊎ IsBad line
by_entry line words are some false plain o read = inr (some, λ entry e. true_or_false (list_all is_ascii line) e.2 plain)
by_entry line words are some true plain None read =
    inr (some, says_none line (λ other h. sym read ∙ ap (λ (ws : List (List ℕ)). entry_in ws) (one_words words other line are h)))
by_entry line words are some true plain (Some entry) read = inl (entry, (words, are, plain, read_says words entry read))

by_words : (line : List ℕ) (words : List (List ℕ)) → AreWords words line → (s : Bool) → skips words ≡ s
    → IsSkipped line ⊎ (((entry : SetupEntry) × IsEntry line entry) ⊎ IsBad line)
by_words line words are true is = inl (words, are, is)
by_words line words are false is =
    inr (by_entry line words are
    (λ s. true_or_false (skips words) (subst (λ (ws : List (List ℕ)). skips ws ≡ true) (one_words s.0 words line s.1 are) s.2) is)
    (list_all is_ascii line) refl (entry_in words) refl)

-- each line says nothing, or says something, or is bad
pub some_meaning : (line : List ℕ) → IsSkipped line ⊎ (((entry : SetupEntry) × IsEntry line entry) ⊎ IsBad line)
some_meaning line = let words = some_words line in by_words line words.0 words.1 (skips words.0) refl

-- ---- what is read from the words after the first

only_is : (words : List (List ℕ)) (word : List ℕ) → Some word ≡ only_word words → words ≡ word ∷ []
only_is [] word e = absurd (none_some word (sym e))
only_is (a ∷ []) word e = ap (λ (w : List ℕ). w ∷ []) (some_one a word (sym e))
only_is (a ∷ b ∷ words) word e = absurd (none_some word (sym e))

named_by : (word : List ℕ) (p q : Bool) → is_some (cond p (cond q (Some (capitals word)) None) None) ≡ true
    → cond p (cond q (Some (capitals word)) None) None ≡ Some (capitals word)
named_by word true true h = refl
named_by word true false h = absurd (false≢true h)
named_by word false q h = absurd (false≢true h)

-- a name is folded to capitals
named_in_capitals : (word : List ℕ) → is_some (short_name word) ≡ true → short_name word ≡ Some (capitals word)
named_in_capitals word h = named_by word (nat_le (length word) MAX_NAME_BYTES) (is_name_word word) h

pub memo_table_read : (all after last : List (List ℕ)) (name dbf dbt : List ℕ) → is_some (short_name name) ≡ true
    → all ≡ name ∷ after → after ≡ dbf ∷ last → Some dbt ≡ only_word last → Some (Table (capitals name) dbf (Some dbt)) ≡ table_in all
memo_table_read all after last name dbf dbt named one two three =
    rw (one, two, only_is last dbt three, named_in_capitals name named) refl

pub index_read : (all after last : List (List ℕ)) (table name ndx : List ℕ) → is_some (short_name table) ≡ true → is_some (short_name name) ≡ true
    → all ≡ table ∷ after → after ≡ name ∷ last → Some ndx ≡ only_word last → Some (Index (capitals table) (capitals name) ndx) ≡ index_in all
index_read all after last table name ndx first second one two three =
    rw (one, two, only_is last ndx three, named_in_capitals table first, named_in_capitals name second) refl

unnamed : (p q : Option (List ℕ)) (ndx : List ℕ) → (is_some p ≡ false) ⊎ (is_some q ≡ false) → None ≡ index_entry p q ndx
unnamed None q ndx h = refl
unnamed (Some table) None ndx h = refl
unnamed (Some table) (Some name) ndx (inl e) = absurd (false≢true (sym e))
unnamed (Some table) (Some name) ndx (inr e) = absurd (false≢true (sym e))

pub unnamed_index : (all after last : List (List ℕ)) (table name ndx : List ℕ) → (is_some (short_name table) ≡ false) ⊎ (is_some (short_name name) ≡ false)
    → all ≡ table ∷ after → after ≡ name ∷ last → Some ndx ≡ only_word last → None ≡ index_in all
unnamed_index all after last table name ndx none one two three =
    rw (one, two, only_is last ndx three) (unnamed (short_name table) (short_name name) ndx none)
