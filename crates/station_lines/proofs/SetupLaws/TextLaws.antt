-- What a text says as a setup: its lines one after another, and that it says one thing.
use Rattle.std.proofs.Common.{◌≡◌, ℕ, List, [], ◌∷◌, ◌++◌, Bool, true, false, ◌+◌, length, take, zero, suc, Some, Result, Ok, Err, refl, ap, ◌∙◌, sym, subst, arith, append_assoc}
use Rattle.std.specs.Prelude.{◌⊎◌, slice_get}
use Rattle.std.specs.List.{list_any}
use mathlib.Core.Logic.{inl, inr}
use Rattle.std.proofs.lemmas.List.{append-nil, length-append}
use Rattle.station_lines.specs.declared.setup.entry.SetupEntry.{SetupEntry}
use Rattle.station_lines.specs.declared.setup.entry.SetupEntry.TheVariants.{Index}
use Rattle.station_lines.specs.Script.Lines.{AreLines}
use Rattle.station_lines.specs.Setup.{IsSkipped, IsEntry, may_follow, Adds, IsBadAfter, IsNext, HasNextEntry, AddAll, IsSetup, is_table_of, IndexesFollowTables}
use Rattle.station_lines.proofs.ScriptLaws.CuttingLaws.{line_before, some_lines, one_cutting}
use Rattle.station_lines.proofs.SetupLaws.LineLaws.{entry_not_skipped, one_entry, IsBad, bad_after, unplaced, some_meaning}

-- ---- what has been read

-- the lines before a place of a text, and what they said
pub record IsReadTo (text : List ℕ) (number : ℕ) (entries : List SetupEntry) (rest : List ℕ) : Type 0 where
  pub lines : List (List ℕ)
  pub counted : number ≡ length lines
  pub said : AddAll [] lines entries
  pub cut : (others : List (List ℕ)) → AreLines others rest → AreLines (lines ++ others) text

pub none_read : (text : List ℕ) → IsReadTo text 0 [] text
none_read text = record { lines = []; counted = refl; said = refl; cut = λ others are. are }

add_last : (before : List SetupEntry) (lines : List (List ℕ)) (line : List ℕ) (middle after : List SetupEntry)
    → AddAll before lines middle → Adds middle line after → AddAll before (lines ++ line ∷ []) after
add_last before [] line middle after h k = (after, subst (λ (x : List SetupEntry). Adds x line after) h k, refl)
add_last before (l ∷ lines) line middle after h k = (h.0, h.1, add_last h.0 lines line middle after h.2 k)

-- one line more
pub read_more : (text : List ℕ) (number : ℕ) (entries : List SetupEntry) (rest : List ℕ) (line behind : List ℕ) (after : List SetupEntry)
    → IsReadTo text number entries rest → ((others : List (List ℕ)) → AreLines others behind → AreLines (line ∷ others) rest)
    → Adds entries line after → IsReadTo text (number + 1) after behind
read_more text number entries rest line behind after r next adds =
    let long = length-append r.lines (line ∷ []) in
    let counted = r.counted in
    record {
      lines = r.lines ++ line ∷ [];
      counted = omega (arith, long, counted);
      said = add_last [] r.lines line entries after r.said adds;
      cut = λ others are. subst (λ (ls : List (List ℕ)). AreLines ls text) (sym (append_assoc r.lines (line ∷ []) others)) (r.cut (line ∷ others) (next others are));
    }

-- the next line is bad
pub read_bad : (text : List ℕ) (number : ℕ) (entries : List SetupEntry) (rest : List ℕ) (line behind : List ℕ)
    → IsReadTo text number entries rest → ((others : List (List ℕ)) → AreLines others behind → AreLines (line ∷ others) rest)
    → IsBadAfter entries line → (n : ℕ) → n ≡ number + 1 → IsSetup text (Err n)
read_bad text number entries rest line behind r next is_bad n at =
    let others = some_lines behind in
    let counted = r.counted in
    record {
      good = r.lines;
      bad = line;
      others = others.0;
      entries = entries;
      cut = r.cut (line ∷ others.0) (next others.0 others.1);
      said = r.said;
      is_bad = is_bad;
      counted = omega (arith, counted, at);
    }

-- the next line says what may stand there
pub read_next : (text : List ℕ) (number : ℕ) (entries : List SetupEntry) (rest line behind : List ℕ)
    → IsReadTo text number entries rest → ((others : List (List ℕ)) → AreLines others behind → AreLines (line ∷ others) rest)
    → (entry : SetupEntry) × IsNext entries line entry → HasNextEntry text
read_next text number entries rest line behind r next h =
    let others = some_lines behind in
    record {
      good = r.lines;
      line = line;
      others = others.0;
      entries = entries;
      entry = h.0;
      cut = r.cut (line ∷ others.0) (next others.0 others.1);
      said = r.said;
      is_next = h.1;
    }

-- no line is left
pub read_whole : (text : List ℕ) (number : ℕ) (entries : List SetupEntry) (rest : List ℕ) → IsReadTo text number entries rest → rest ≡ [] → IsSetup text (Ok entries)
read_whole text number entries rest r none =
    (r.lines, subst (λ (ls : List (List ℕ)). AreLines ls text) (append-nil r.lines) (r.cut [] none), r.said)

-- ---- each index stands after its table

abbrev EarlierOrLast : {A : Type 0} → List A → A → A → ℕ → Type 0
EarlierOrLast xs y z i =
    ((slice_get xs i ≡ Some z) × (take i (xs ++ y ∷ []) ≡ take i xs)) ⊎ ((y ≡ z) × (take i (xs ++ y ∷ []) ≡ xs))

one_more : {A : Type 0} (x : A) (xs : List A) (y z : A) (i : ℕ) → EarlierOrLast xs y z i → EarlierOrLast (x ∷ xs) y z (suc i)
one_more x xs y z i (inl h) = inl (h.0, ap (λ zs. x ∷ zs) h.1)
one_more x xs y z i (inr h) = inr (h.0, ap (λ zs. x ∷ zs) h.1)

-- an element of a list that is one longer is an earlier one or the last, and these stand before it
earlier_or_last : {A : Type 0} (xs : List A) (y z : A) (i : ℕ) → slice_get (xs ++ y ∷ []) i ≡ Some z → EarlierOrLast xs y z i
earlier_or_last [] y z zero e = let same : y ≡ z = cc in inr (same, refl)
earlier_or_last [] y z (suc i) e = absurd cc
earlier_or_last (x ∷ xs) y z zero e = inl (e, refl)
earlier_or_last (x ∷ xs) y z (suc i) e = one_more x xs y z i (earlier_or_last xs y z i e)

by_either : (before : List SetupEntry) (entry : SetupEntry) → IndexesFollowTables before → may_follow before entry ≡ true → (i : ℕ) (table name ndx : List ℕ)
    → EarlierOrLast before entry (Index table name ndx) i → list_any (is_table_of table) (take i (before ++ entry ∷ [])) ≡ true
by_either before entry ordered can i table name ndx (inl h) =
    subst (λ (es : List SetupEntry). list_any (is_table_of table) es ≡ true) (sym h.1) (ordered i table name ndx h.0)
by_either before entry ordered can i table name ndx (inr h) =
    subst (λ (es : List SetupEntry). list_any (is_table_of table) es ≡ true) (sym h.1) (subst (λ (e : SetupEntry). may_follow before e ≡ true) h.0 can)

tables_first-last : (before : List SetupEntry) (entry : SetupEntry) → IndexesFollowTables before → may_follow before entry ≡ true → IndexesFollowTables (before ++ entry ∷ [])
tables_first-last before entry ordered can i table name ndx at =
    by_either before entry ordered can i table name ndx (earlier_or_last before entry (Index table name ndx) i at)

tables_first-adds : (before : List SetupEntry) (line : List ℕ) (after : List SetupEntry) → IndexesFollowTables before → Adds before line after → IndexesFollowTables after
tables_first-adds before line after ordered (inl x) = subst (λ (es : List SetupEntry). IndexesFollowTables es) (sym x.1) ordered
tables_first-adds before line after ordered (inr x) =
    subst (λ (es : List SetupEntry). IndexesFollowTables es) (sym x.3) (tables_first-last before x.0 ordered x.2)

tables_first-all : (before : List SetupEntry) (lines : List (List ℕ)) (after : List SetupEntry) → IndexesFollowTables before → AddAll before lines after → IndexesFollowTables after
tables_first-all before [] after ordered all = subst (λ (es : List SetupEntry). IndexesFollowTables es) (sym all) ordered
tables_first-all before (line ∷ lines) after ordered all =
    tables_first-all all.0 lines after (tables_first-adds before line all.0 ordered all.1) all.2

no_index : IndexesFollowTables []
no_index i table name ndx at = absurd cc

-- in a setup each index stands after its table
pub tables_first : (text : List ℕ) (entries : List SetupEntry) → IsSetup text (Ok entries) → IndexesFollowTables entries
tables_first text entries said = tables_first-all [] said.0 entries no_index said.2

-- ---- a text says something

by_place : (text : List ℕ) (number : ℕ) (entries : List SetupEntry) (rest line behind : List ℕ)
    → IsReadTo text number entries rest → ((others : List (List ℕ)) → AreLines others behind → AreLines (line ∷ others) rest)
    → ((after : List SetupEntry) → IsReadTo text (number + 1) after behind → (said : Result (List SetupEntry) ℕ) × IsSetup text said)
    → (entry : SetupEntry) → IsEntry line entry → (b : Bool) → may_follow entries entry ≡ b
    → (said : Result (List SetupEntry) ℕ) × IsSetup text said
by_place text number entries rest line behind r next more entry h true can =
    more (entries ++ entry ∷ []) (read_more text number entries rest line behind (entries ++ entry ∷ []) r next (inr (entry, h, can, refl)))
by_place text number entries rest line behind r next more entry h false barred =
    (Err (number + 1), read_bad text number entries rest line behind r next (unplaced entries line entry h barred) (number + 1) refl)

by_meaning : (text : List ℕ) (number : ℕ) (entries : List SetupEntry) (rest line behind : List ℕ)
    → IsReadTo text number entries rest → ((others : List (List ℕ)) → AreLines others behind → AreLines (line ∷ others) rest)
    → ((after : List SetupEntry) → IsReadTo text (number + 1) after behind → (said : Result (List SetupEntry) ℕ) × IsSetup text said)
    → IsSkipped line ⊎ (((entry : SetupEntry) × IsEntry line entry) ⊎ IsBad line)
    → (said : Result (List SetupEntry) ℕ) × IsSetup text said
by_meaning text number entries rest line behind r next more (inl skipped) =
    more entries (read_more text number entries rest line behind entries r next (inl (skipped, refl)))
by_meaning text number entries rest line behind r next more (inr (inl h)) =
    by_place text number entries rest line behind r next more h.0 h.1 (may_follow entries h.0) refl
by_meaning text number entries rest line behind r next more (inr (inr bad)) =
    (Err (number + 1), read_bad text number entries rest line behind r next (bad_after entries line bad) (number + 1) refl)

some_said : (text : List ℕ) (number : ℕ) (entries : List SetupEntry) (rest : List ℕ) (lines : List (List ℕ))
    → IsReadTo text number entries rest → AreLines lines rest → (said : Result (List SetupEntry) ℕ) × IsSetup text said
some_said text number entries rest [] r are = (Ok entries, read_whole text number entries rest r are)
some_said text number entries rest (line ∷ lines) r are =
    by_meaning text number entries rest line are.0 r (line_before rest line are.0 are.1)
    (λ after k. some_said text (number + 1) after are.0 lines k are.2) (some_meaning line)

-- each text is a setup of some entries, or has a first bad line
pub some_setup : (text : List ℕ) → (said : Result (List SetupEntry) ℕ) × IsSetup text said
some_setup text = let lines = some_lines text in some_said text 0 [] text lines.0 (none_read text) lines.1

-- ---- a text says one thing

same_adds : (before after other : List SetupEntry) (line : List ℕ) → Adds before line after → Adds before line other → after ≡ other
same_adds before after other line (inl x) (inl y) = x.1 ∙ sym y.1
same_adds before after other line (inl x) (inr y) = absurd (entry_not_skipped line y.0 x.0 y.1)
same_adds before after other line (inr x) (inl y) = absurd (entry_not_skipped line x.0 y.0 x.1)
same_adds before after other line (inr x) (inr y) =
    x.3 ∙ (ap (λ (e : SetupEntry). before ++ e ∷ []) (one_entry line x.0 y.0 x.1 y.1) ∙ sym y.3)

same_all : (before : List SetupEntry) (lines : List (List ℕ)) (after other : List SetupEntry) → AddAll before lines after → AddAll before lines other → after ≡ other
same_all before [] after other x y = x ∙ sym y
same_all before (line ∷ lines) after other x y =
    let same : x.0 ≡ y.0 = same_adds before x.0 y.0 line x.1 y.1 in
    same_all y.0 lines after other (subst (λ (m : List SetupEntry). AddAll m lines after) same x.2) y.2

bad_adds : (before after : List SetupEntry) (line : List ℕ) → IsBadAfter before line → Adds before line after → ⊥
bad_adds before after line bad (inl x) = bad.0 x.0
bad_adds before after line bad (inr x) = bad.1 x.0 x.1 x.2

-- lines with a bad one say nothing
not_all : (before : List SetupEntry) (good : List (List ℕ)) (bad : List ℕ) (others : List (List ℕ)) (middle after : List SetupEntry)
    → AddAll before good middle → IsBadAfter middle bad → AddAll before (good ++ bad ∷ others) after → ⊥
not_all before [] bad others middle after said is all =
    bad_adds before all.0 bad (subst (λ (m : List SetupEntry). IsBadAfter m bad) said is) all.1
not_all before (line ∷ good) bad others middle after said is all =
    let same : said.0 ≡ all.0 = same_adds before said.0 all.0 line said.1 all.1 in
    not_all all.0 good bad others middle after (subst (λ (m : List SetupEntry). AddAll m good middle) same said.2) is all.2

bad_first : (before : List SetupEntry) (bad line : List ℕ) (next : List SetupEntry) → bad ≡ line → IsBadAfter before bad → Adds before line next → ⊥
bad_first before bad line next same is adds = bad_adds before next line (subst (λ (l : List ℕ). IsBadAfter before l) same is) adds

-- the first bad line is one
same_place : (before : List SetupEntry) (g : List (List ℕ)) (b : List ℕ) (others : List (List ℕ)) (m : List SetupEntry)
    (h : List (List ℕ)) (c : List ℕ) (rest : List (List ℕ)) (n : List SetupEntry)
    → AddAll before g m → IsBadAfter m b → AddAll before h n → IsBadAfter n c → g ++ b ∷ others ≡ h ++ c ∷ rest → length g ≡ length h
same_place before [] b others m [] c rest n x p y q e = refl
same_place before [] b others m (l ∷ h) c rest n x p y q e =
    let first : b ≡ l = cc in
    absurd (bad_first before b l y.0 first (subst (λ (s : List SetupEntry). IsBadAfter s b) x p) y.1)
same_place before (l ∷ g) b others m [] c rest n x p y q e =
    let first : c ≡ l = cc in
    absurd (bad_first before c l x.0 first (subst (λ (s : List SetupEntry). IsBadAfter s c) y q) x.1)
same_place before (l ∷ g) b others m (k ∷ h) c rest n x p y q e =
    let same : l ≡ k = cc in
    let next : x.0 ≡ y.0 = same_adds before x.0 y.0 k (subst (λ (z : List ℕ). Adds before z x.0) same x.1) y.1 in
    let left : g ++ b ∷ others ≡ h ++ c ∷ rest = cc in
    let more = same_place y.0 g b others m h c rest n (subst (λ (s : List SetupEntry). AddAll s g m) next x.2) p y.2 q left in
    omega (arith, more)

abbrev said_of : List SetupEntry → Result (List SetupEntry) ℕ
said_of entries = Ok entries

abbrev bad_at : ℕ → Result (List SetupEntry) ℕ
bad_at number = Err number

-- a text is a setup of one list of entries, or has one first bad line
pub one_setup : (text : List ℕ) (a b : Result (List SetupEntry) ℕ) → IsSetup text a → IsSetup text b → a ≡ b
one_setup text (Ok a) (Ok b) x y =
    let same : x.0 ≡ y.0 = one_cutting text x.0 y.0 x.1 y.1 in
    ap (λ (es : List SetupEntry). said_of es) (same_all [] y.0 a b (subst (λ (ls : List (List ℕ)). AddAll [] ls a) same x.2) y.2)
one_setup text (Ok a) (Err n) x y =
    let same : x.0 ≡ y.good ++ y.bad ∷ y.others = one_cutting text x.0 (y.good ++ y.bad ∷ y.others) x.1 y.cut in
    absurd (not_all [] y.good y.bad y.others y.entries a y.said y.is_bad (subst (λ (ls : List (List ℕ)). AddAll [] ls a) same x.2))
one_setup text (Err n) (Ok b) x y =
    let same : y.0 ≡ x.good ++ x.bad ∷ x.others = one_cutting text y.0 (x.good ++ x.bad ∷ x.others) y.1 x.cut in
    absurd (not_all [] x.good x.bad x.others x.entries b x.said x.is_bad (subst (λ (ls : List (List ℕ)). AddAll [] ls b) same y.2))
one_setup text (Err n) (Err m) x y =
    let same = one_cutting text (x.good ++ x.bad ∷ x.others) (y.good ++ y.bad ∷ y.others) x.cut y.cut in
    let place = same_place [] x.good x.bad x.others x.entries y.good y.bad y.others y.entries x.said x.is_bad y.said y.is_bad same in
    ap (λ (k : ℕ). bad_at k) (x.counted ∙ (ap (λ (k : ℕ). k + 1) place ∙ sym y.counted))
