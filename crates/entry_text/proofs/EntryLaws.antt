-- One entry after another is shown.
use Rattle.std.proofs.Common.{◌≡◌, ℕ, ◌+◌, ◌^◌, ◌<◌, ◌≤◌, Bool, true, false, cond, count_by, List, [], ◌∷◌, ◌++◌, length, refl, ap, sym, ◌∙◌, arith, append_assoc}
use Rattle.std.specs.Prelude.{if◌then◌else◌}
use Rattle.std.specs.List.{flat_map}
use Rattle.std.proofs.lemmas.List.{append-nil, flat_map_more, length-append}
use Rattle.std.proofs.lemmas.List.Sums.{count_by-le-length, sum_by-append, sum_by-cons}
use Rattle.station_lines.specs.JournalLines.{lines_and, HasSmallNumbers, HaveSmallNumbers, BeginsWithEntry, BeginsWithNoEntry}
use Rattle.journal_file.proofs.TextLaws.{entries_one, lines_more, too_few_entries}
use Rattle.entry_text.specs.declared.counts.EntryCounts.{EntryCounts}
use Rattle.entry_text.specs.declared.entries.EntriesAsked.{EntriesAsked}
use Rattle.entry_text.specs.Layout.{asked_count, count_text, counts_of, entries_text, is_asked, is_refused, refused_count, shown_text, AreLinesOf}

-- so many entries were cut off the lines, this is left of them, and what is shown of these entries was appended
pub record HasShown (asked : EntriesAsked) (lines begun : List ℕ) (count : ℕ) (rest now : List ℕ) (counts : EntryCounts) : Type 0 where
  pub entries : List (ℕ × List ℕ × List ℕ)
  pub small : HaveSmallNumbers entries
  pub counted : length entries ≡ count
  pub is : lines ≡ lines_and entries rest
  pub short : length rest ≤ length lines
  pub text : now ≡ begun ++ flat_map (shown_text asked) entries
  pub counts_are : counts ≡ counts_of asked entries

pub none_shown : (asked : EntriesAsked) (lines begun : List ℕ) → HasShown asked lines begun 0 lines begun (counts_of asked [])
none_shown asked lines begun = record {
  entries = [];
  small = tt;
  counted = refl;
  is = refl;
  short = omega arith;
  text = sym (append-nil begun);
  counts_are = refl;
}

small_more : (es : List (ℕ × List ℕ × List ℕ)) (e : ℕ × List ℕ × List ℕ) → HaveSmallNumbers es → HasSmallNumbers e → HaveSmallNumbers (es ++ e ∷ [])
small_more [] e h p = (p, tt)
small_more (f ∷ es) e h p = (h.0, small_more es e h.1 p)

entry_shorter : (text : List ℕ) (e : ℕ × List ℕ × List ℕ) (rest : List ℕ) → BeginsWithEntry text e rest → length rest < length text
entry_shorter text e rest h = omega (arith, simp length-append at (ap length h.is))

-- the counts of some entries and of one more
one_counted : (asked : EntriesAsked) (es : List (ℕ × List ℕ × List ℕ)) (e : ℕ × List ℕ × List ℕ) (counts one now : EntryCounts) → counts ≡ counts_of asked es
    → one ≡ counts_of asked (e ∷ []) → now.all ≡ counts.all + one.all → now.refused ≡ counts.refused + one.refused → now ≡ counts_of asked (es ++ e ∷ [])
one_counted asked es e counts one now counts_are one_is all_is refused_is =
    let all : now.all ≡ asked_count asked (es ++ e ∷ []) =
    all_is
    ∙ ((λ i. (counts_are i).all + (one_is i).all)
    ∙ sym (sum_by-append (λ (x : ℕ × List ℕ × List ℕ). cond (is_asked asked x) 1 0) es (e ∷ []))) in
    let refused : now.refused ≡ refused_count asked (es ++ e ∷ []) =
    refused_is
    ∙ ((λ i. (counts_are i).refused + (one_is i).refused)
    ∙ sym (sum_by-append (λ (x : ℕ × List ℕ × List ℕ). cond (is_refused asked x) 1 0) es (e ∷ []))) in
    (λ i. record { all = all i; refused = refused i })

pub one_shown : (asked : EntriesAsked) (lines begun : List ℕ) (count : ℕ) (rest next before now : List ℕ) (counts one after : EntryCounts)
    (e : ℕ × List ℕ × List ℕ)
    → HasShown asked lines begun count rest before counts → BeginsWithEntry rest e next → now ≡ before ++ shown_text asked e → one ≡ counts_of asked (e ∷ [])
    → after.all ≡ counts.all + one.all → after.refused ≡ counts.refused + one.refused → HasShown asked lines begun (count + 1) next now after
one_shown asked lines begun count rest next before now counts one after e h first now_is one_is all_is refused_is = record {
  entries = h.entries ++ e ∷ [];
  small = small_more h.entries e h.small first.small;
  counted = omega (arith, h.counted, length-append h.entries (e ∷ []));
  is = h.is ∙ (ap (lines_and h.entries) first.is ∙ sym (lines_more h.entries (e ∷ []) next));
  short = omega (arith, h.short, entry_shorter rest e next first);
  text = now_is ∙ (ap (λ (t : List ℕ). t ++ shown_text asked e) h.text ∙ flat_map_more (shown_text asked) begun h.entries e);
  counts_are = one_counted asked h.entries e counts one after h.counts_are one_is all_is refused_is;
}

-- how one entry counts
one_of : (p : ℕ × List ℕ × List ℕ → Bool) (e : ℕ × List ℕ × List ℕ) → count_by p (e ∷ []) ≡ cond (p e) 1 0
one_of p e = sum_by-cons (λ (x : ℕ × List ℕ × List ℕ). cond (p x) 1 0) e [] ∙ omega arith

pub one_count : (asked : EntriesAsked) (e : ℕ × List ℕ × List ℕ)
    → counts_of asked (e ∷ []) ≡ record { all = cond (is_asked asked e) 1 0; refused = cond (is_refused asked e) 1 0 }
one_count asked e = (λ i. record { all = one_of (is_asked asked) e i; refused = one_of (is_refused asked) e i })

-- ---- the counts stay small

few_asked : (asked : EntriesAsked) (es : List (ℕ × List ℕ × List ℕ)) → asked_count asked es ≤ length es
few_asked asked es = count_by-le-length (is_asked asked) es

few_refused : (asked : EntriesAsked) (es : List (ℕ × List ℕ × List ℕ)) → refused_count asked es ≤ length es
few_refused asked es = count_by-le-length (is_refused asked) es

pub room_for_one : (asked : EntriesAsked) (lines begun : List ℕ) (i count : ℕ) (rest now : List ℕ) (counts one : EntryCounts) (e : ℕ × List ℕ × List ℕ)
    → HasShown asked lines begun i rest now counts → one ≡ counts_of asked (e ∷ []) → i < count → count < 2 ^ 64 → counts.all + one.all < 2 ^ 64
room_for_one asked lines begun i count rest now counts one e h one_is fewer small =
    let many : counts.all ≤ i = omega (arith, few_asked asked h.entries, ap (λ (c : EntryCounts). c.all) h.counts_are, h.counted) in
    let few : one.all ≤ 1 = omega (arith, few_asked asked (e ∷ []), ap (λ (c : EntryCounts). c.all) one_is) in
    omega (arith, many, few, fewer, small)

pub room_for_refused : (asked : EntriesAsked) (lines begun : List ℕ) (i count : ℕ) (rest now : List ℕ) (counts one : EntryCounts) (e : ℕ × List ℕ × List ℕ)
    → HasShown asked lines begun i rest now counts → one ≡ counts_of asked (e ∷ []) → i < count → count < 2 ^ 64 → counts.refused + one.refused < 2 ^ 64
room_for_refused asked lines begun i count rest now counts one e h one_is fewer small =
    let many : counts.refused ≤ i = omega (arith, few_refused asked h.entries, ap (λ (c : EntryCounts). c.refused) h.counts_are, h.counted) in
    let few : one.refused ≤ 1 = omega (arith, few_refused asked (e ∷ []), ap (λ (c : EntryCounts). c.refused) one_is) in
    omega (arith, many, few, fewer, small)

-- ---- the end

-- where the lines are those of more entries, one is first
pub one_is_first : (asked : EntriesAsked) (lines begun : List ℕ) (i count : ℕ) (rest now : List ℕ) (counts : EntryCounts) (entries : List (ℕ × List ℕ × List ℕ))
    → HasShown asked lines begun i rest now counts → i < count → BeginsWithNoEntry rest → AreLinesOf entries count lines → ⊥
one_is_first asked lines begun i count rest now counts entries h fewer none are =
    too_few_entries lines i count rest (record { entries = h.entries; small = h.small; counted = h.counted; is = h.is; short = h.short }) fewer none
    entries [] are.small are.counted are.is

-- they are those that were shown
same_entries : (asked : EntriesAsked) (lines begun : List ℕ) (i count : ℕ) (rest now : List ℕ) (counts : EntryCounts) (entries : List (ℕ × List ℕ × List ℕ))
    → (h : HasShown asked lines begun i rest now counts) → i ≡ count → AreLinesOf entries count lines → h.entries ≡ entries
same_entries asked lines begun i count rest now counts entries h end are =
    (entries_one h.entries entries rest [] h.small are.small (h.counted ∙ (end ∙ sym are.counted)) (sym h.is ∙ are.is)).entries

pub all_shown : (asked : EntriesAsked) (lines begun : List ℕ) (i count : ℕ) (rest now : List ℕ) (counts : EntryCounts) (entries : List (ℕ × List ℕ × List ℕ))
    → HasShown asked lines begun i rest now counts → i ≡ count → AreLinesOf entries count lines → now ≡ begun ++ flat_map (shown_text asked) entries
all_shown asked lines begun i count rest now counts entries h end are =
    h.text ∙ ap (λ (es : List (ℕ × List ℕ × List ℕ)). begun ++ flat_map (shown_text asked) es)
    (same_entries asked lines begun i count rest now counts entries h end are)

pub all_counted : (asked : EntriesAsked) (lines begun : List ℕ) (i count : ℕ) (rest now : List ℕ) (counts : EntryCounts) (entries : List (ℕ × List ℕ × List ℕ))
    → HasShown asked lines begun i rest now counts → i ≡ count → AreLinesOf entries count lines → counts ≡ counts_of asked entries
all_counted asked lines begun i count rest now counts entries h end are =
    h.counts_are ∙ ap (counts_of asked) (same_entries asked lines begun i count rest now counts entries h end are)

-- ---- the whole text

regroup : (a b c : List ℕ) → (a ++ b) ++ c ≡ a ++ (b ++ c)
regroup a b c = simp append_assoc

-- where all are shown nothing stands after them
pub without_count : (asked : EntriesAsked) (entries : List (ℕ × List ℕ × List ℕ)) (begun told : List ℕ) → asked.refused_only ≡ false
    → told ≡ begun ++ flat_map (shown_text asked) entries → told ≡ begun ++ entries_text asked entries
without_count asked entries begun told all told_is =
    told_is
    ∙ (ap (λ (l : List ℕ). begun ++ l) (sym (append-nil (flat_map (shown_text asked) entries)))
    ∙ ap (λ (b : Bool). begun ++ (flat_map (shown_text asked) entries
    ++ (if b then count_text (refused_count asked entries) (asked_count asked entries) else []))) (sym all))

-- where the refused ones alone are shown, how many of how many they are
pub with_count : (asked : EntriesAsked) (entries : List (ℕ × List ℕ × List ℕ)) (begun told text : List ℕ) (counts : EntryCounts) → asked.refused_only ≡ true
    → told ≡ begun ++ flat_map (shown_text asked) entries → counts ≡ counts_of asked entries → text ≡ told ++ count_text counts.refused counts.all
    → text ≡ begun ++ entries_text asked entries
with_count asked entries begun told text counts only told_is counts_are text_is =
    text_is
    ∙ ((λ i. told_is i ++ count_text (counts_are i).refused (counts_are i).all)
    ∙ (regroup begun (flat_map (shown_text asked) entries) (count_text (refused_count asked entries) (asked_count asked entries))
    ∙ ap (λ (b : Bool). begun ++ (flat_map (shown_text asked) entries
    ++ (if b then count_text (refused_count asked entries) (asked_count asked entries) else []))) (sym only)))
