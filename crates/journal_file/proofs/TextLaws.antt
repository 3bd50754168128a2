-- A whole text is cut into its parts in one way.
use Rattle.std.proofs.Common.{◌≡◌, ◌≢◌, ℕ, suc, ◌+◌, ◌^◌, ◌<◌, ◌≤◌, Bool, true, false, not, ◌==◌, Bor, List, [], ◌∷◌, ◌++◌, ◌-◌, length, get_or, take, drop, codes, Option, Some, None, refl, ap, ◌∙◌, sym, subst, arith, append_assoc}
use Rattle.std.specs.Prelude.{MatchOption, IfSome, IfNone}
use Rattle.std.specs.List.{AllByRecursion, position}
use Rattle.std.specs.Char.{is_ascii_digit}
use Rattle.std.specs.Fmt.{decimal}
use Rattle.std.proofs.Math.Seq.{take-append_seam}
use Rattle.std.proofs.lemmas.Bool.Decides.{nat_tests}
use Rattle.std.proofs.lemmas.List.{length-append, append-nil, append_cancel_left, drop_all, drop_more}
use Rattle.dbf_fields.specs.Digits.{digits_after}
use Rattle.dbf_fields.specs.declared.format.TheConstants.{BLANK}
use Rattle.station_lines.specs.declared.script.format.TheConstants.{LF}
use Rattle.station_lines.specs.JournalLines.{entry_and, lines_and, HasSmallNumbers, HaveSmallNumbers, IsNoNumber, BeginsWithNumber, BeginsWithNoNumber, BeginsWithPart, BeginsWithNoPart, BeginsWithEntry, BeginsWithNoEntry}
use Rattle.station_lines.proofs.CommandLaws.NumberLaws.{decimal_digits}
use Rattle.station_lines.proofs.ScriptLaws.PartLaws.{weaker}
use Rattle.station_lines.proofs.JournalLaws.{IsSameNumber, lacks, cut_at_byte, cut_number_one, cut_part_one, first_byte, no_byte, tail_is, entry_one}
use Rattle.journal_file.specs.declared.cutting.JournalParts.{JournalParts}
use Rattle.journal_file.specs.declared.sum.FileSum.{FileSum}
use Rattle.journal_file.specs.declared.sum.TheConstants.{DIGEST_LEN}
use Rattle.journal_file.specs.WholeText.{sum_as, sum_and, sums_and, reindex_and, count_and, head_and, tail_text, end_line, entries_word, whole_text, read_word, wrote_word, WholeJournal, CanBeTold, IsSum, BeginsWithSum, BeginsWithNoSum, BeginsWithSums, BeginsWithNoReindex, BeginsWithCount, BeginsWithNoCount, BeginsWithHead, BeginsWithNoHead, BeginsWithEntries, BeginsWithFewer, IsTail, IsNoTail, IsCutInto, IsNotWhole}

-- ---- one file

pub record IsSameSum (a b : FileSum) (r s : List ℕ) : Type 0 where
  pub sum : a ≡ b
  pub rest : r ≡ s

pub sum_one : (word : List ℕ) (a b : FileSum) (r s : List ℕ) → IsSum a → IsSum b → sum_and word a r ≡ sum_and word b s → IsSameSum a b r s
sum_one word a b r s ha hb same =
    let path_len = cut_number_one (length a.path) (length b.path) _ _ ha.0 hb.0 (append_cancel_left word _ _ same) in
    let count = cut_number_one a.length b.length _ _ ha.1 hb.1 path_len.rest in
    let digest = cut_part_one a.digest b.digest _ _ (ha.2 ∙ sym hb.2) count.rest in
    let path = cut_part_one a.path b.path _ _ path_len.number (tail_is BLANK BLANK _ _ digest.rest) in
    record {
      sum = (λ i. record { path = path.part i; length = count.number i; digest = digest.part i });
      rest = tail_is LF LF r s path.rest;
    }

-- ---- files, one after another

pub record AreSameSums (xs ys : List FileSum) (r s : List ℕ) : Type 0 where
  pub sums : xs ≡ ys
  pub rest : r ≡ s

pub sums_one : (word : List ℕ) (xs ys : List FileSum) (r s : List ℕ) → AllByRecursion IsSum xs → AllByRecursion IsSum ys → BeginsWithNoSum word r → BeginsWithNoSum word s
    → sums_and word xs r ≡ sums_and word ys s → AreSameSums xs ys r s
sums_one word [] [] r s ha hb hr hs e = record { sums = refl; rest = e }
sums_one word [] (y ∷ ys) r s ha hb hr hs e = absurd (hr y (sums_and word ys s) hb.0 e)
sums_one word (x ∷ xs) [] r s ha hb hr hs e = absurd (hs x (sums_and word xs r) ha.0 (sym e))
sums_one word (x ∷ xs) (y ∷ ys) r s ha hb hr hs e =
    let first = sum_one word x y (sums_and word xs r) (sums_and word ys s) ha.0 hb.0 e in
    let more = sums_one word xs ys r s ha.1 hb.1 hr hs first.rest in
    record { sums = (λ i. first.sum i ∷ more.sums i); rest = more.rest }

part_then : (a : List ℕ) (b : ℕ) (x y rest : List ℕ) → x ++ rest ≡ y → (a ++ (b ∷ x)) ++ rest ≡ a ++ (b ∷ y)
part_then a b x y rest e = append_assoc a (b ∷ x) rest ∙ ap (λ (l : List ℕ). a ++ (b ∷ l)) e

pub sum_then : (word : List ℕ) (a : FileSum) (t r : List ℕ) → sum_and word a t ++ r ≡ sum_and word a (t ++ r)
sum_then word a t r =
    append_assoc word _ r ∙ ap (λ (l : List ℕ). word ++ l) (part_then (decimal (length a.path)) BLANK _ _ r (part_then (decimal a.length) BLANK _ _ r
    (part_then a.digest BLANK _ _ r (part_then a.path LF t (t ++ r) r refl))))

pub sums_then : (word : List ℕ) (xs : List FileSum) (t r : List ℕ) → sums_and word xs t ++ r ≡ sums_and word xs (t ++ r)
sums_then word [] t r = refl
sums_then word (x ∷ xs) t r = sum_then word x (sums_and word xs t) r ∙ ap (sum_and word x) (sums_then word xs t r)

-- one file's line was added after others
pub sums_left : (word before now : List ℕ) (sums : List FileSum) (i : ℕ) (sum : FileSum) (whole : List ℕ) → i < length sums → sum ≡ get_or sums i sum → now ≡ before ++ sum_and word sum []
    → before ++ sums_and word (drop i sums) [] ≡ whole → now ++ sums_and word (drop (i + 1) sums) [] ≡ whole
sums_left word before now sums i sum whole inside is pushed all =
    let left : drop i sums ≡ sum ∷ drop (i + 1) sums = drop_more sums i sum inside ∙ ap (λ (x : FileSum). x ∷ drop (i + 1) sums) (sym is) in
    let rest : List ℕ = sums_and word (drop (i + 1) sums) [] in
    ap (λ (l : List ℕ). l ++ rest) pushed ∙ (append_assoc before (sum_and word sum []) rest
    ∙ (ap (λ (l : List ℕ). before ++ l) (sum_then word sum [] rest ∙ sym (ap (λ (xs : List FileSum). sums_and word xs []) left)) ∙ all))

-- the lines of all files were added
pub all_pushed : (word now : List ℕ) (sums : List FileSum) (i : ℕ) (whole : List ℕ) → length sums ≤ i → now ++ sums_and word (drop i sums) [] ≡ whole → now ≡ whole
all_pushed word now sums i whole end all =
    sym (append-nil now) ∙ (ap (λ (l : List ℕ). now ++ l) (sym (ap (λ (xs : List FileSum). sums_and word xs []) (drop_all i sums end))) ∙ all)

pub sums_more : (word : List ℕ) (xs ys : List FileSum) (r : List ℕ) → sums_and word (xs ++ ys) r ≡ sums_and word xs (sums_and word ys r)
sums_more word [] ys r = refl
sums_more word (x ∷ xs) ys r = ap (sum_and word x) (sums_more word xs ys r)

all_more : {X : Type 0} (P : X → Type 0) (xs : List X) (x : X) → AllByRecursion P xs → P x → AllByRecursion P (xs ++ x ∷ [])
all_more P [] x h p = (p, tt)
all_more P (y ∷ xs) x h p = (h.0, all_more P xs x h.1 p)

-- ---- entries

entry_then : (e : ℕ × List ℕ × List ℕ) (t r : List ℕ) → entry_and e t ++ r ≡ entry_and e (t ++ r)
entry_then e t r =
    part_then (decimal e.0) BLANK _ _ r (part_then (decimal (length e.1)) BLANK _ _ r (part_then (decimal (length e.2)) BLANK _ _ r
    (part_then e.1 BLANK _ _ r (part_then e.2 LF t (t ++ r) r refl))))

pub lines_then : (es : List (ℕ × List ℕ × List ℕ)) (t r : List ℕ) → lines_and es t ++ r ≡ lines_and es (t ++ r)
lines_then [] t r = refl
lines_then (e ∷ es) t r = entry_then e (lines_and es t) r ∙ ap (entry_and e) (lines_then es t r)

pub lines_more : (es fs : List (ℕ × List ℕ × List ℕ)) (r : List ℕ) → lines_and (es ++ fs) r ≡ lines_and es (lines_and fs r)
lines_more [] fs r = refl
lines_more (e ∷ es) fs r = ap (entry_and e) (lines_more es fs r)

pub record AreSameEntries (es fs : List (ℕ × List ℕ × List ℕ)) (r s : List ℕ) : Type 0 where
  pub entries : es ≡ fs
  pub rest : r ≡ s

pub entries_one : (es fs : List (ℕ × List ℕ × List ℕ)) (r s : List ℕ) → HaveSmallNumbers es → HaveSmallNumbers fs → length es ≡ length fs → lines_and es r ≡ lines_and fs s → AreSameEntries es fs r s
entries_one [] [] r s he hf long same = record { entries = refl; rest = same }
entries_one [] (f ∷ fs) r s he hf long same = absurd (omega (arith, long))
entries_one (e ∷ es) [] r s he hf long same = absurd (omega (arith, long))
entries_one (e ∷ es) (f ∷ fs) r s he hf long same =
    let one = entry_one e f (lines_and es r) (lines_and fs s) he.0 hf.0 same in
    let more = entries_one es fs r s he.1 hf.1 (omega (arith, long)) one.rest in
    record { entries = (λ i. one.entry i ∷ more.entries i); rest = more.rest }

-- ---- what is no file's line

pub no_sum_at_reindex : (reindex : Bool) (rest : List ℕ) → BeginsWithNoSum read_word (reindex_and reindex rest)
no_sum_at_reindex true rest sum more small e = let third : 105 ≡ 97 = ap (λ (xs : List ℕ). get_or xs 2 0) e in omega (arith, third)
no_sum_at_reindex false rest sum more small e = let third : 105 ≡ 97 = ap (λ (xs : List ℕ). get_or xs 2 0) e in omega (arith, third)

pub no_sum_at_end : BeginsWithNoSum wrote_word end_line
no_sum_at_end sum more small e = let first : 101 ≡ 119 = ap (λ (xs : List ℕ). get_or xs 0 0) e in omega (arith, first)

-- ---- the lines after those of the files

pub record IsSameReindex (a b : Bool) (r s : List ℕ) : Type 0 where
  pub reindex : a ≡ b
  pub rest : r ≡ s

yes_not_no : (r s : List ℕ) → reindex_and true r ≢ reindex_and false s
yes_not_no r s e = let ninth : 121 ≡ 110 = ap (λ (xs : List ℕ). get_or xs 8 0) e in omega (arith, ninth)

pub reindex_one : (a b : Bool) (r s : List ℕ) → reindex_and a r ≡ reindex_and b s → IsSameReindex a b r s
reindex_one true true r s e = record { reindex = refl; rest = tail_is LF LF r s (append_cancel_left (codes "reindex yes") (LF ∷ r) (LF ∷ s) e) }
reindex_one true false r s e = absurd (yes_not_no r s e)
reindex_one false true r s e = absurd (yes_not_no s r (sym e))
reindex_one false false r s e = record { reindex = refl; rest = tail_is LF LF r s (append_cancel_left (codes "reindex no") (LF ∷ r) (LF ∷ s) e) }

digit_no_end : (d : ℕ) → is_ascii_digit d ≡ true → not (d == LF) ≡ true
digit_no_end d h = grind (arith, nat_tests)

decimal_lacks : (n : ℕ) → n < 2 ^ 64 → lacks LF (decimal n) ≡ true
decimal_lacks n small = weaker is_ascii_digit (λ b. not (b == LF)) digit_no_end (decimal n) (decimal_digits n small).digits

pub count_one : (a b : ℕ) (r s : List ℕ) → a < 2 ^ 64 → b < 2 ^ 64 → count_and a r ≡ count_and b s → IsSameNumber a b r s
count_one a b r s ha hb e =
    let da = decimal_digits a ha in
    let db = decimal_digits b hb in
    let same = cut_at_byte LF (decimal a) (decimal b) r s (decimal_lacks a ha) (decimal_lacks b hb) (append_cancel_left entries_word _ _ e) in
    record { number = sym da.number ∙ (ap (digits_after 0) same.part ∙ db.number); rest = same.rest }

-- ---- the whole text

pub record IsSameHead (xs ys : List FileSum) (x y : Bool) (m n : ℕ) (r s : List ℕ) : Type 0 where
  pub sums : xs ≡ ys
  pub reindex : x ≡ y
  pub count : m ≡ n
  pub rest : r ≡ s

pub head_one : (xs ys : List FileSum) (x y : Bool) (m n : ℕ) (r s : List ℕ) → AllByRecursion IsSum xs → AllByRecursion IsSum ys → m < 2 ^ 64 → n < 2 ^ 64
    → head_and xs x m r ≡ head_and ys y n s → IsSameHead xs ys x y m n r s
head_one xs ys x y m n r s ha hb hm hn e =
    let sums = sums_one read_word xs ys _ _ ha hb (no_sum_at_reindex x _) (no_sum_at_reindex y _) e in
    let reindex = reindex_one x y _ _ sums.rest in
    let count = count_one m n r s hm hn reindex.rest in
    record { sums = sums.sums; reindex = reindex.reindex; count = count.number; rest = count.rest }

pub whole_one : (a b : WholeJournal) → CanBeTold a → CanBeTold b → whole_text a ≡ whole_text b → a ≡ b
whole_one a b ha hb e =
    let head = head_one a.read b.read a.reindex b.reindex (length a.entries) (length b.entries) _ _ ha.read hb.read ha.few hb.few e in
    let entries = entries_one a.entries b.entries _ _ ha.entries hb.entries head.count head.rest in
    let wrote = sums_one wrote_word a.wrote b.wrote end_line end_line ha.wrote hb.wrote no_sum_at_end no_sum_at_end entries.rest in
    λ i. record { read = head.sums i; reindex = head.reindex i; entries = entries.entries i; wrote = wrote.sums i }

-- ---- writing

pub tail_pushed : (before after whole : List ℕ) (sums : List FileSum) → before ≡ [] → after ≡ before ++ sums_and wrote_word sums [] → whole ≡ after ++ end_line → whole ≡ tail_text sums
tail_pushed before after whole sums none pushed ended =
    ended ∙ (ap (λ (l : List ℕ). l ++ end_line) (pushed ∙ ap (λ (l : List ℕ). l ++ sums_and wrote_word sums []) none) ∙ sums_then wrote_word sums [] end_line)

pub reindex_then : (flag : Bool) (rest : List ℕ) → reindex_and flag [] ++ rest ≡ reindex_and flag rest
reindex_then true rest = refl
reindex_then false rest = refl

pub head_pushed : (before after middle whole line last : List ℕ) (sums : List FileSum) (flag : Bool) (count : ℕ) → before ≡ [] → after ≡ before ++ sums_and read_word sums [] → middle ≡ after ++ line
    → line ≡ reindex_and flag [] → whole ≡ middle ++ last → last ≡ count_and count [] → whole ≡ head_and sums flag count []
head_pushed before after middle whole line last sums flag count none pushed more line_is ended last_is =
    let lines : List ℕ = sums_and read_word sums [] in
    let first : after ≡ lines = pushed ∙ ap (λ (l : List ℕ). l ++ lines) none in
    let both : middle ≡ lines ++ reindex_and flag [] = more ∙ (λ i. first i ++ line_is i) in
    ended ∙ ((λ i. both i ++ last_is i) ∙ (append_assoc lines (reindex_and flag []) (count_and count [])
    ∙ (ap (λ (l : List ℕ). lines ++ l) (reindex_then flag (count_and count [])) ∙ sums_then read_word sums [] (reindex_and flag (count_and count [])))))

count_then : (count : ℕ) (t r : List ℕ) → count_and count t ++ r ≡ count_and count (t ++ r)
count_then count t r =
    append_assoc entries_word (decimal count ++ (LF ∷ t)) r ∙ ap (λ (l : List ℕ). entries_word ++ l) (append_assoc (decimal count) (LF ∷ t) r)

reindex_rest : (flag : Bool) (t r : List ℕ) → reindex_and flag t ++ r ≡ reindex_and flag (t ++ r)
reindex_rest true t r = refl
reindex_rest false t r = refl

-- the lines before the entries, and what stands after them
pub head_then : (sums : List FileSum) (flag : Bool) (count : ℕ) (t r : List ℕ) → head_and sums flag count t ++ r ≡ head_and sums flag count (t ++ r)
head_then sums flag count t r =
    sums_then read_word sums (reindex_and flag (count_and count t)) r
    ∙ ap (sums_and read_word sums) (reindex_rest flag (count_and count t) r ∙ ap (reindex_and flag) (count_then count t r))

-- ---- what is cut off, and what can't be

pub some_after : (s p : List ℕ) (r : Option (Bor (List ℕ))) → MatchOption r ((rest : List ℕ) → s ≢ p ++ rest) (λ x. s ≡ p ++ x.now) → IfSome r (λ x. s ≡ p ++ x.now)
some_after s p None h = tt
some_after s p (Some x) h = h

pub none_after : (s p : List ℕ) (r : Option (Bor (List ℕ))) → MatchOption r ((rest : List ℕ) → s ≢ p ++ rest) (λ x. s ≡ p ++ x.now) → IfNone r ((rest : List ℕ) → s ≢ p ++ rest)
none_after s p None h = h
none_after s p (Some x) h = tt

pub no_word : (word text : List ℕ) → ((rest : List ℕ) → text ≢ word ++ rest) → BeginsWithNoSum word text
no_word word text h sum rest small e = h _ e

pub no_path_len : (word text counts : List ℕ) → text ≡ word ++ counts → BeginsWithNoNumber counts → BeginsWithNoSum word text
no_path_len word text counts is h sum rest small e = h (length sum.path) _ small.0 (append_cancel_left word _ _ (sym is ∙ e))

pub no_length : (word text counts r : List ℕ) (n : ℕ) → text ≡ word ++ counts → BeginsWithNumber counts n r → BeginsWithNoNumber r → BeginsWithNoSum word text
no_length word text counts r n is first h sum rest small e =
    let a = cut_number_one n (length sum.path) r _ first.small small.0 (sym first.is ∙ append_cancel_left word _ _ (sym is ∙ e)) in
    h sum.length _ small.1 a.rest

pub no_digest : (word text counts r s : List ℕ) (n m : ℕ) → text ≡ word ++ counts → BeginsWithNumber counts n r → BeginsWithNumber r m s → BeginsWithNoPart s DIGEST_LEN BLANK → BeginsWithNoSum word text
no_digest word text counts r s n m is first second h sum rest small e =
    let a = cut_number_one n (length sum.path) r _ first.small small.0 (sym first.is ∙ append_cancel_left word _ _ (sym is ∙ e)) in
    let b = cut_number_one m sum.length s _ second.small small.1 (sym second.is ∙ a.rest) in
    h sum.digest _ small.2 b.rest

pub no_path : (word text counts r s t digest : List ℕ) (n m : ℕ) → text ≡ word ++ counts → BeginsWithNumber counts n r → BeginsWithNumber r m s
    → BeginsWithPart s DIGEST_LEN BLANK digest t → BeginsWithNoPart t n LF → BeginsWithNoSum word text
no_path word text counts r s t digest n m is first second third h sum rest small e =
    let a = cut_number_one n (length sum.path) r _ first.small small.0 (sym first.is ∙ append_cancel_left word _ _ (sym is ∙ e)) in
    let b = cut_number_one m sum.length s _ second.small small.1 (sym second.is ∙ a.rest) in
    let d = cut_part_one digest sum.digest (BLANK ∷ t) (BLANK ∷ (sum.path ++ (LF ∷ rest))) (third.long ∙ sym small.2) (sym third.is ∙ b.rest) in
    h sum.path rest (sym a.number) (tail_is BLANK BLANK t (sum.path ++ (LF ∷ rest)) d.rest)

pub sum_first : (word text counts r s t digest path rest : List ℕ) (n m : ℕ) → text ≡ word ++ counts → BeginsWithNumber counts n r → BeginsWithNumber r m s
    → BeginsWithPart s DIGEST_LEN BLANK digest t → BeginsWithPart t n LF path rest → BeginsWithSum word text (sum_as path m digest) rest
sum_first word text counts r s t digest path rest n m is first second third fourth =
    let s_is : s ≡ digest ++ (BLANK ∷ (path ++ (LF ∷ rest))) = third.is ∙ ap (λ (xs : List ℕ). digest ++ (BLANK ∷ xs)) fourth.is in
    let r_is : r ≡ decimal m ++ (BLANK ∷ (digest ++ (BLANK ∷ (path ++ (LF ∷ rest))))) = second.is ∙ ap (λ (xs : List ℕ). decimal m ++ (BLANK ∷ xs)) s_is in
    let counts_are : counts ≡ decimal (length path) ++ (BLANK ∷ (decimal m ++ (BLANK ∷ (digest ++ (BLANK ∷ (path ++ (LF ∷ rest)))))))
    = first.is ∙ (λ i. decimal (sym fourth.long i) ++ (BLANK ∷ r_is i)) in
    record {
      is = is ∙ ap (λ (xs : List ℕ). word ++ xs) counts_are;
      small = (subst (λ (x : ℕ). x < 2 ^ 64) (sym fourth.long) first.small, second.small, third.long);
    }

-- ---- files that were taken off a text

pub record HasTakenSums (word text rest : List ℕ) : Type 0 where
  pub sums : List FileSum
  pub are : AllByRecursion IsSum sums
  pub is : text ≡ sums_and word sums rest
  pub short : length rest ≤ length text

pub none_taken : (word text : List ℕ) → HasTakenSums word text text
none_taken word text = record { sums = []; are = tt; is = refl; short = omega arith }

-- what stands after a file's line is shorter
pub sum_shorter : (word text : List ℕ) (sum : FileSum) (rest : List ℕ) → BeginsWithSum word text sum rest → length rest < length text
sum_shorter word text sum rest h = omega (arith, simp length-append at (ap length h.is))

pub one_taken : (word text rest next : List ℕ) (sum : FileSum) → HasTakenSums word text rest → BeginsWithSum word rest sum next → HasTakenSums word text next
one_taken word text rest next sum taken first = record {
  sums = taken.sums ++ sum ∷ [];
  are = all_more IsSum taken.sums sum taken.are first.small;
  is = taken.is ∙ (ap (sums_and word taken.sums) first.is ∙ sym (sums_more word taken.sums (sum ∷ []) next));
  short = omega (arith, taken.short, sum_shorter word rest sum next first);
}

-- what stands before the rest
pub front_of : (text front rest : List ℕ) → text ≡ front ++ rest → take (length text - length rest) text ≡ front
front_of text front rest e =
    let long : length text - length rest ≡ length front = omega (arith, ap length e, length-append front rest) in
    (λ i. take (long i) (e i)) ∙ take-append_seam front rest

pub sums_taken : (word text rest lines : List ℕ) → HasTakenSums word text rest → BeginsWithNoSum word rest → lines ≡ take (length text - length rest) text → BeginsWithSums word text lines rest
sums_taken word text rest lines taken none front = record {
  sums = taken.sums;
  are = taken.are;
  is = taken.is;
  lines_are = front ∙ front_of text (sums_and word taken.sums []) rest (taken.is ∙ sym (sums_then word taken.sums [] rest));
  last = none;
}

-- ---- the head

pub neither : (text : List ℕ) → ((rest : List ℕ) → text ≢ reindex_and true rest) → ((rest : List ℕ) → text ≢ reindex_and false rest) → BeginsWithNoReindex text
neither text anew kept true rest e = anew rest e
neither text anew kept false rest e = kept rest e

pub no_entries_word : (text : List ℕ) → ((rest : List ℕ) → text ≢ entries_word ++ rest) → BeginsWithNoCount text
no_entries_word text h count rest small e = h _ e

pub no_line : (text line : List ℕ) → text ≡ entries_word ++ line → position (λ b. b == LF) line ≡ None → BeginsWithNoCount text
no_line text line is none count rest small e = no_byte LF line none (decimal count) rest (append_cancel_left entries_word _ _ (sym is ∙ e))

pub no_count : (text line digits : List ℕ) (end : ℕ) → text ≡ entries_word ++ line → position (λ b. b == LF) line ≡ Some end → digits ≡ take end line → IsNoNumber digits → BeginsWithNoCount text
no_count text line digits end is found front h count rest small e =
    let c = first_byte LF line end found in
    let same = cut_at_byte LF (take end line) (decimal count) (drop (suc end) line) rest c.before (decimal_lacks count small) (sym c.whole ∙ append_cancel_left entries_word _ _ (sym is ∙ e)) in
    h count small (front ∙ same.part)

pub count_first : (text line digits rest : List ℕ) (end n : ℕ) → text ≡ entries_word ++ line → position (λ b. b == LF) line ≡ Some end → digits ≡ take end line → rest ≡ drop (end + 1) line
    → digits ≡ decimal n → n < 2 ^ 64 → BeginsWithCount text n rest
count_first text line digits rest end n is found front back number small =
    let c = first_byte LF line end found in
    let next : drop (suc end) line ≡ rest = ap (λ (k : ℕ). drop k line) (let e : suc end ≡ end + 1 = omega arith in e) ∙ sym back in
    let digits_are : take end line ≡ decimal n = sym front ∙ number in
    record {
      is = is ∙ ap (λ (xs : List ℕ). entries_word ++ xs) (c.whole ∙ (λ i. digits_are i ++ (LF ∷ next i)));
      small = small;
    }

pub no_reindex : (text lines rest : List ℕ) → BeginsWithSums read_word text lines rest → BeginsWithNoReindex rest → BeginsWithNoHead text
no_reindex text lines rest found h sums reindex count more are small e =
    let same = sums_one read_word found.sums sums rest _ found.are are found.last (no_sum_at_reindex reindex _) (sym found.is ∙ e) in
    h reindex _ same.rest

pub no_count_line : (text lines rest next : List ℕ) (flag : Bool) → BeginsWithSums read_word text lines rest → rest ≡ reindex_and flag next → BeginsWithNoCount next → BeginsWithNoHead text
no_count_line text lines rest next flag found is h sums reindex count more are small e =
    let same = sums_one read_word found.sums sums rest _ found.are are found.last (no_sum_at_reindex reindex _) (sym found.is ∙ e) in
    let flags = reindex_one flag reindex next _ (sym is ∙ same.rest) in
    h count more small flags.rest

pub head_first : (text lines rest next after : List ℕ) (flag : Bool) (count : ℕ) → BeginsWithSums read_word text lines rest → rest ≡ reindex_and flag next → BeginsWithCount next count after
    → BeginsWithHead text lines flag count after
head_first text lines rest next after flag count found is counted = record {
  sums = found.sums;
  are = found.are;
  small = counted.small;
  is = found.is ∙ ap (sums_and read_word found.sums) (is ∙ ap (reindex_and flag) counted.is);
  lines_are = found.lines_are;
}

-- ---- entries that were taken off a text

pub record HasTakenEntries (text : List ℕ) (count : ℕ) (rest : List ℕ) : Type 0 where
  pub entries : List (ℕ × List ℕ × List ℕ)
  pub small : HaveSmallNumbers entries
  pub counted : length entries ≡ count
  pub is : text ≡ lines_and entries rest
  pub short : length rest ≤ length text

pub no_entries_taken : (text : List ℕ) → HasTakenEntries text 0 text
no_entries_taken text = record { entries = []; small = tt; counted = refl; is = refl; short = omega arith }

entries_more : (es : List (ℕ × List ℕ × List ℕ)) (e : ℕ × List ℕ × List ℕ) → HaveSmallNumbers es → HasSmallNumbers e → HaveSmallNumbers (es ++ e ∷ [])
entries_more [] e h p = (p, tt)
entries_more (f ∷ es) e h p = (h.0, entries_more es e h.1 p)

entry_shorter : (text : List ℕ) (e : ℕ × List ℕ × List ℕ) (rest : List ℕ) → BeginsWithEntry text e rest → length rest < length text
entry_shorter text e rest h = omega (arith, simp length-append at (ap length h.is))

pub entry_taken : (text : List ℕ) (count : ℕ) (rest next : List ℕ) (e : ℕ × List ℕ × List ℕ) → HasTakenEntries text count rest → BeginsWithEntry rest e next → HasTakenEntries text (count + 1) next
entry_taken text count rest next e taken first = record {
  entries = taken.entries ++ e ∷ [];
  small = entries_more taken.entries e taken.small first.small;
  counted = omega (arith, taken.counted, length-append taken.entries (e ∷ []));
  is = taken.is ∙ (ap (lines_and taken.entries) first.is ∙ sym (lines_more taken.entries (e ∷ []) next));
  short = omega (arith, taken.short, entry_shorter rest e next first);
}

pub entries_taken : (text : List ℕ) (i count : ℕ) (rest lines : List ℕ) → HasTakenEntries text i rest → i ≡ count → lines ≡ take (length text - length rest) text → BeginsWithEntries text count lines rest
entries_taken text i count rest lines taken end front = record {
  entries = taken.entries;
  small = taken.small;
  counted = taken.counted ∙ end;
  is = taken.is;
  lines_are = front ∙ front_of text (lines_and taken.entries []) rest (taken.is ∙ sym (lines_then taken.entries [] rest));
}

no_more : (es fs : List (ℕ × List ℕ × List ℕ)) (r s : List ℕ) → HaveSmallNumbers es → HaveSmallNumbers fs → length es < length fs → BeginsWithNoEntry r → lines_and es r ≢ lines_and fs s
no_more es [] r s he hf fewer h same = omega (arith, fewer)
no_more [] (f ∷ fs) r s he hf fewer h same = h f (lines_and fs s) hf.0 same
no_more (e ∷ es) (f ∷ fs) r s he hf fewer h same =
    let one = entry_one e f (lines_and es r) (lines_and fs s) he.0 hf.0 same in
    no_more es fs r s he.1 hf.1 (omega (arith, fewer)) h one.rest

pub too_few_entries : (text : List ℕ) (i count : ℕ) (rest : List ℕ) → HasTakenEntries text i rest → i < count → BeginsWithNoEntry rest → BeginsWithFewer text count
too_few_entries text i count rest taken fewer none entries more small long e =
    no_more taken.entries entries rest more taken.small small (omega (arith, taken.counted, long, fewer)) none (sym taken.is ∙ e)

-- ---- the tail

pub tail_found : (text lines rest : List ℕ) → BeginsWithSums wrote_word text lines rest → rest ≡ end_line → IsTail text lines
tail_found text lines rest found last = record {
  sums = found.sums;
  are = found.are;
  is = found.is ∙ ap (sums_and wrote_word found.sums) last;
  lines_are = found.lines_are;
}

pub no_end : (text lines rest : List ℕ) → BeginsWithSums wrote_word text lines rest → rest ≢ end_line → IsNoTail text
no_end text lines rest found h sums are e = h (sums_one wrote_word found.sums sums rest end_line found.are are found.last no_sum_at_end (sym found.is ∙ e)).rest

-- ---- all parts

pub no_head : (text : List ℕ) → BeginsWithNoHead text → IsNotWhole text
no_head text h j whole e = h j.read j.reindex (length j.entries) _ whole.read whole.few e

pub no_lines : (text read rest : List ℕ) (flag : Bool) (count : ℕ) → BeginsWithHead text read flag count rest → BeginsWithFewer rest count → IsNotWhole text
no_lines text read rest flag count head h j whole e =
    let same = head_one head.sums j.read flag j.reindex count (length j.entries) rest _ head.are whole.read head.small whole.few (sym head.is ∙ e) in
    h j.entries _ whole.entries (sym same.count) same.rest

pub no_tail : (text read rest lines last : List ℕ) (flag : Bool) (count : ℕ) → BeginsWithHead text read flag count rest → BeginsWithEntries rest count lines last → IsNoTail last → IsNotWhole text
no_tail text read rest lines last flag count head found h j whole e =
    let same = head_one head.sums j.read flag j.reindex count (length j.entries) rest _ head.are whole.read head.small whole.few (sym head.is ∙ e) in
    let entries = entries_one found.entries j.entries last _ found.small whole.entries (found.counted ∙ same.count) (sym found.is ∙ same.rest) in
    h j.wrote whole.wrote entries.rest

pub all_parts : (text : List ℕ) (parts : JournalParts) (rest last : List ℕ) → BeginsWithHead text parts.read.now parts.reindex parts.count rest
    → BeginsWithEntries rest parts.count parts.entries.now last → IsTail last parts.wrote.now → IsCutInto text parts
all_parts text parts rest last head found tail = record {
  journal = record { read = head.sums; reindex = parts.reindex; entries = found.entries; wrote = tail.sums };
  whole = record { read = head.are; few = subst (λ (n : ℕ). n < 2 ^ 64) (sym found.counted) head.small; entries = found.small; wrote = tail.are };
  text_is = head.is ∙ (λ i. head_and head.sums parts.reindex (sym found.counted i) ((found.is ∙ ap (lines_and found.entries) tail.is) i));
  read = head.lines_are;
  reindex = refl;
  count = sym found.counted;
  entries = found.lines_are;
  wrote = tail.lines_are;
}
