-- A journal's text is cut into what its lines show, in one way.
use Rattle.std.proofs.Common.{◌≡◌, ◌≢◌, ℕ, zero, suc, ◌+◌, ◌^◌, ◌<◌, ◌≤◌, Bool, true, false, not, cond, ◌==◌, ◌&&◌, ◌||◌, List, [], ◌∷◌, ◌++◌, length, get_or, take, drop, Some, None, refl, ap, ◌∙◌, sym, subst, arith, rules}
use Rattle.std.specs.Prelude.{Ok, Err}
use Rattle.std.specs.List.{list_all, position, position_or_len}
use Rattle.std.specs.Char.{is_ascii_digit}
use Rattle.std.specs.Fmt.{decimal}
use Rattle.std.specs.Str.{IsUtf8}
use Rattle.std.specs.Str.Parse.{ParsesUnsigned, digits_value}
use Rattle.std.proofs.lemmas.Bool.{false≢true, and_parts, and_from}
use Rattle.std.proofs.lemmas.Bool.Decides.{nat_tests}
use Rattle.std.proofs.lemmas.Fmt.{decimal_digit, first_decimal, decimal-digits_value, IsAscii-decimal, parse-decimal}
use Rattle.std.proofs.lemmas.List.{length-append}
use Rattle.std.proofs.lemmas.Str.{IsUtf8-from_ascii}
use Rattle.std.proofs.lemmas.Str.Parse.{IsNumeralModel, numerals_by_value, parse_digits}
use Rattle.dbf_fields.specs.declared.format.TheConstants.{BLANK}
use Rattle.dbf_fields.specs.Digits.{digits_after}
use Rattle.station_lines.specs.declared.script.format.TheConstants.{LF}
use Rattle.station_lines.specs.JournalLines.{entry_and, lines_and, is_plain_number, HasSmallNumbers, HaveSmallNumbers, IsNoNumber, BeginsWithNumber, BeginsWithNoNumber, BeginsWithPart, BeginsWithNoPart, BeginsWithEntry, BeginsWithNoEntry}
use Rattle.station_lines.proofs.ScriptLaws.WordLaws.{same_byte}
use Rattle.station_lines.proofs.ScriptLaws.PartLaws.{weaker, tested}
use Rattle.station_lines.proofs.ScriptLaws.TextLaws.{CutAt, cut_first}
use Rattle.station_lines.proofs.CommandLaws.NumberLaws.{decimal_digits}

-- ---- numbers without zeros before other digits

own : IsNumeralModel (λ ds. list_all is_ascii_digit ds ≡ true) (digits_value 10)
own = numerals_by_value _ (search rules)

record IsPlain (text : List ℕ) : Type 0 where
  some : 0 < length text
  lead : get_or text 0 0 ≡ 48 → length text ≡ 1
  digits : list_all is_ascii_digit text ≡ true

plain_some : (n : ℕ) → not (n == 0) ≡ true → 0 < n
plain_some n h = grind (arith, nat_tests)

plain_lead : (n d : ℕ) → ((n == 1) || not (d == 48)) ≡ true → d ≡ 48 → n ≡ 1
plain_lead n d h e = grind (arith, nat_tests)

plain_parts : (text : List ℕ) → is_plain_number text ≡ true → IsPlain text
plain_parts text h =
    let p = and_parts (not (length text == 0) && ((length text == 1) || not (get_or text 0 0 == 48))) (list_all is_ascii_digit text) h in
    let q = and_parts (not (length text == 0)) ((length text == 1) || not (get_or text 0 0 == 48)) p.0 in
    record { some = plain_some (length text) q.0; lead = plain_lead (length text) (get_or text 0 0) q.1; digits = p.1 }

from_some : (n : ℕ) → 0 < n → not (n == 0) ≡ true
from_some n h = grind (arith, nat_tests)

from_lead : (n d : ℕ) → (d ≡ 48 → n ≡ 1) → ((n == 1) || not (d == 48)) ≡ true
from_lead n d h = grind (arith, nat_tests)

plain_from : (text : List ℕ) → IsPlain text → is_plain_number text ≡ true
plain_from text p =
    and_from (not (length text == 0) && ((length text == 1) || not (get_or text 0 0 == 48))) (list_all is_ascii_digit text)
    (and_from (not (length text == 0)) ((length text == 1) || not (get_or text 0 0 == 48)) (from_some (length text) p.some) (from_lead (length text) (get_or text 0 0) p.lead))
    p.digits

decimal_lead : (n : ℕ) → n < 2 ^ 64 → get_or (decimal n) 0 0 ≡ 48 → length (decimal n) ≡ 1
decimal_lead zero small e = ap length (decimal_digit 0 (omega arith))
decimal_lead (suc n) small e = absurd (omega (arith, e, first_decimal (suc n) (omega arith) small))

decimal_plain : (n : ℕ) → n < 2 ^ 64 → is_plain_number (decimal n) ≡ true
decimal_plain n small =
    let d = decimal_digits n small in
    plain_from (decimal n) (record { some = d.some; lead = decimal_lead n small; digits = d.digits })

pub not_plain : (text : List ℕ) → is_plain_number text ≡ false → IsNoNumber text
not_plain text h n small e = false≢true (sym h ∙ (ap is_plain_number e ∙ decimal_plain n small))

pub not_utf8 : (text : List ℕ) → (IsUtf8 text → ⊥) → IsNoNumber text
not_utf8 text h n small e = h (subst IsUtf8 (sym e) (IsUtf8-from_ascii (decimal n) (IsAscii-decimal n small)))

pub parsed : (E : Type 0) (text : List ℕ) (n : ℕ) → is_plain_number text ≡ true → ParsesUnsigned {E = E} 64 10 text (Ok n) → text ≡ decimal n
parsed E text n h p =
    let is = plain_parts text h in
    let r = parse_digits own {E = E} 64 text (Ok n) p is.digits in
    sym (ap decimal r.1 ∙ decimal-digits_value own text is.digits is.some is.lead r.0.1)

pub not_parsed : {E : Type 0} (text : List ℕ) (e : E) → ParsesUnsigned 64 10 text (Err e) → IsNoNumber text
not_parsed text e p n small same = let no = parse-decimal 64 n text (Err e) small small same p in absurd cc

-- ---- a number and the blank after it

pub record IsSameCut (a b r s : List ℕ) : Type 0 where
  pub part : a ≡ b
  pub rest : r ≡ s

-- no byte of the text is this one
abbrev pub lacks : ℕ → List ℕ → Bool
lacks c text = list_all (λ b. not (b == c)) text

itself : (c b : ℕ) → c ≡ b → not (b == c) ≡ true → ⊥
itself c b e h = false≢true (sym (ap not (same_byte c)) ∙ subst (λ (x : ℕ). not (x == c) ≡ true) (sym e) h)

head_is : (x y : ℕ) (xs ys : List ℕ) → x ∷ xs ≡ y ∷ ys → x ≡ y
head_is x y xs ys e = cc

pub tail_is : (x y : ℕ) (xs ys : List ℕ) → x ∷ xs ≡ y ∷ ys → xs ≡ ys
tail_is x y xs ys e = cc

more_same : (x y : ℕ) (a b r s : List ℕ) → x ≡ y → IsSameCut a b r s → IsSameCut (x ∷ a) (y ∷ b) r s
more_same x y a b r s e h = record { part = (λ i. e i ∷ h.part i); rest = h.rest }

pub cut_at_byte : (c : ℕ) (a b r s : List ℕ) → lacks c a ≡ true → lacks c b ≡ true → a ++ (c ∷ r) ≡ b ++ (c ∷ s) → IsSameCut a b r s
cut_at_byte c [] [] r s h g e = record { part = refl; rest = tail_is c c r s e }
cut_at_byte c [] (y ∷ b) r s h g e = absurd (itself c y (head_is c y r (b ++ (c ∷ s)) e) (and_parts (not (y == c)) (lacks c b) g).0)
cut_at_byte c (x ∷ a) [] r s h g e = absurd (itself c x (sym (head_is x c (a ++ (c ∷ r)) s e)) (and_parts (not (x == c)) (lacks c a) h).0)
cut_at_byte c (x ∷ a) (y ∷ b) r s h g e =
    more_same x y a b r s (head_is x y (a ++ (c ∷ r)) (b ++ (c ∷ s)) e)
    (cut_at_byte c a b r s (and_parts (not (x == c)) (lacks c a) h).1 (and_parts (not (y == c)) (lacks c b) g).1 (tail_is x y (a ++ (c ∷ r)) (b ++ (c ∷ s)) e))

digit_no_blank : (d : ℕ) → is_ascii_digit d ≡ true → not (d == BLANK) ≡ true
digit_no_blank d h = grind (arith, nat_tests)

decimal_lacks : (n : ℕ) → n < 2 ^ 64 → lacks BLANK (decimal n) ≡ true
decimal_lacks n small = weaker is_ascii_digit (λ b. not (b == BLANK)) digit_no_blank (decimal n) (decimal_digits n small).digits

pub record IsSameNumber (m n : ℕ) (r s : List ℕ) : Type 0 where
  pub number : m ≡ n
  pub rest : r ≡ s

-- a number and the blank after it are cut off in one way
pub cut_number_one : (m n : ℕ) (r s : List ℕ) → m < 2 ^ 64 → n < 2 ^ 64 → decimal m ++ (BLANK ∷ r) ≡ decimal n ++ (BLANK ∷ s) → IsSameNumber m n r s
cut_number_one m n r s hm hn e =
    let dm = decimal_digits m hm in
    let dn = decimal_digits n hn in
    let same = cut_at_byte BLANK (decimal m) (decimal n) r s (decimal_lacks m hm) (decimal_lacks n hn) e in
    record { number = sym dm.number ∙ (ap (digits_after 0) same.part ∙ dn.number); rest = same.rest }

below : (q : Bool) (n m : ℕ) → n < m → cond (not q) (1 + n) 0 < suc m
below true n m h = omega arith
below false n m h = omega arith

-- a byte that stands in a text is found
stands_in : (c : ℕ) (a r : List ℕ) → position_or_len (λ b. b == c) (a ++ (c ∷ r)) < length (a ++ (c ∷ r))
stands_in c [] r = rw (same_byte c) (omega arith)
stands_in c (x ∷ a) r = below (x == c) (position_or_len (λ b. b == c) (a ++ (c ∷ r))) (length (a ++ (c ∷ r))) (stands_in c a r)

not_found : (b : Bool) (n : ℕ) → cond b (Some n) None ≡ None → b ≡ false
not_found true n e = absurd cc
not_found false n e = refl

-- where a byte is found nowhere the text has no part before it
pub no_byte : (c : ℕ) (text : List ℕ) → position (λ b. b == c) text ≡ None → (part rest : List ℕ) → text ≢ part ++ (c ∷ rest)
no_byte c text none part rest e =
    let here : position_or_len (λ b. b == c) text < length text = subst (λ (xs : List ℕ). position_or_len (λ b. b == c) xs < length xs) (sym e) (stands_in c part rest) in
    let no = not_found _ (position_or_len (λ b. b == c) text) none in
    grind (arith, nat_tests, here, no)

pub no_blank : (text : List ℕ) → position (λ b. b == BLANK) text ≡ None → BeginsWithNoNumber text
no_blank text none n rest small e = no_byte BLANK text none (decimal n) rest e

pub first_byte : (c : ℕ) (text : List ℕ) (end : ℕ) → position (λ b. b == c) text ≡ Some end → CutAt c text end
first_byte c text end e =
    let at = tested _ (position_or_len (λ b. b == c) text) end e in
    subst (λ (n : ℕ). CutAt c text n) at.1 (cut_first c text (grind (arith, nat_tests, at.0)))

first_blank : (text : List ℕ) (end : ℕ) → position (λ b. b == BLANK) text ≡ Some end → CutAt BLANK text end
first_blank text end e = first_byte BLANK text end e

pub number_first : (text digits rest : List ℕ) (end n : ℕ) → position (λ b. b == BLANK) text ≡ Some end → digits ≡ take end text → rest ≡ drop (end + 1) text → digits ≡ decimal n → n < 2 ^ 64 → BeginsWithNumber text n rest
number_first text digits rest end n found front back is small =
    let c = first_blank text end found in
    let next : drop (suc end) text ≡ rest = ap (λ (k : ℕ). drop k text) (let e : suc end ≡ end + 1 = omega arith in e) ∙ sym back in
    let number : take end text ≡ decimal n = sym front ∙ is in
    record {
      is = c.whole ∙ (λ i. number i ++ (BLANK ∷ next i));
      small = small;
    }

pub no_number : (text digits : List ℕ) (end : ℕ) → position (λ b. b == BLANK) text ≡ Some end → digits ≡ take end text → IsNoNumber digits → BeginsWithNoNumber text
no_number text digits end found front h n rest small e =
    let c = first_blank text end found in
    let same = cut_at_byte BLANK (take end text) (decimal n) (drop (suc end) text) rest c.before (decimal_lacks n small) (sym c.whole ∙ e) in
    h n small (front ∙ same.part)

-- ---- a part of as many bytes

-- a part of as many bytes is cut off in one way
pub cut_part_one : (a b r s : List ℕ) → length a ≡ length b → a ++ r ≡ b ++ s → IsSameCut a b r s
cut_part_one [] [] r s long e = record { part = refl; rest = e }
cut_part_one [] (y ∷ b) r s long e = absurd (omega (arith, long))
cut_part_one (x ∷ a) [] r s long e = absurd (omega (arith, long))
cut_part_one (x ∷ a) (y ∷ b) r s long e =
    more_same x y a b r s (head_is x y (a ++ r) (b ++ s) e) (cut_part_one a b r s (omega (arith, long)) (tail_is x y (a ++ r) (b ++ s) e))

pub too_few : (text : List ℕ) (count end : ℕ) → length text ≤ count → BeginsWithNoPart text count end
too_few text count end few part rest long e = omega (arith, few, long, ap length e, length-append part (end ∷ rest))

after_part : (part rest : List ℕ) (end : ℕ) → get_or (part ++ (end ∷ rest)) (length part) 0 ≡ end
after_part [] rest end = refl
after_part (x ∷ part) rest end = after_part part rest end

pub other_end : (text : List ℕ) (count end : ℕ) → get_or text count 0 ≢ end → BeginsWithNoPart text count end
other_end text count end other part rest long e = other ((λ i. get_or (e i) (sym long i) 0) ∙ after_part part rest end)

part_and : (text : List ℕ) (count : ℕ) → count < length text → text ≡ take count text ++ (get_or text count 0 ∷ drop (suc count) text)
part_and [] count h = absurd (omega (arith, h))
part_and (x ∷ xs) zero h = refl
part_and (x ∷ xs) (suc count) h = ap (λ (ys : List ℕ). x ∷ ys) (part_and xs count (omega (arith, h)))

part_length : (text : List ℕ) (count : ℕ) → count < length text → length (take count text) ≡ count
part_length [] count h = absurd (omega (arith, h))
part_length (x ∷ xs) zero h = refl
part_length (x ∷ xs) (suc count) h = ap suc (part_length xs count (omega (arith, h)))

pub part_first : (text : List ℕ) (count end : ℕ) → count < length text → get_or text count 0 ≡ end → BeginsWithPart text count end (take count text) (drop (count + 1) text)
part_first text count end inside is =
    let next : suc count ≡ count + 1 = omega arith in
    record {
      is = part_and text count inside ∙ (λ i. take count text ++ (is i ∷ drop (next i) text));
      long = part_length text count inside;
    }

-- ---- one entry

pub record IsSameEntry (e f : ℕ × List ℕ × List ℕ) (r s : List ℕ) : Type 0 where
  pub entry : e ≡ f
  pub rest : r ≡ s

-- what stands after the numbers
abbrev texts_and : List ℕ → List ℕ → List ℕ → List ℕ
texts_and command answer rest = command ++ (BLANK ∷ (answer ++ (LF ∷ rest)))

texts_one : (a b c d r s : List ℕ) → length a ≡ length c → length b ≡ length d → texts_and a b r ≡ texts_and c d s → (a ≡ c) × (b ≡ d) × (r ≡ s)
texts_one a b c d r s la lb e =
    let first = cut_part_one a c (BLANK ∷ (b ++ (LF ∷ r))) (BLANK ∷ (d ++ (LF ∷ s))) la e in
    let second = cut_part_one b d (LF ∷ r) (LF ∷ s) lb (tail_is BLANK BLANK (b ++ (LF ∷ r)) (d ++ (LF ∷ s)) first.rest) in
    (first.part, second.part, tail_is LF LF r s second.rest)

pub entry_one : (e f : ℕ × List ℕ × List ℕ) (r s : List ℕ) → HasSmallNumbers e → HasSmallNumbers f → entry_and e r ≡ entry_and f s → IsSameEntry e f r s
entry_one e f r s he hf same =
    let station = cut_number_one e.0 f.0 _ _ he.0 hf.0 same in
    let command = cut_number_one (length e.1) (length f.1) _ _ he.1 hf.1 station.rest in
    let answer = cut_number_one (length e.2) (length f.2) _ _ he.2 hf.2 command.rest in
    let texts = texts_one e.1 e.2 f.1 f.2 r s command.number answer.number answer.rest in
    record { entry = (λ i. (station.number i, texts.0 i, texts.1 i)); rest = texts.2 }

-- an entry's numbers are no greater than its text is long
pub entry_small : (text : List ℕ) (e : ℕ × List ℕ × List ℕ) (rest : List ℕ) → text ≡ entry_and e rest → length text < 2 ^ 64 → e.0 < 2 ^ 64 → HasSmallNumbers e
entry_small text e rest is long small =
    let t4 = e.2 ++ (LF ∷ rest) in
    let t3 = e.1 ++ (BLANK ∷ t4) in
    let t2 = decimal (length e.2) ++ (BLANK ∷ t3) in
    let t1 = decimal (length e.1) ++ (BLANK ∷ t2) in
    let whole = ap length is in
    let l0 = length-append (decimal e.0) (BLANK ∷ t1) in
    let l1 = length-append (decimal (length e.1)) (BLANK ∷ t2) in
    let l2 = length-append (decimal (length e.2)) (BLANK ∷ t3) in
    let l3 = length-append e.1 (BLANK ∷ t4) in
    let l4 = length-append e.2 (LF ∷ rest) in
    (small, omega (arith, whole, l0, l1, l2, l3, l4), omega (arith, whole, l0, l1, l2, l3, l4))

-- an entry's line has bytes
no_entry_in_nothing : (ds rest : List ℕ) → [] ≡ ds ++ (BLANK ∷ rest) → ⊥
no_entry_in_nothing [] rest e = absurd cc
no_entry_in_nothing (d ∷ ds) rest e = absurd cc

-- the lines are those of these entries alone
pub lines_one : (a b : List (ℕ × List ℕ × List ℕ)) → HaveSmallNumbers a → HaveSmallNumbers b → lines_and a [] ≡ lines_and b [] → a ≡ b
lines_one [] [] ha hb e = refl
lines_one [] (f ∷ fs) ha hb e = absurd (no_entry_in_nothing (decimal f.0) _ e)
lines_one (e ∷ es) [] ha hb same = absurd (no_entry_in_nothing (decimal e.0) _ (sym same))
lines_one (e ∷ es) (f ∷ fs) ha hb same =
    let one = entry_one e f (lines_and es []) (lines_and fs []) ha.0 hb.0 same in
    let more = lines_one es fs ha.1 hb.1 one.rest in
    λ i. one.entry i ∷ more i

-- ---- what is cut off, and what can't be

same_number : (text : List ℕ) (m n : ℕ) (r s : List ℕ) → BeginsWithNumber text m r → n < 2 ^ 64 → text ≡ decimal n ++ (BLANK ∷ s) → IsSameNumber m n r s
same_number text m n r s h small e = cut_number_one m n r s h.small small (sym h.is ∙ e)

pub no_station : (text : List ℕ) → BeginsWithNoNumber text → BeginsWithNoEntry text
no_station text h entry rest small e = h entry.0 _ small.0 e

pub no_command_count : (text r : List ℕ) (n : ℕ) → BeginsWithNumber text n r → BeginsWithNoNumber r → BeginsWithNoEntry text
no_command_count text r n first h entry rest small e =
    let a = same_number text n entry.0 r _ first small.0 e in
    h (length entry.1) _ small.1 a.rest

pub no_answer_count : (text r s : List ℕ) (n m : ℕ) → BeginsWithNumber text n r → BeginsWithNumber r m s → BeginsWithNoNumber s → BeginsWithNoEntry text
no_answer_count text r s n m first second h entry rest small e =
    let a = same_number text n entry.0 r _ first small.0 e in
    let b = same_number r m (length entry.1) s _ second small.1 a.rest in
    h (length entry.2) _ small.2 b.rest

pub no_command : (text r s t : List ℕ) (n m k : ℕ) → BeginsWithNumber text n r → BeginsWithNumber r m s → BeginsWithNumber s k t → BeginsWithNoPart t m BLANK → BeginsWithNoEntry text
no_command text r s t n m k first second third h entry rest small e =
    let a = same_number text n entry.0 r _ first small.0 e in
    let b = same_number r m (length entry.1) s _ second small.1 a.rest in
    let c = same_number s k (length entry.2) t _ third small.2 b.rest in
    h entry.1 _ (sym b.number) c.rest

pub no_answer : (text r s t u command : List ℕ) (n m k : ℕ) → BeginsWithNumber text n r → BeginsWithNumber r m s → BeginsWithNumber s k t → BeginsWithPart t m BLANK command u → BeginsWithNoPart u k LF → BeginsWithNoEntry text
no_answer text r s t u command n m k first second third fourth h entry rest small e =
    let a = same_number text n entry.0 r _ first small.0 e in
    let b = same_number r m (length entry.1) s _ second small.1 a.rest in
    let c = same_number s k (length entry.2) t _ third small.2 b.rest in
    let d = cut_part_one command entry.1 (BLANK ∷ u) (BLANK ∷ (entry.2 ++ (LF ∷ rest))) (fourth.long ∙ b.number) (sym fourth.is ∙ c.rest) in
    h entry.2 rest (sym c.number) (tail_is BLANK BLANK u (entry.2 ++ (LF ∷ rest)) d.rest)

pub entry_first : (text r s t u v command answer : List ℕ) (n m k : ℕ) → BeginsWithNumber text n r → BeginsWithNumber r m s → BeginsWithNumber s k t
    → BeginsWithPart t m BLANK command u → BeginsWithPart u k LF answer v → BeginsWithEntry text (n, command, answer) v
entry_first text r s t u v command answer n m k first second third fourth fifth =
    let last : t ≡ command ++ (BLANK ∷ (answer ++ (LF ∷ v))) = fourth.is ∙ ap (λ (xs : List ℕ). command ++ (BLANK ∷ xs)) fifth.is in
    let third_is : s ≡ decimal (length answer) ++ (BLANK ∷ (command ++ (BLANK ∷ (answer ++ (LF ∷ v)))))
    = third.is ∙ (λ i. decimal (sym fifth.long i) ++ (BLANK ∷ last i)) in
    let second_is : r ≡ decimal (length command) ++ (BLANK ∷ (decimal (length answer) ++ (BLANK ∷ (command ++ (BLANK ∷ (answer ++ (LF ∷ v)))))))
    = second.is ∙ (λ i. decimal (sym fourth.long i) ++ (BLANK ∷ third_is i)) in
    record {
      is = first.is ∙ ap (λ (xs : List ℕ). decimal n ++ (BLANK ∷ xs)) second_is;
      small = (first.small, subst (λ (x : ℕ). x < 2 ^ 64) (sym fourth.long) second.small, subst (λ (x : ℕ). x < 2 ^ 64) (sym fifth.long) third.small);
    }
