-- The numbers of a list in the parentheses of a call are found, and what is found are its numbers.
use Rattle.std.proofs.Common.{◌≡◌, ℕ, List, [], ◌∷◌, ◌++◌, Bool, true, false, not, cond, ◌==◌, ◌&&◌, ◌≤◌, length, take, drop, Option, Some, None, refl, ap, ◌∙◌, sym, arith}
use Rattle.std.specs.Prelude.{codes, map, is_some, IsSome}
use Rattle.std.specs.List.{list_all, slice_split, onto_first}
use Rattle.std.specs.Char.{is_ascii_digit}
use Rattle.std.specs.Str.{str_eq_ignore_ascii_case}
use Rattle.std.proofs.lemmas.Bool.{false≢true, and_parts, and_from}
use Rattle.std.proofs.lemmas.Bool.Decides.{nat_tests}
use Rattle.std.proofs.lemmas.List.{take-append-drop}
use Rattle.station_lines.specs.declared.script.format.TheConstants.{COMMA}
use Rattle.station_lines.specs.Script.Parts.{is_count, count_in, between_commas, AreCounts, IsListCall}
use Rattle.station_lines.specs.Script.Reading.{before_close, with_count, counts_in, number_or_zero, arguments_in}
use Rattle.station_lines.proofs.ScriptLaws.TextLaws.{chosen, guarded}
use Rattle.station_lines.proofs.ScriptLaws.LiteralLaws.{close_found, close_is}
use Rattle.station_lines.proofs.ScriptLaws.WordLaws.{is_solid, IsCutWord, take_front, drop_front, solid_word}
use Rattle.station_lines.proofs.ScriptLaws.PartLaws.{like, same_length, all_both, solid_lower, digits_of, solid_digit, tested}

pub counts_found : (parts : List (List ℕ)) (ns : List ℕ) → AreCounts parts ns → counts_in parts ≡ Some ns
counts_found [] [] h = refl
counts_found [] (n ∷ ns) h = absurd h
counts_found (part ∷ parts) [] h = absurd h
counts_found (part ∷ parts) (n ∷ ns) h = ap (λ (o : Option ℕ). with_count o (counts_in parts)) h.0 ∙ ap (with_count (Some n)) (counts_found parts ns h.1)

record IsWithCount (o : Option ℕ) (p : Option (List ℕ)) (n : ℕ) (ns : List ℕ) : Type 0 where
  first : o ≡ Some n
  others : p ≡ Some ns

with_count_is : (o : Option ℕ) (p : Option (List ℕ)) (n : ℕ) (ns : List ℕ) → with_count o p ≡ Some (n ∷ ns) → IsWithCount o p n ns
with_count_is None p n ns e = absurd cc
with_count_is (Some m) None n ns e = absurd cc
with_count_is (Some m) (Some ms) n ns e = record { first = cc; others = cc }

with_some : (o : Option ℕ) (p : Option (List ℕ)) → with_count o p ≡ Some [] → ⊥
with_some None p e = cc
with_some (Some m) None e = cc
with_some (Some m) (Some ms) e = cc

pub counts_are : (parts : List (List ℕ)) (ns : List ℕ) → counts_in parts ≡ Some ns → AreCounts parts ns
counts_are [] [] e = tt
counts_are [] (n ∷ ns) e = absurd cc
counts_are (part ∷ parts) [] e = absurd (with_some (count_in part) (counts_in parts) e)
counts_are (part ∷ parts) (n ∷ ns) e =
    let w = with_count_is (count_in part) (counts_in parts) n ns e in
    (w.first, counts_are parts ns w.others)

-- where each part is a number, these are the numbers; and else there are none
pub numbers_are : (parts : List (List ℕ)) → list_all (λ part. is_some (count_in part)) parts ≡ true → counts_in parts ≡ Some (map (λ part. number_or_zero (count_in part)) parts)
numbers_are [] all = refl
numbers_are (part ∷ parts) all =
    let both = and_parts (is_some (count_in part)) (list_all (λ p. is_some (count_in p)) parts) all in
    ap (with_count (count_in part)) (numbers_are parts both.1) ∙ front_number (count_in part) (map (λ p. number_or_zero (count_in p)) parts) both.0
  where
    front_number : (o : Option ℕ) (ns : List ℕ) → is_some o ≡ true → with_count o (Some ns) ≡ Some (number_or_zero o ∷ ns)
    front_number None ns e = absurd (false≢true e)
    front_number (Some n) ns e = refl

pub numbers_none : (parts : List (List ℕ)) → list_all (λ part. is_some (count_in part)) parts ≡ false → counts_in parts ≡ None
numbers_none [] all = absurd (false≢true (sym all))
numbers_none (part ∷ parts) all = none_front (count_in part) (counts_in parts) (list_all (λ p. is_some (count_in p)) parts) all (numbers_none parts)
  where
    none_front : (o : Option ℕ) (p : Option (List ℕ)) (q : Bool) → (is_some o && q) ≡ false → (q ≡ false → p ≡ None) → with_count o p ≡ None
    none_front None p q e h = refl
    none_front (Some n) p q e h = ap (with_count (Some n)) (h e)

pub numbers_some : (parts : List (List ℕ)) → list_all (λ part. is_some (count_in part)) parts ≡ true → IsSome (counts_in parts)
numbers_some parts all = ap is_some (numbers_are parts all)

-- the argument of a call is what stands between its name and the `)` at its end
pub arguments_found : (function name inside word : List ℕ) → word ≡ name ++ (inside ++ codes ")") → str_eq_ignore_ascii_case name function ≡ true → arguments_in function word ≡ Some inside
arguments_found function name inside word e like_it =
    let long = same_length name function like_it in
    let front : take (length function) word ≡ name = ap (take (length function)) e ∙ (ap (λ (n : ℕ). take n (name ++ (inside ++ codes ")"))) (sym long) ∙ take_front name (inside ++ codes ")")) in
    let back : drop (length function) word ≡ inside ++ codes ")" = ap (drop (length function)) e ∙ (ap (λ (n : ℕ). drop n (name ++ (inside ++ codes ")"))) (sym long) ∙ drop_front name (inside ++ codes ")")) in
    chosen (str_eq_ignore_ascii_case (take (length function) word) function) _ None (ap (λ (xs : List ℕ). str_eq_ignore_ascii_case xs function) front ∙ like_it)
    ∙ (ap before_close back ∙ close_found inside)

pub record IsCallOf (function word inside : List ℕ) : Type 0 where
  pub whole : word ≡ take (length function) word ++ (inside ++ codes ")")
  pub named : str_eq_ignore_ascii_case (take (length function) word) function ≡ true

pub arguments_are : (function word inside : List ℕ) → arguments_in function word ≡ Some inside → IsCallOf function word inside
arguments_are function word inside e =
    let g = guarded (str_eq_ignore_ascii_case (take (length function) word) function) (before_close (drop (length function) word)) inside e in
    record {
      whole = sym (take-append-drop (length function) word) ∙ ap (λ (xs : List ℕ). take (length function) word ++ xs) (close_is (drop (length function) word) inside g.1);
      named = g.0;
    }

pub list_is : (function word inside ns : List ℕ) → arguments_in function word ≡ Some inside → counts_in (between_commas inside) ≡ Some ns → IsListCall function word ns
list_is function word inside ns e f =
    let call = arguments_are function word inside e in
    (take (length function) word, inside, call.whole, call.named, counts_are (between_commas inside) ns f)

-- ---- a list is cut off whole

-- each part has digits alone
AreDigits : List (List ℕ) → Type 0
AreDigits [] = Unit {0}
AreDigits (part ∷ parts) = (list_all is_ascii_digit part ≡ true) × AreDigits parts

digits_listed : (parts : List (List ℕ)) (ns : List ℕ) → AreCounts parts ns → AreDigits parts
unfolding AreDigits
digits_listed [] [] h = tt
digits_listed [] (n ∷ ns) h = absurd h
digits_listed (part ∷ parts) [] h = absurd h
digits_listed (part ∷ parts) (n ∷ ns) h = (digits_of part n h.0, digits_listed parts ns h.1)

record IsFrontDigit (x : ℕ) (parts : List (List ℕ)) : Type 0 where
  front : is_ascii_digit x ≡ true
  others : AreDigits parts

front_digit : (x : ℕ) (parts : List (List ℕ)) → AreDigits (onto_first x parts) → IsFrontDigit x parts
unfolding AreDigits
front_digit x [] h = record { front = (and_parts (is_ascii_digit x) _ h.0).0; others = tt }
front_digit x (part ∷ parts) h =
    let p = and_parts (is_ascii_digit x) (list_all is_ascii_digit part) h.0 in
    record { front = p.0; others = (p.1, h.1) }

comma_solid : (x : ℕ) → (x == COMMA) ≡ true → is_solid x ≡ true
comma_solid x h = grind (arith, nat_tests, h)

solid_or : (x : ℕ) (xs : List ℕ) (q : Bool) → (x == COMMA) ≡ q → AreDigits (cond q ([] ∷ slice_split (λ b. b == COMMA) xs) (onto_first x (slice_split (λ b. b == COMMA) xs)))
    → (AreDigits (slice_split (λ b. b == COMMA) xs) → list_all is_solid xs ≡ true) → list_all is_solid (x ∷ xs) ≡ true
unfolding AreDigits
solid_or x xs true e h more = and_from (is_solid x) (list_all is_solid xs) (comma_solid x e) (more h.1)
solid_or x xs false e h more =
    let f = front_digit x (slice_split (λ b. b == COMMA) xs) h in
    and_from (is_solid x) (list_all is_solid xs) (solid_digit x f.front) (more f.others)

solid_list : (xs : List ℕ) → AreDigits (between_commas xs) → list_all is_solid xs ≡ true
solid_list [] h = refl
solid_list (x ∷ xs) h = solid_or x xs (x == COMMA) refl h (solid_list xs)

digit_first : (x : ℕ) (xs ns : List ℕ) (q : Bool) → AreCounts (cond q ([] ∷ slice_split (λ b. b == COMMA) xs) (onto_first x (slice_split (λ b. b == COMMA) xs))) ns → is_ascii_digit x ≡ true
digit_first x xs [] true h = absurd h
digit_first x xs (n ∷ ns) true h = absurd (false≢true (tested (is_count []) 0 n h.0).0)
digit_first x xs ns false h = (front_digit x (slice_split (λ b. b == COMMA) xs) (digits_listed (onto_first x (slice_split (λ b. b == COMMA) xs)) ns h)).front

-- there is a digit among numbers apart by commas
pub some_digit : (inside ns : List ℕ) → AreCounts (between_commas inside) ns → list_all (λ b. not (is_ascii_digit b)) inside ≡ true → ⊥
some_digit [] [] h none = h
some_digit [] (n ∷ ns) h none = false≢true (tested (is_count []) 0 n h.0).0
some_digit (x ∷ xs) ns h none = false≢true (sym (ap not (digit_first x xs ns (x == COMMA) h)) ∙ (and_parts (not (is_ascii_digit x)) _ none).0)

call_starts : (name rest : List ℕ) → 1 ≤ length name → list_all is_solid (name ++ rest) ≡ true → IsCutWord (name ++ rest)
call_starts [] rest some h = absurd (omega (arith, some))
call_starts (b ∷ bs) rest some h = solid_word b (bs ++ rest) h

pub list_word : (function word ns : List ℕ) → 1 ≤ length function → list_all is_solid function ≡ true → IsListCall function word ns → IsCutWord word
list_word function word ns some solid call =
    let name = like is_solid solid_lower call.0 function call.3 solid in
    let inside = solid_list call.1 (digits_listed (between_commas call.1) ns call.4) in
    let all = all_both is_solid call.0 (call.1 ++ codes ")") name (all_both is_solid call.1 (codes ")") inside refl) in
    rw call.2 (call_starts call.0 (call.1 ++ codes ")") (omega (arith, some, same_length call.0 function call.3)) all)
