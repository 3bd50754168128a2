-- Each part of a command is cut off whole.
use Rattle.std.proofs.Common.{◌≡◌, ℕ, suc, zero, List, [], ◌∷◌, ◌++◌, Bool, true, false, cond, ◌-◌, ◌≤◌, length, map, take, drop, Some, None, refl, ap, ◌∙◌, sym, arith}
use Rattle.std.specs.Prelude.{bytes_eq, slice_index}
use Rattle.std.specs.List.{list_all}
use Rattle.std.specs.Char.{is_ascii_digit, is_ascii_alphabetic, to_ascii_lowercase}
use Rattle.std.specs.Str.{str_eq_ignore_ascii_case}
use Rattle.std.proofs.lemmas.Bool.{false≢true, and_parts, and_from, and_left}
use Rattle.std.proofs.lemmas.Bool.Decides.{nat_tests}
use Rattle.std.proofs.lemmas.List.{take-append-drop, length-map}
use Rattle.std.proofs.lemmas.Slice.Eq.{bytes_eq-Decides}
use Rattle.dbf_fields.specs.Name.{is_name_char}
use Rattle.station_lines.specs.declared.script.format.TheConstants.{KEYWORD_LETTERS}
use Rattle.station_lines.specs.Script.Parts.{is_keyword, is_call, is_name_word, name_in, is_count, count_in}
use Rattle.station_lines.proofs.ScriptLaws.WordLaws.{is_solid, IsCutWord, solid_word}

-- in small letters
abbrev pub lower : List ℕ → List ℕ
lower text = map to_ascii_lowercase text

pub same_text : (a b : List ℕ) → bytes_eq a b ≡ true → a ≡ b
same_text a b e = (bytes_eq-Decides a b).0 e

pub solid_lower : (c : ℕ) → is_solid (to_ascii_lowercase c) ≡ is_solid c
solid_lower c = grind (arith, nat_tests)

pub all_lower : (p : ℕ → Bool) → ((c : ℕ) → p (to_ascii_lowercase c) ≡ p c) → (text : List ℕ) → list_all p (lower text) ≡ list_all p text
all_lower p same [] = refl
all_lower p same (b ∷ bs) = rw (same b, all_lower p same bs) refl

pub all_front : (p : ℕ → Bool) (n : ℕ) (xs : List ℕ) → list_all p xs ≡ true → list_all p (take n xs) ≡ true
all_front p zero [] h = refl
all_front p zero (x ∷ xs) h = refl
all_front p (suc n) [] h = refl
all_front p (suc n) (x ∷ xs) h = let q = and_parts (p x) (list_all p xs) h in and_from (p x) (list_all p (take n xs)) q.0 (all_front p n xs q.1)

pub all_both : (p : ℕ → Bool) (xs ys : List ℕ) → list_all p xs ≡ true → list_all p ys ≡ true → list_all p (xs ++ ys) ≡ true
all_both p [] ys h g = g
all_both p (x ∷ xs) ys h g = let q = and_parts (p x) (list_all p xs) h in and_from (p x) (list_all p (xs ++ ys)) q.0 (all_both p xs ys q.1 g)

-- a text that is another in any case has none of the bytes that the other lacks
pub like : (p : ℕ → Bool) → ((c : ℕ) → p (to_ascii_lowercase c) ≡ p c) → (a b : List ℕ)
    → str_eq_ignore_ascii_case a b ≡ true → list_all p b ≡ true → list_all p a ≡ true
like p same a b e h =
    let one : lower a ≡ lower b = same_text (lower a) (lower b) e in
    sym (all_lower p same a) ∙ (ap (list_all p) one ∙ (all_lower p same b ∙ h))

pub same_length : (a b : List ℕ) → str_eq_ignore_ascii_case a b ≡ true → length a ≡ length b
same_length a b e =
    let one : lower a ≡ lower b = same_text (lower a) (lower b) e in
    sym (length-map a to_ascii_lowercase) ∙ (ap length one ∙ length-map b to_ascii_lowercase)

word_of_solid : (word : List ℕ) → 1 ≤ length word → list_all is_solid word ≡ true → IsCutWord word
word_of_solid [] some h = absurd (omega (arith, some))
word_of_solid (b ∷ bs) some h = solid_word b bs h

pub call_word : (f word : List ℕ) → 1 ≤ length f → list_all is_solid f ≡ true → is_call f word ≡ true → IsCutWord word
call_word f word some solid e =
    let long = same_length word f e in
    word_of_solid word (omega (arith, some, long)) (like is_solid solid_lower word f e solid)

front_some : (n : ℕ) (xs : List ℕ) → 1 ≤ length (take n xs) → 1 ≤ length xs
front_some zero [] h = h
front_some zero (x ∷ xs) h = omega arith
front_some (suc n) [] h = h
front_some (suc n) (x ∷ xs) h = omega arith

-- a keyword in any case is solid
pub keyword_solid : (k word : List ℕ) → list_all is_solid (take KEYWORD_LETTERS k) ≡ true → list_all is_solid (drop KEYWORD_LETTERS k) ≡ true
    → is_keyword k word ≡ true → list_all is_solid word ≡ true
keyword_solid k word first others e =
    let p = and_parts (str_eq_ignore_ascii_case (take KEYWORD_LETTERS word) (take KEYWORD_LETTERS k)) _ e in
    let front = like is_solid solid_lower (take KEYWORD_LETTERS word) (take KEYWORD_LETTERS k) p.0 first in
    let back = like is_solid solid_lower (drop KEYWORD_LETTERS word) (take (length word - KEYWORD_LETTERS) (drop KEYWORD_LETTERS k)) p.1 (all_front is_solid (length word - KEYWORD_LETTERS) (drop KEYWORD_LETTERS k) others) in
    let all = all_both is_solid (take KEYWORD_LETTERS word) (drop KEYWORD_LETTERS word) front back in
    rw (take-append-drop KEYWORD_LETTERS word) at all

pub keyword_word : (k word : List ℕ) → 1 ≤ length (take KEYWORD_LETTERS k) → list_all is_solid (take KEYWORD_LETTERS k) ≡ true → list_all is_solid (drop KEYWORD_LETTERS k) ≡ true
    → is_keyword k word ≡ true → IsCutWord word
keyword_word k word some first others e =
    let p = and_parts (str_eq_ignore_ascii_case (take KEYWORD_LETTERS word) (take KEYWORD_LETTERS k)) _ e in
    let long = same_length (take KEYWORD_LETTERS word) (take KEYWORD_LETTERS k) p.0 in
    word_of_solid word (front_some KEYWORD_LETTERS word (omega (arith, some, long))) (keyword_solid k word first others e)

-- what passes one test passes another
pub weaker : (p q : ℕ → Bool) → ((c : ℕ) → p c ≡ true → q c ≡ true) → (xs : List ℕ) → list_all p xs ≡ true → list_all q xs ≡ true
weaker p q imply [] h = refl
weaker p q imply (x ∷ xs) h = let r = and_parts (p x) (list_all p xs) h in and_from (q x) (list_all q xs) (imply x r.0) (weaker p q imply xs r.1)

solid_name : (c : ℕ) → is_name_char c ≡ true → is_solid c ≡ true
solid_name c h = grind (arith, nat_tests, h)

pub solid_digit : (c : ℕ) → is_ascii_digit c ≡ true → is_solid c ≡ true
solid_digit c h = grind (arith, nat_tests, h)

-- a keyword is no other one that begins with other letters
pub other_keyword : (k j word : List ℕ) → bytes_eq (lower (take KEYWORD_LETTERS k)) (lower (take KEYWORD_LETTERS j)) ≡ false → is_keyword k word ≡ true → is_keyword j word ≡ false
other_keyword k j word differ e =
    let p = and_parts (str_eq_ignore_ascii_case (take KEYWORD_LETTERS word) (take KEYWORD_LETTERS k)) _ e in
    let head : lower (take KEYWORD_LETTERS word) ≡ lower (take KEYWORD_LETTERS k) = same_text _ _ p.0 in
    and_left (str_eq_ignore_ascii_case (take KEYWORD_LETTERS word) (take KEYWORD_LETTERS j)) _ (ap (λ (xs : List ℕ). bytes_eq xs (lower (take KEYWORD_LETTERS j))) head ∙ differ)

pub tested : {X : Type 0} (q : Bool) (x y : X) → cond q (Some x) None ≡ Some y → (q ≡ true) × (x ≡ y)
tested true x y e = (refl, cc)
tested false x y e = absurd cc

pub name_solid : (word name : List ℕ) → name_in word ≡ Some name → list_all is_solid word ≡ true
name_solid word name e =
    let t = and_parts (is_ascii_alphabetic (slice_index word 0)) (list_all is_name_char word) (tested (is_name_word word) _ name e).0 in
    weaker is_name_char is_solid solid_name word t.1

pub name_word : (word name : List ℕ) → name_in word ≡ Some name → IsCutWord word
name_word [] name e = absurd (false≢true (tested (is_name_word []) [] name e).0)
name_word (b ∷ bs) name e = solid_word b bs (name_solid (b ∷ bs) name e)

pub digits_of : (word : List ℕ) (n : ℕ) → count_in word ≡ Some n → list_all is_ascii_digit word ≡ true
digits_of word n e = (and_parts _ (list_all is_ascii_digit word) (tested (is_count word) _ n e).0).1

pub count_word : (word : List ℕ) (n : ℕ) → count_in word ≡ Some n → IsCutWord word
count_word [] n e = absurd (false≢true (tested (is_count []) 0 n e).0)
count_word (b ∷ bs) n e = solid_word b bs (weaker is_ascii_digit is_solid solid_digit (b ∷ bs) (digits_of (b ∷ bs) n e))
