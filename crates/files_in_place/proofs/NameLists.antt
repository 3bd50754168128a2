-- Lists of names, as they are written and read.
use Rattle.std.proofs.Common.{◌≡◌, ◌≢◌, ℕ, zero, suc, ◌-◌, ◌/◌, ◌%◌, ◌<◌, ◌==◌, Bool, true, false, not, cond, List, [], ◌∷◌, ◌++◌, length, take, refl, sym, ◌∙◌, ap, arith, append_assoc}
use Rattle.std.proofs.lemmas.Bool.{and_parts, both_ways}
use Rattle.std.proofs.lemmas.Bool.Decides.{nat_tests}
use Rattle.std.proofs.lemmas.List.{length-append}
use Rattle.std.proofs.Math.Seq.{take-append_seam}
use Rattle.std.specs.Prelude.{codes}
use Rattle.std.specs.Char.{is_ascii_digit}
use Rattle.std.specs.Fmt.{decimal, digits, digits_onto, digit_glyph}
use Rattle.std.specs.List.{AllByRecursion, list_all}
use Rattle.files_in_place.specs.Folder.{Name, name_lines, end_line, list_bytes, onto_first, lines_of, names_of}

-- bytes at the front of the first line
abbrev pub before_first : List ℕ → List Name → List Name
before_first bytes [] = []
before_first bytes (name ∷ names) = (bytes ++ name) ∷ names

pub before_first-none : (names : List Name) → before_first [] names ≡ names
before_first-none [] = refl
before_first-none (name ∷ names) = refl

pub before_first-onto_first : (bytes : List ℕ) (b : ℕ) (names : List Name) → before_first bytes (onto_first b names) ≡ before_first (bytes ++ b ∷ []) names
before_first-onto_first bytes b [] = refl
before_first-onto_first bytes b (name ∷ names) = ap (λ (l : List ℕ). l ∷ names) (sym (append_assoc bytes (b ∷ []) name))

-- a line feed ends the first line
pub lines_of-end : (b : ℕ) (bytes : List ℕ) → b ≡ 10 → lines_of (b ∷ bytes) ≡ [] ∷ lines_of bytes
lines_of-end b bytes is = grind (arith, nat_tests)

pub lines_of-more : (b : ℕ) (bytes : List ℕ) → b ≢ 10 → lines_of (b ∷ bytes) ≡ onto_first b (lines_of bytes)
lines_of-more b bytes other = grind (arith, nat_tests)

-- a name without a line feed is the first line
first_line : (name rest : List ℕ) → AllByRecursion (λ b. b ≢ 10) name → lines_of (name ++ 10 ∷ rest) ≡ name ∷ lines_of rest
first_line [] rest one = lines_of-end 10 rest refl
first_line (b ∷ name) rest one = lines_of-more b (name ++ 10 ∷ rest) one.0 ∙ ap (onto_first b) (first_line name rest one.1)

lines_of-name_lines : (names : List Name) (rest : List ℕ) → AllByRecursion (AllByRecursion (λ b. b ≢ 10)) names → lines_of (name_lines names ++ rest) ≡ names ++ lines_of rest
lines_of-name_lines [] rest one = refl
lines_of-name_lines (name ∷ names) rest one =
    ap lines_of (append_assoc name (10 ∷ name_lines names) rest)
    ∙ first_line name (name_lines names ++ rest) one.0
    ∙ ap (λ (l : List Name). name ∷ l) (lines_of-name_lines names rest one.1)

-- ---- the line that ends a list

other_byte : (b : ℕ) → not (b == 10) ≡ true → b ≢ 10
other_byte b is same = absurd (both_ways false refl (sym (ap (λ x. not (x == 10)) same) ∙ is))

-- as a test says
tested_line : (bytes : List ℕ) → list_all (λ b. not (b == 10)) bytes ≡ true → AllByRecursion (λ b. b ≢ 10) bytes
tested_line [] is = tt
tested_line (b ∷ bytes) is =
    let parts = and_parts (not (b == 10)) (list_all (λ b. not (b == 10)) bytes) is in
    (other_byte b parts.0, tested_line bytes parts.1)

both_one : (front back : List ℕ) → AllByRecursion (λ b. b ≢ 10) front → AllByRecursion (λ b. b ≢ 10) back → AllByRecursion (λ b. b ≢ 10) (front ++ back)
both_one [] back one other = other
both_one (b ∷ front) back one other = (one.0, both_one front back one.1 other)

glyph_digit : (d : ℕ) → d < 10 → is_ascii_digit (digit_glyph false d) ≡ true
glyph_digit d small = grind (arith, nat_tests)

glyph_other : (d : ℕ) → d < 10 → digit_glyph false d ≢ 10
glyph_other d small same = absurd (both_ways false refl (sym (ap is_ascii_digit same) ∙ glyph_digit d small))

either_one : (ended : Bool) (now more : List ℕ) → AllByRecursion (λ b. b ≢ 10) now → AllByRecursion (λ b. b ≢ 10) more → AllByRecursion (λ b. b ≢ 10) (cond ended now more)
either_one true now more one other = one
either_one false now more one other = other

digits_one : (k n : ℕ) (text : List ℕ) → AllByRecursion (λ b. b ≢ 10) text → AllByRecursion (λ b. b ≢ 10) (digits_onto k 10 false n text)
digits_one zero n text one = one
digits_one (suc k) n text one =
    let more : AllByRecursion (λ b. b ≢ 10) (digit_glyph false (n % 10) ∷ text) = (glyph_other (n % 10) (omega arith), one) in
    either_one (n / 10 == 0) (digit_glyph false (n % 10) ∷ text) (digits_onto k 10 false (n / 10) (digit_glyph false (n % 10) ∷ text)) more
    (digits_one k (n / 10) (digit_glyph false (n % 10) ∷ text) more)

decimal_one : (n : ℕ) → AllByRecursion (λ b. b ≢ 10) (decimal n)
unfolding digits
decimal_one n = digits_one 64 n [] tt

-- it has no line feed
pub end_one : (count : ℕ) → AllByRecursion (λ b. b ≢ 10) (end_line count)
end_one count =
    both_one (codes "~niqarthu: ") (decimal count ++ codes " names") (tested_line (codes "~niqarthu: ") refl)
    (both_one (decimal count) (codes " names") (decimal_one count) (tested_line (codes " names") refl))

-- what is written of a list piece by piece
pub ended_list : (names : List Name) (lines end list whole : List ℕ) → lines ≡ name_lines names → end ≡ end_line (length names) → list ≡ lines ++ end → whole ≡ list ++ 10 ∷ []
    → whole ≡ list_bytes names
ended_list names lines end list whole written last more ended =
    ended
    ∙ ap (λ (l : List ℕ). l ++ 10 ∷ []) (more ∙ ap (λ (l : List ℕ). l ++ end) written ∙ ap (λ (l : List ℕ). name_lines names ++ l) last)
    ∙ append_assoc (name_lines names) (end_line (length names)) (10 ∷ [])

-- ---- what is read of a list

lines_of-list_bytes : (names : List Name) → AllByRecursion (AllByRecursion (λ b. b ≢ 10)) names → lines_of (list_bytes names) ≡ names ++ end_line (length names) ∷ []
lines_of-list_bytes names one =
    lines_of-name_lines names (end_line (length names) ++ 10 ∷ []) one
    ∙ ap (λ (l : List Name). names ++ l) (first_line (end_line (length names)) [] (end_one (length names)))

but_last : (names : List Name) (last : Name) → take (length (names ++ last ∷ []) - 1) (names ++ last ∷ []) ≡ names
but_last names last =
    let short : length (names ++ last ∷ []) - 1 ≡ length names = omega (arith, length-append names (last ∷ [])) in
    rw short (take-append_seam names (last ∷ []))

pub names_of-list_bytes : (names : List Name) → AllByRecursion (AllByRecursion (λ b. b ≢ 10)) names → names_of (list_bytes names) ≡ names
names_of-list_bytes names one =
    ap (λ (lines : List Name). take (length lines - 1) lines) (lines_of-list_bytes names one) ∙ but_last names (end_line (length names))
