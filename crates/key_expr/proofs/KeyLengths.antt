-- The length of a key is fixed by the expression and the fields.
use Rattle.std.proofs.Common.{◌≡◌, ℕ, ◌-◌, ◌≤◌, Bool, true, false, cond, eqb, leb, List, [], ◌∷◌, ◌++◌, length, take, drop, replicate, get_or, Option, Some, None, refl, ◌∙◌, arith, zero, suc, length-append, length-drop, length-take-le}
use Rattle.std.specs.Prelude.{bytes_eq, codes, ℤ}
use Rattle.std.specs.Char.{to_ascii_uppercase}
use Rattle.std.proofs.lemmas.Bool.Decides.{nat_tests}
use Rattle.std.proofs.lemmas.List.{length-take, length-map, length-replicate}
use Rattle.std.proofs.lemmas.List.Sums.{sum_by-cons}
use Rattle.dbf_fields.specs.declared.field.Field.{Field}
use Rattle.dbf_fields.specs.Date.{is_date, blank_date, date_shown}
use Rattle.dbf_fields.specs.Field.{widths}
use Rattle.dbf_fields.specs.Number.{number}
use Rattle.dbf_fields.specs.NumberText.{number_text}
use Rattle.key_expr.specs.Grammar.{Expr, field, concat, upper, substr, str, dtoc}
use Rattle.key_expr.specs.Keys.{key, key_length, length_given, decimals_given}
use Rattle.dbf_fields.specs.Layout.{width_of}
use Rattle.dbf_fields.specs.Layout.{cells_of}
use Rattle.key_expr.specs.StrText.{text_in_width}
use Rattle.std.proofs.lemmas.Bool.{and_parts}
use Rattle.dbf_fields.specs.declared.format.TheConstants.{ASTERISK, BLANK}

fitted_if : (b : Bool) (n : ℕ) (text : List ℕ) → leb (length text) n ≡ b
    → length (cond b (replicate (n - length text) BLANK ++ text) (replicate n ASTERISK)) ≡ n
fitted_if false n text h = length-replicate {A = ℕ} n ASTERISK
fitted_if true n text h =
    let within : length text ≤ n = grind (arith, nat_tests, h) in
    simp (length-append, length-replicate) (omega (arith, within))

number_length : (o : Option ℤ) (n d : ℕ) → length {A = ℕ} (elim o [ None ↦ replicate n ASTERISK | Some v ↦ text_in_width n (number_text v d d) ]) ≡ n
number_length None n d = length-replicate {A = ℕ} n ASTERISK
number_length (Some v) n d = fitted_if (leb (length (number_text v d d)) n) n (number_text v d d) refl

-- a date has eight digits
date_eight : (cell : List ℕ) → is_date cell ≡ true → length cell ≡ 8
unfolding is_date
date_eight cell h = let first : eqb (length cell) 8 ≡ true = (and_parts _ _ h).0 in grind (arith, nat_tests, first)

date_length_if : (real blank : Bool) (bs : List ℕ) → (real ≡ true → length bs ≡ 8)
    → length (cond real (take 2 (drop 4 bs) ++ (47 ∷ (drop 6 bs ++ (47 ∷ take 2 (drop 2 bs))))) (cond blank (codes "  /  /  ") (codes "**/**/**"))) ≡ 8
date_length_if false true bs h = refl
date_length_if false false bs h = refl
date_length_if true blank bs h = let eight = h refl in simp (length-append, length-take, length-drop) (omega (arith, eight))

date_length : (bs : List ℕ) → length (date_shown bs) ≡ 8
date_length bs = date_length_if (is_date bs) (bytes_eq bs blank_date) bs (date_eight bs)

-- the length of each field
pub cell_length : (fields : List Field) (bytes : List ℕ) (i : ℕ) → widths fields ≤ length bytes
    → length (get_or (cells_of fields bytes) i []) ≡ width_of fields i
cell_length [] bytes i h = refl
cell_length (f ∷ fs) bytes zero h =
    let e = sum_by-cons (λ (g : Field). g.width) f fs in
    let within : f.width ≤ length bytes = omega (arith, h, e) in
    length-take-le f.width bytes within
cell_length (f ∷ fs) bytes (suc i) h =
    let e = sum_by-cons (λ (g : Field). g.width) f fs in
    let d = length-drop f.width bytes in
    let rest : widths fs ≤ length (drop f.width bytes) = omega (arith, h, e, d) in
    cell_length fs (drop f.width bytes) i rest

-- the length of each key
pub key_length_is : (fields : List Field) (bytes : List ℕ) (e : Expr) → widths fields ≤ length bytes
    → length (key (cells_of fields bytes) e) ≡ key_length fields e
key_length_is fields bytes (field i) h = cell_length fields bytes i h
key_length_is fields bytes (concat a b) h =
    let x = key_length_is fields bytes a h in
    let y = key_length_is fields bytes b h in
    simp length-append (omega (arith, x, y))
key_length_is fields bytes (upper a) h = length-map (key (cells_of fields bytes) a) to_ascii_uppercase ∙ key_length_is fields bytes a h
key_length_is fields bytes (substr a from count) h =
    let x = key_length_is fields bytes a h in
    simp (length-take, length-drop) (omega (arith, x))
key_length_is fields bytes (str i n d) h = number_length (number (get_or (cells_of fields bytes) i []) (decimals_given d)) (length_given n) (decimals_given d)
key_length_is fields bytes (dtoc i) h = date_length (get_or (cells_of fields bytes) i [])
