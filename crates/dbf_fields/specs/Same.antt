-- When two values are the same.
use Rattle.std.specs.Prelude.{◌≡◌, Bool, true, false, not, ◌&&◌, ◌==◌, bytes_eq, if◌then◌else◌}
use Rattle.std.proofs.Common.{refl, sym, ap}
use Rattle.std.specs.Bool.{Decides}
use Rattle.std.specs.Ordering.{int_eq}
use Rattle.std.specs.Cmp.{IsEquivalence, IsPartialEquivalence, partial_equiv_from_equiv, both_ways}
use Rattle.std.proofs.lemmas.Bool.{false≢true}
use Rattle.std.specs.Coded.{le_prop}
use mathlib.Core.HLevel.{is_prop→PathP}
use Rattle.std.proofs.lemmas.Bool.Decides.{Decides-eqb, Decides-int_eq, Decides-and}
use Rattle.std.proofs.lemmas.Slice.Eq.{bytes_eq-Decides}
use Rattle.dbf_fields.specs.Day.{IsDay}
use Rattle.dbf_fields.specs.declared.day.Day.{Day}
use Rattle.dbf_fields.specs.declared.literal.Literal.{Literal}
use Rattle.dbf_fields.specs.declared.literal.Literal.TheVariants.{Text, Number, Truth, Date, BlankDate, BadDate}

-- the dates have the same year, month and day of the month
abbrev pub same_date : Day → Day → Bool
same_date a b = (a.year == b.year) && ((a.month == b.month) && (a.day == b.day))

-- when `==` calls two values the same: they are of one kind and keep the same
unfoldable pub same_literal : Literal → Literal → Bool
same_literal (Text a) (Text b) = bytes_eq a b
same_literal (Number a scale) (Number b other) = int_eq a b && (scale == other)
same_literal (Truth a) (Truth b) = if a then b else not b
same_literal (Date a) (Date b) = same_date a b
same_literal BlankDate BlankDate = true
same_literal BadDate BadDate = true
same_literal a b = false

-- ---- values that the test calls the same are one value

-- dates of the same year, month and day of the month are one date
pub same_day : (a b : Day) → a.year ≡ b.year → a.month ≡ b.month → a.day ≡ b.day → a ≡ b
same_day a b e f g = λ i. record {
  year = e i;
  month = f i;
  day = g i;
  real = is_prop→PathP (λ j. IsDay (e j) (f j) (g j)) (λ j. hlevel le_prop) a.real b.real i;
}

date_decides : (a b : Day) → Decides (same_date a b) (a ≡ b)
date_decides a b =
    let parts = Decides-and _ _ (Decides-eqb a.year b.year) (Decides-and _ _ (Decides-eqb a.month b.month) (Decides-eqb a.day b.day)) in
    (λ e. let p = parts.0 e in same_day a b p.0 p.1.0 p.1.1, λ e. parts.1 (ap (λ (d : Day). d.year) e, (ap (λ (d : Day). d.month) e, ap (λ (d : Day). d.day) e)))

truth_decides : (a b : Bool) → Decides (if a then b else not b) (a ≡ b)
truth_decides true true = (λ e. refl, λ e. refl)
truth_decides true false = (λ e. sym e, λ e. sym e)
truth_decides false true = (λ e. e, λ e. e)
truth_decides false false = (λ e. refl, λ e. refl)

-- the test is true exactly of equal values
pub literal_decides : (a b : Literal) → Decides (same_literal a b) (a ≡ b)
unfolding same_literal
literal_decides (Text a) (Text b) =
    let d = bytes_eq-Decides a b in (λ e. ap Text (d.0 e), λ e. let same : a ≡ b = cc in d.1 same)
literal_decides (Number a scale) (Number b other) =
    let d = Decides-and _ _ (Decides-int_eq a b) (Decides-eqb scale other) in
    (λ e. let p = d.0 e in λ i. Number (p.0 i) (p.1 i), λ e. let digits : a ≡ b = cc in let places : scale ≡ other = cc in d.1 (digits, places))
literal_decides (Truth a) (Truth b) =
    let d = truth_decides a b in (λ e. ap Truth (d.0 e), λ e. let same : a ≡ b = cc in d.1 same)
literal_decides (Date a) (Date b) =
    let d = date_decides a b in (λ e. ap Date (d.0 e), λ e. let same : a ≡ b = cc in d.1 same)
literal_decides BlankDate BlankDate = (λ e. refl, λ e. refl)
literal_decides BadDate BadDate = (λ e. refl, λ e. refl)
literal_decides a b = (λ e. absurd (false≢true e), λ e. absurd cc)

-- so it is an equivalence, as `==` has to be
pub literal_equivalence : IsEquivalence same_literal
literal_equivalence = record {
  refl = λ x. (literal_decides x x).1 refl;
  symm = λ x y. both_ways _ _ (λ e. (literal_decides y x).1 (sym ((literal_decides x y).0 e))) (λ e. (literal_decides x y).1 (sym ((literal_decides y x).0 e)));
  congr = λ x y z e. ap (λ (w : Literal). same_literal w z) ((literal_decides x y).0 e);
}

pub literal_partial : IsPartialEquivalence same_literal
literal_partial = partial_equiv_from_equiv literal_equivalence
