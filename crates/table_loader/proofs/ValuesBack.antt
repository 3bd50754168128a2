-- The text of a cell says that cell again.
use Rattle.std.proofs.Common.{◌≡◌, ◌≤◌, ◌==◌, ◌≢◌, ◌∷◌, ◌∙◌, ◌⊎◌, [], ℕ, List, Bool, true, false, not, refl, sym, ap, arith, inl, inr, length, replicate}
use Rattle.std.specs.Prelude.{Ok, Result, nat_lt, ◌&&◌, if◌then◌else◌}
use Rattle.std.specs.List.{list_all}
use Rattle.std.specs.Char.{is_ascii_digit}
use Rattle.std.proofs.lemmas.Bool.{cases_Bool, eq-eqb, ne_eqb, eqb-true, and_parts, le-ltb}
use Rattle.std.proofs.lemmas.Bool.Decides.{nat_tests}
use Rattle.dbf_fields.specs.declared.field.Field.{Field}
use Rattle.dbf_fields.specs.declared.format.TheConstants.{BLANK, CHARACTER, DATE, LOGICAL, MAX_NUMBER_WIDTH, MEMO, NUMBER}
use Rattle.dbf_fields.specs.Date.{is_date}
use Rattle.dbf_fields.specs.Field.{has_width, is_kind}
use Rattle.dbf_fields.specs.Logical.{truth_text}
use Rattle.dbf_fields.specs.Number.{number, signed, trimmed}
use Rattle.dbf_image.specs.Table.{IsCell, is_memo_text}
use Rattle.table_text.specs.Csv.{csv_value}
use Rattle.table_text.specs.Shown.{trimmed_end}
use Rattle.table_loader.specs.declared.form.CsvForm.{CsvForm}
use Rattle.table_loader.specs.declared.form.DateForm.{DateForm}
use Rattle.table_loader.specs.declared.form.DateForm.TheVariants.{Digits}
use Rattle.table_loader.specs.Dates.{bytes_at}
use Rattle.table_loader.specs.ComingBack.{HasMeaning, IsDayCell, IsNumberCell, IsTruthCell}
use Rattle.table_loader.specs.Values.{date_value, number_value, text_value, value_of}
use Rattle.table_loader.specs.declared.fault.ValueFault.{ValueFault}
use Rattle.table_loader.proofs.BlankLaws.{blank_end, blank_trimmed, digits_end, digits_trimmed, end_again, end_short, end_twice, trimmed_short, trimmed_twice}

-- what is said where there is a text, and where there is none
abbrev pub blank_or : ℕ → List ℕ → Result (List ℕ) ValueFault → Result (List ℕ) ValueFault
blank_or width text said = if length text == 0 then Ok (replicate width BLANK) else said

-- a cell that is blank where its text is empty, and else is what the text says
blank_or_said : (width : ℕ) (cell text : List ℕ) (said : Result (List ℕ) ValueFault) → (text ≡ [] → cell ≡ replicate width BLANK)
    → (text ≢ [] → said ≡ Ok cell) → blank_or width text said ≡ Ok cell
blank_or_said width cell [] said empty full = ap Ok (sym (empty refl))
blank_or_said width cell (b ∷ bs) said empty full =
    let some : (length (b ∷ bs) == 0) ≡ false = ne_eqb (length (b ∷ bs)) 0 (λ e. omega (arith, e)) in
    rw some (full (λ e. cc))

-- ---- kind by kind

nothing_cut : (cut : Bool) → (not cut && false) ≡ false
nothing_cut true = refl
nothing_cut false = refl

text_back : (cut : Bool) (width : ℕ) (cell : List ℕ) → length cell ≡ width → text_value cut width (trimmed_end cell) ≡ Ok cell
text_back cut width cell long =
    let short : nat_lt width (length (trimmed_end (trimmed_end cell))) ≡ false =
    le-ltb width (length (trimmed_end (trimmed_end cell))) (omega (arith, ap length (end_twice cell), end_short cell, long)) in
    rw (short, nothing_cut cut) (ap Ok (end_again width cell long))

pub number_again : (cell : List ℕ) (decimals : ℕ) → number (trimmed cell) decimals ≡ number cell decimals
unfolding number
number_again cell decimals = ap (λ (text : List ℕ). signed text decimals) (trimmed_twice cell)

number_back : (f : Field) (cell : List ℕ) → length cell ≡ f.width → f.width ≤ MAX_NUMBER_WIDTH → IsNumberCell f cell → trimmed cell ≢ [] → number_value f (trimmed cell) ≡ Ok cell
unfolding number_value
number_back f cell long narrow (inl blank) full = absurd (full blank)
number_back f cell long narrow (inr kept) full =
    let short : nat_lt MAX_NUMBER_WIDTH (length (trimmed cell)) ≡ false = le-ltb MAX_NUMBER_WIDTH (length (trimmed cell)) (omega (arith, trimmed_short cell, long, narrow)) in
    rw (short, number_again cell f.decimals, kept) refl

date_digits_of : (cell : List ℕ) → is_date cell ≡ true → list_all is_ascii_digit cell ≡ true
unfolding is_date
date_digits_of cell real = (and_parts _ _ (and_parts _ _ real).1).0

eight_digits : (cell : List ℕ) → is_date cell ≡ true → length cell ≡ 8
unfolding is_date
eight_digits cell real = eqb-true _ _ (and_parts _ _ real).0

-- eight bytes, one after the other
eight_again : (cell : List ℕ) → length cell ≡ 8 → bytes_at cell (0 ∷ 1 ∷ 2 ∷ 3 ∷ 4 ∷ 5 ∷ 6 ∷ 7 ∷ []) ≡ cell
eight_again [] long = absurd (omega (arith, long))
eight_again (a ∷ []) long = absurd (omega (arith, long))
eight_again (a ∷ b ∷ []) long = absurd (omega (arith, long))
eight_again (a ∷ b ∷ c ∷ []) long = absurd (omega (arith, long))
eight_again (a ∷ b ∷ c ∷ d ∷ []) long = absurd (omega (arith, long))
eight_again (a ∷ b ∷ c ∷ d ∷ e ∷ []) long = absurd (omega (arith, long))
eight_again (a ∷ b ∷ c ∷ d ∷ e ∷ f ∷ []) long = absurd (omega (arith, long))
eight_again (a ∷ b ∷ c ∷ d ∷ e ∷ f ∷ g ∷ []) long = absurd (omega (arith, long))
eight_again (a ∷ b ∷ c ∷ d ∷ e ∷ f ∷ g ∷ h ∷ []) long = refl
eight_again (a ∷ b ∷ c ∷ d ∷ e ∷ f ∷ g ∷ h ∷ i ∷ more) long = absurd (omega (arith, long))

date_back : (form : DateForm) (cell : List ℕ) → form ≡ Digits → is_date cell ≡ true → date_value form cell ≡ Ok cell
date_back form cell plain real =
    let long = eight_digits cell real in
    rw (plain, eq-eqb (length cell) 8 long, eight_again cell long, real) refl

-- ---- any cell

narrow_number : (f : Field) → f.kind ≡ NUMBER → has_width f ≡ true → f.width ≤ MAX_NUMBER_WIDTH
narrow_number f kind wide = let w = rw kind at wide in grind (arith, nat_tests)

narrow_truth : (f : Field) → f.kind ≡ LOGICAL → has_width f ≡ true → f.width ≡ 1
narrow_truth f kind wide = let w = rw kind at wide in grind (arith, nat_tests)

kinds : (k : ℕ) → is_kind k ≡ true → (k ≡ MEMO) ⊎ ((k ≡ CHARACTER) ⊎ ((k ≡ NUMBER) ⊎ ((k ≡ LOGICAL) ⊎ (k ≡ DATE))))
kinds k known = elim (cases_Bool (k == MEMO)) [
  | inl memo ↦ inl (eqb-true k MEMO memo)
  | inr a ↦ elim (cases_Bool (k == CHARACTER)) [
    | inl text ↦ inr (inl (eqb-true k CHARACTER text))
    | inr b ↦ elim (cases_Bool (k == NUMBER)) [
      | inl numeric ↦ inr (inr (inl (eqb-true k NUMBER numeric)))
      | inr c ↦ elim (cases_Bool (k == LOGICAL)) [
        | inl logical ↦ inr (inr (inr (inl (eqb-true k LOGICAL logical))))
        | inr d ↦ elim (cases_Bool (k == DATE)) [
          | inl day ↦ inr (inr (inr (inr (eqb-true k DATE day))))
          | inr e ↦ absurd (cc (rw (b, c, d, e, a) at known))
        ]
      ]
    ]
  ]
]

memo_back : (form : CsvForm) (f : Field) (cell : List ℕ) → f.kind ≡ MEMO → is_memo_text cell ≡ true → value_of form f (csv_value f.kind cell) ≡ Ok cell
unfolding value_of csv_value
memo_back form f cell kind text = rw (kind, text) refl

character_back : (form : CsvForm) (f : Field) (cell : List ℕ) → f.kind ≡ CHARACTER → length cell ≡ f.width → value_of form f (csv_value f.kind cell) ≡ Ok cell
unfolding value_of csv_value
character_back form f cell kind long =
    rw kind (blank_or_said f.width cell (trimmed_end cell) _ (blank_end f.width cell long) (λ _. text_back form.cut f.width cell long))

numeric_back : (form : CsvForm) (f : Field) (cell : List ℕ) → f.kind ≡ NUMBER → length cell ≡ f.width → f.width ≤ MAX_NUMBER_WIDTH → IsNumberCell f cell
    → value_of form f (csv_value f.kind cell) ≡ Ok cell
unfolding value_of csv_value number_value
numeric_back form f cell kind long narrow meaning =
    rw (kind, trimmed_twice cell) (blank_or_said f.width cell (trimmed cell) _ (blank_trimmed f.width cell long) (number_back f cell long narrow meaning))

truth_again : (form : CsvForm) (f : Field) (truth : Bool) → f.kind ≡ LOGICAL → f.width ≡ 1 → value_of form f (csv_value f.kind (truth_text truth)) ≡ Ok (truth_text truth)
unfolding value_of csv_value trimmed trimmed_end
truth_again form f true kind one = rw (kind, one) refl
truth_again form f false kind one = rw (kind, one) refl

logical_back : (form : CsvForm) (f : Field) (cell : List ℕ) → f.kind ≡ LOGICAL → length cell ≡ f.width → f.width ≡ 1 → IsTruthCell cell → value_of form f (csv_value f.kind cell) ≡ Ok cell
unfolding value_of csv_value trimmed
logical_back form f cell kind long one (inl blank) = rw (kind, blank) (ap Ok (sym (blank_end f.width cell long blank)))
logical_back form f cell kind long one (inr (truth, is)) =
    ap (λ (x : List ℕ). value_of form f (csv_value f.kind x)) is ∙ truth_again form f truth kind one ∙ ap Ok (sym is)

blank_day : (form : CsvForm) (f : Field) (cell : List ℕ) → f.kind ≡ DATE → length cell ≡ f.width → trimmed_end cell ≡ [] → value_of form f (csv_value f.kind cell) ≡ Ok cell
unfolding value_of csv_value trimmed
blank_day form f cell kind long blank = rw (kind, blank) (ap Ok (sym (blank_end f.width cell long blank)))

day_back : (form : CsvForm) (f : Field) (cell : List ℕ) → form.dates ≡ Digits → f.kind ≡ DATE → length cell ≡ f.width → IsDayCell cell → value_of form f (csv_value f.kind cell) ≡ Ok cell
unfolding value_of csv_value
day_back form f cell plain kind long (inl blank) = blank_day form f cell kind long blank
day_back form f cell plain kind long (inr real) =
    let digits = date_digits_of cell real in
    let some : (length cell == 0) ≡ false = ne_eqb (length cell) 0 (λ e. omega (arith, e, eight_digits cell real)) in
    rw (kind, digits_end cell digits, digits_trimmed cell digits, some) (date_back form.dates cell plain real)

-- the text that is printed of a cell that means something says this cell
pub value_back : (form : CsvForm) (f : Field) (cell : List ℕ) → form.dates ≡ Digits → is_kind f.kind ≡ true → has_width f ≡ true → IsCell f cell → HasMeaning f cell
    → value_of form f (csv_value f.kind cell) ≡ Ok cell
value_back form f cell plain kind wide is meaning = elim (kinds f.kind kind) [
  | inl memo ↦ memo_back form f cell memo (is.0 memo)
  | inr others ↦ elim others [
    | inl text ↦ character_back form f cell text (is.1 (λ e. omega (arith, sym text ∙ e)))
    | inr more ↦ elim more [
      | inl numeric ↦ numeric_back form f cell numeric (is.1 (λ e. omega (arith, sym numeric ∙ e))) (narrow_number f numeric wide) (meaning.as_number numeric)
      | inr rest ↦ elim rest [
        | inl logical ↦ logical_back form f cell logical (is.1 (λ e. omega (arith, sym logical ∙ e))) (narrow_truth f logical wide) (meaning.as_truth logical)
        | inr day ↦ day_back form f cell plain day (is.1 (λ e. omega (arith, sym day ∙ e))) (meaning.as_date day)
      ]
    ]
  ]
]
