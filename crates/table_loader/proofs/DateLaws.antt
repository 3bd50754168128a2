-- Which texts are dates.
use Rattle.std.proofs.Common.{◌≡◌, ℕ, List, true, false, refl, length}
use Rattle.std.proofs.lemmas.Bool.{and_parts, eqb-true}
use Rattle.dbf_fields.specs.Date.{blank_date, is_date}
use Rattle.dbf_fields.specs.declared.format.TheConstants.{DATE_WIDTH}

pub date_wide : (text : List ℕ) → is_date text ≡ true → length text ≡ DATE_WIDTH
unfolding is_date
date_wide text real = eqb-true _ _ (and_parts _ _ real).0

pub blank_no_date : (text : List ℕ) → text ≡ blank_date → is_date text ≡ false
unfolding is_date
blank_no_date text is = rw is refl
