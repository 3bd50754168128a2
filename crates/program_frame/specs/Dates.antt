-- Which texts are the date of a run.
use Rattle.std.specs.Prelude.{◌≡◌, ℕ, List, true}
use Rattle.dbf_fields.specs.Date.{is_date, year_in}
use Rattle.dbf_image.specs.Image.{IsOutside}

-- eight digits that are a calendar date of the years 1900 to 2155, which a header can tell
pub record IsRunDate (text : List ℕ) : Type 0 where
  pub real : is_date text ≡ true
  pub years : ¬ IsOutside (year_in text)
