-- Which lines keep a name or a text.
use Rattle.std.proofs.Common.{◌≡◌, ℕ, List, Bool, true, cond, Option, Some, None, refl, ap, ◌∙◌}
use Rattle.std.specs.Prelude.{IsSome, is_some}
use Rattle.std.proofs.lemmas.Bool.{false≢true}
use Rattle.station_lines.specs.declared.script.line.Line.{Line}
use Rattle.station_lines.specs.Script.Parts.{is_name_word, name_in, capitals}
use Rattle.station_lines.specs.Script.Meaning.{Means}
use Rattle.station_lines.specs.Script.Keeping.{keeps_text}
use Rattle.station_lines.specs.Script.Reading.{with_, literal_in, replace_line, read}
use Rattle.station_lines.proofs.ScriptLaws.MeaningLaws.{other_means}

-- whatever a line means keeps what the reader keeps
pub meaning_keeps : (line : List ℕ) → keeps_text (read line) ≡ true → (meaning : Line) → Means line meaning → keeps_text meaning ≡ true
meaning_keeps line kept meaning m = ap keeps_text (other_means line meaning m) ∙ kept

-- what is made of a value keeps a text, where there is one
kept_with : {X : Type 0} (o : Option X) (make : X → Line) → IsSome o → ((x : X) → keeps_text (make x) ≡ true) → keeps_text (with_ o make) ≡ true
kept_with None make some kept = absurd (false≢true some)
kept_with (Some x) make some kept = kept x

name_found : (word : List ℕ) → is_name_word word ≡ true → IsSome (name_in word)
name_found word name = ap (λ (q : Bool). is_some (cond q (Some (capitals word)) None)) name

-- REPLACE of a name by a value keeps the name
pub replace_keeps : (field value : List ℕ) → is_name_word field ≡ true → IsSome (literal_in value) → keeps_text (replace_line field value) ≡ true
replace_keeps field value name some = kept_with (name_in field) _ (name_found field name) (λ f. kept_with (literal_in value) _ some (λ l. refl))
