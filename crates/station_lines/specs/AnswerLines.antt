-- An answer as a line of an answer file.
use Rattle.std.specs.Prelude.{ℕ, true, false, List, [], ◌∷◌, ◌++◌, codes}
use Rattle.std.specs.Fmt.{decimal}
use Rattle.catalogue_core.specs.declared.answer.Answer.{Answer}
use Rattle.catalogue_core.specs.declared.answer.Answer.TheVariants.{Done, Number, Truth, Text, Refused}
use Rattle.catalogue_core.specs.Status.{row_words}
use Rattle.catalogue_core.specs.declared.status.StatusRow.{StatusRow}
use Rattle.table_core.specs.declared.refusal.Refusal.{Refusal}
use Rattle.table_core.specs.Refusals.{code_of, name_of}

-- a refusal's line: its number and its name
abbrev pub refusal_text : Refusal → List ℕ
refusal_text refusal = codes "REFUSED " ++ (decimal (code_of refusal) ++ (codes " " ++ name_of refusal))

-- an answer as a line of an answer file, without the LF that ends it
abbrev pub line_of : Answer → List ℕ
line_of Done = codes "OK"
line_of (Number n) = decimal n
line_of (Truth true) = codes ".T."
line_of (Truth false) = codes ".F."
line_of (Text text) = text
line_of (Refused refusal) = refusal_text refusal

-- numbers, each after one blank
abbrev pub numbers_text : List ℕ → List ℕ
numbers_text [] = []
numbers_text (n ∷ ns) = codes " " ++ (decimal n ++ numbers_text ns)

-- the line of a status row, without the LF that ends it
abbrev pub status_text : StatusRow → List ℕ
status_text row = codes "STATUS" ++ numbers_text (row_words row)
