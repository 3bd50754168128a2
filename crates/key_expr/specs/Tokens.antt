-- The tokens of a text.
use Rattle.std.specs.Prelude.{ℕ, zero, suc, ◌+◌, ◌-◌, ◌*◌, Bool, false, not, ◌==◌, nat_lt, List, [], ◌∷◌, length, take, drop, codes, if◌then◌else◌}
use Rattle.dbf_fields.specs.declared.format.TheConstants.{BLANK, ZERO_DIGIT}
use Rattle.key_expr.specs.declared.format.TheConstants.{MAX_NAME_BYTES, PLUS, OPEN, CLOSE, COMMA}
use Rattle.std.specs.List.{position_or_len}
use Rattle.std.specs.Char.{is_ascii_alphabetic, is_ascii_digit}
use Rattle.std.specs.Str.{str_eq_ignore_ascii_case}
use Rattle.dbf_fields.specs.declared.field.Field.{Field}
use Rattle.dbf_fields.specs.Name.{is_name_char}
use Rattle.key_expr.specs.declared.token.Token.{Token}
use Rattle.key_expr.specs.declared.token.Kind.{Kind}
use Rattle.key_expr.specs.declared.token.Kind.TheVariants.{Plus, Open, Close, Comma, Upper, Substr, Str, Dtoc, Name, Number, End, Bad}

-- how many bytes at the head of a text pass a test
abbrev pub prefix_length : (ℕ → Bool) → List ℕ → ℕ
prefix_length test bs = position_or_len (λ b. not (test b)) bs

-- the bytes of the first token: a letter and the letters, digits and `_` after it, digits, or one byte
abbrev pub token_length : List ℕ → ℕ
token_length [] = 0
token_length (b ∷ bs) =
    if is_ascii_alphabetic b then 1 + prefix_length is_name_char bs
    else (if is_ascii_digit b then 1 + prefix_length is_ascii_digit bs else 1)

-- a number of 1 to 3 digits
abbrev pub number_kind : List ℕ → Kind
number_kind (a ∷ []) = Number (a - ZERO_DIGIT)
number_kind (a ∷ b ∷ []) = Number ((a - ZERO_DIGIT) * 10 + (b - ZERO_DIGIT))
number_kind (a ∷ b ∷ c ∷ []) = Number (((a - ZERO_DIGIT) * 10 + (b - ZERO_DIGIT)) * 10 + (c - ZERO_DIGIT))
number_kind digits = Bad

-- the function of a name
abbrev pub function_kind : List ℕ → Kind
function_kind name =
    if str_eq_ignore_ascii_case name (codes "UPPER") then Upper
    else (if str_eq_ignore_ascii_case name (codes "SUBSTR") then Substr
    else (if str_eq_ignore_ascii_case name (codes "STR") then Str
    else (if str_eq_ignore_ascii_case name (codes "DTOC") then Dtoc
    else Bad)))

-- the index of the field that has the name, or the number of the fields where none has it
abbrev pub field_index : List Field → List ℕ → ℕ
field_index fields name = position_or_len (λ f. str_eq_ignore_ascii_case name f.name) fields

-- an opening parenthesis is next, after blanks or none
abbrev pub opens : List ℕ → Bool
opens [] = false
opens (b ∷ bs) = if b == BLANK then opens bs else b == OPEN

-- a name of up to 10 bytes: a function's before an opening parenthesis, else a field's
abbrev pub name_kind : List Field → List ℕ → List ℕ → Kind
name_kind fields name after =
    if nat_lt MAX_NAME_BYTES (length name) then Bad
    else (if opens after then function_kind name else Name (field_index fields name))

-- what the first token of a text is
unfoldable pub kind_of : List Field → List ℕ → Kind
kind_of fields [] = End
kind_of fields (b ∷ bs) =
    if b == PLUS then Plus
    else (if b == OPEN then Open
    else (if b == CLOSE then Close
    else (if b == COMMA then Comma
    else (if is_ascii_digit b then number_kind (take (token_length (b ∷ bs)) (b ∷ bs))
    else (if is_ascii_alphabetic b then name_kind fields (take (token_length (b ∷ bs)) (b ∷ bs)) (drop (token_length (b ∷ bs)) (b ∷ bs))
    else Bad)))))

-- The tokens of the bytes that a text of `whole` bytes ends with, where the first `before` of them still belong to
-- the token before.
abbrev pub tokens_after : List Field → ℕ → ℕ → List ℕ → List Token
tokens_after fields whole before [] = record { kind = End; offset = whole } ∷ []
tokens_after fields whole (suc n) (b ∷ bs) = tokens_after fields whole n bs
tokens_after fields whole zero (b ∷ bs) =
    if b == BLANK then tokens_after fields whole zero bs
    else record { kind = kind_of fields (b ∷ bs); offset = whole - length (b ∷ bs) }
    ∷ tokens_after fields whole (token_length (b ∷ bs) - 1) bs

-- the tokens of a text, each with its offset; the end of the text is a token too, and the names are those of the fields
abbrev pub tokens_of : List Field → List ℕ → List Token
tokens_of fields text = tokens_after fields (length text) zero text
