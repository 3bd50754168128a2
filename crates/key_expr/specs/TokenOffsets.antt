-- Where the tokens of a text stand in it.
use Rattle.std.specs.Prelude.{◌≡◌, ◌≢◌, ℕ, ◌+◌, ◌<◌, ◌≤◌, List, [], ◌∷◌, length, drop, get_or}
use Rattle.dbf_fields.specs.declared.field.Field.{Field}
use Rattle.dbf_fields.specs.declared.format.TheConstants.{BLANK}
use Rattle.key_expr.specs.declared.token.Token.{Token}
use Rattle.key_expr.specs.Tokens.{token_length, kind_of}

-- where the bytes of a token end
abbrev pub token_end : List ℕ → Token → ℕ
token_end text t = t.offset + token_length (drop t.offset text)

-- from here up to the token there are blanks alone, and the token is what the text says at its offset
pub record StandsAfter (fields : List Field) (text : List ℕ) (start : ℕ) (t : Token) : Type 0 where
  pub later : start ≤ t.offset
  pub blanks : (i : ℕ) → start ≤ i → i < t.offset → get_or text i 0 ≡ BLANK
  pub kind : t.kind ≡ kind_of fields (drop t.offset text)

-- from here on the tokens stand in the text one after the other, the last of them at its end
pub data StandIn : List Field → List ℕ → ℕ → List Token → Type 0 where
  at_end : {fields : List Field} {text : List ℕ} {start : ℕ} {t : Token}
      → StandsAfter fields text start t → t.offset ≡ length text → StandIn fields text start (t ∷ [])
  before_end : {fields : List Field} {text : List ℕ} {start : ℕ} {t : Token} {ts : List Token}
      → StandsAfter fields text start t → t.offset < length text → get_or text t.offset 0 ≢ BLANK
      → StandIn fields text (token_end text t) ts → StandIn fields text start (t ∷ ts)
