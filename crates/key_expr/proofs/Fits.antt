-- What a stack of what is expected asks of the tokens: a token that fits, and then what is expected after it.
use Rattle.std.proofs.Common.{◌≡◌, ℕ, List, [], ◌∷◌, Option, Some, None, refl}
use Rattle.key_expr.specs.declared.token.Token.{Token}
use Rattle.key_expr.specs.declared.token.Kind.{Kind}
use Rattle.key_expr.specs.declared.token.Kind.TheVariants.{Plus, Open, Close, Comma, Upper, Substr, Str, Dtoc, Name, Number, End}
use Rattle.key_expr.specs.Grammar.{Expr, a_term, an_expr, Reads, one_term, sum, field_term, parens_term, upper_term, substr_term, str_term, dtoc_term}
use Rattle.key_expr.specs.Expected.{Expected, expr, more, name, number, open_, close, comma, finish, lengths, points, expected_after}

-- the tokens are what is expected, to their end
pub data Fits : List Expected → List Token → Type 0 where
  nothing : Fits [] []
  fits_expr : {e : Expr} {s : List Expected} {ts us : List Token} → Reads an_expr e ts us → Fits s us → Fits (expr ∷ s) ts
  fits_rest : {s : List Expected} {ts : List Token} → Fits s ts → Fits (more ∷ s) ts
  fits_plus : {s : List Expected} {t : Token} {ts : List Token} → t.kind ≡ Plus → Fits (expr ∷ s) ts → Fits (more ∷ s) (t ∷ ts)
  fits_name : {p : ℕ} {s : List Expected} {t : Token} {ts : List Token} → t.kind ≡ Name p → Fits s ts → Fits (name ∷ s) (t ∷ ts)
  fits_number : {n : ℕ} {s : List Expected} {t : Token} {ts : List Token} → t.kind ≡ Number n → Fits s ts → Fits (number ∷ s) (t ∷ ts)
  fits_open : {s : List Expected} {t : Token} {ts : List Token} → t.kind ≡ Open → Fits s ts → Fits (open_ ∷ s) (t ∷ ts)
  fits_close : {s : List Expected} {t : Token} {ts : List Token} → t.kind ≡ Close → Fits s ts → Fits (close ∷ s) (t ∷ ts)
  fits_comma : {s : List Expected} {t : Token} {ts : List Token} → t.kind ≡ Comma → Fits s ts → Fits (comma ∷ s) (t ∷ ts)
  fits_end : {s : List Expected} {t : Token} {ts : List Token} → t.kind ≡ End → Fits [] ts → Fits (finish ∷ s) (t ∷ ts)
  lengths_end : {s : List Expected} {t : Token} {ts : List Token} → t.kind ≡ Close → Fits s ts → Fits (lengths ∷ s) (t ∷ ts)
  lengths_more : {s : List Expected} {t : Token} {ts : List Token} → t.kind ≡ Comma → Fits (number ∷ points ∷ s) ts → Fits (lengths ∷ s) (t ∷ ts)
  points_end : {s : List Expected} {t : Token} {ts : List Token} → t.kind ≡ Close → Fits s ts → Fits (points ∷ s) (t ∷ ts)
  points_more : {s : List Expected} {t : Token} {ts : List Token} → t.kind ≡ Comma → Fits (number ∷ close ∷ s) ts → Fits (points ∷ s) (t ∷ ts)

-- the same of what is expected after a token, where it fits
abbrev pub FitsNext : Option (List Expected) → List Token → Type 0
FitsNext None ts = ⊥
FitsNext (Some s) ts = Fits s ts

after_term : {e : Expr} {s : List Expected} {ts us : List Token} → Reads a_term e ts us → Fits (more ∷ s) us → Fits (expr ∷ s) ts
after_term d (fits_rest f) = fits_expr (one_term d) f
after_term d (fits_plus k (fits_expr d2 f)) = fits_expr (sum d (k, refl) d2) f

-- a token that fits, and then what is expected, is what was expected
pub fits_of_step : (s : List Expected) (k : Kind) (t : Token) (ts : List Token) → t.kind ≡ k → FitsNext (expected_after s k) ts → Fits s (t ∷ ts)
fits_of_step (expr ∷ s) Open t _ here (fits_expr d (fits_close b f)) = after_term (parens_term (here, refl) d (b, refl)) f
fits_of_step (expr ∷ s) Upper t _ here (fits_open a (fits_expr d (fits_close b f))) = after_term (upper_term (here, (a, refl)) d (b, refl)) f
fits_of_step (expr ∷ s) Substr t _ here (fits_open a (fits_expr d (fits_comma h (fits_number i (fits_comma j (fits_number l (fits_close b f))))))) =
    after_term (substr_term (here, (a, refl)) d (h, (i, (j, (l, (b, refl)))))) f
fits_of_step (expr ∷ s) Str t _ here (fits_open a (fits_name n (lengths_end b f))) = after_term (str_term {n = None} {d = None} _ (here, (a, (n, refl))) (b, refl)) f
fits_of_step (expr ∷ s) Str t _ here (fits_open a (fits_name n (lengths_more b (fits_number i (points_end j f))))) =
    after_term (str_term {n = Some _} {d = None} _ (here, (a, (n, refl))) (_, (b, (i, refl)), (j, refl))) f
fits_of_step (expr ∷ s) Str t _ here (fits_open a (fits_name n (lengths_more b (fits_number i (points_more j (fits_number l (fits_close h f))))))) =
    after_term (str_term {n = Some _} {d = Some _} _ (here, (a, (n, refl))) (_, (b, (i, refl)), (j, (l, (h, refl))))) f
fits_of_step (expr ∷ s) Dtoc t _ here (fits_open a (fits_name n (fits_close b f))) = after_term (dtoc_term (here, (a, (n, (b, refl))))) f
fits_of_step (expr ∷ s) (Name p) t ts here f = after_term (field_term (here, refl)) f
fits_of_step (more ∷ s) Plus t ts here f = fits_plus here f
fits_of_step (more ∷ s) k t ts here f = fits_rest (fits_of_step s k t ts here f)
fits_of_step (name ∷ s) (Name p) t ts here f = fits_name here f
fits_of_step (number ∷ s) (Number n) t ts here f = fits_number here f
fits_of_step (open_ ∷ s) Open t ts here f = fits_open here f
fits_of_step (close ∷ s) Close t ts here f = fits_close here f
fits_of_step (comma ∷ s) Comma t ts here f = fits_comma here f
fits_of_step (finish ∷ s) End t ts here f = fits_end here f
fits_of_step (lengths ∷ s) Comma t ts here f = lengths_more here f
fits_of_step (lengths ∷ s) Close t ts here f = lengths_end here f
fits_of_step (points ∷ s) Comma t ts here f = points_more here f
fits_of_step (points ∷ s) Close t ts here f = points_end here f
fits_of_step s k t ts here f = absurd f

abbrev of_kind : Kind → Token
of_kind k = record { kind = k; offset = 0 }

-- some tokens are what is expected
pub some_tokens : (s : List Expected) → (ts : List Token) × Fits s ts
some_tokens [] = ([], nothing)
some_tokens (expr ∷ s) = let f = some_tokens s in (of_kind (Name 0) ∷ f.0, fits_expr (one_term (field_term {p = 0} (refl, refl))) f.1)
some_tokens (more ∷ s) = let f = some_tokens s in (f.0, fits_rest f.1)
some_tokens (name ∷ s) = let f = some_tokens s in (of_kind (Name 0) ∷ f.0, fits_name {p = 0} refl f.1)
some_tokens (number ∷ s) = let f = some_tokens s in (of_kind (Number 0) ∷ f.0, fits_number {n = 0} refl f.1)
some_tokens (open_ ∷ s) = let f = some_tokens s in (of_kind Open ∷ f.0, fits_open refl f.1)
some_tokens (close ∷ s) = let f = some_tokens s in (of_kind Close ∷ f.0, fits_close refl f.1)
some_tokens (comma ∷ s) = let f = some_tokens s in (of_kind Comma ∷ f.0, fits_comma refl f.1)
some_tokens (finish ∷ s) = (of_kind End ∷ [], fits_end refl nothing)
some_tokens (lengths ∷ s) = let f = some_tokens s in (of_kind Close ∷ f.0, lengths_end refl f.1)
some_tokens (points ∷ s) = let f = some_tokens s in (of_kind Close ∷ f.0, points_end refl f.1)
