-- The offset of the first token that doesn't fit is the first with which no whole expression can go on.
use Rattle.std.proofs.Common.{◌≡◌, ℕ, List, [], ◌∷◌, ◌++◌, Option, Some, None, refl, sym, ◌∙◌, ap, append_assoc}
use Rattle.key_expr.specs.declared.token.Token.{Token}
use Rattle.key_expr.specs.declared.token.Kind.{Kind}
use Rattle.key_expr.specs.declared.token.Kind.TheVariants.{End}
use Rattle.key_expr.specs.declared.fault.ExprFault.{ExprFault}
use Rattle.key_expr.specs.declared.fault.ExprFault.TheVariants.{BadSyntax, NoMemory}
use Rattle.key_expr.specs.Grammar.{Expr, IsWholeExpression, IsBadAt, EndsInEnd, IsTokenRefusal}
use Rattle.key_expr.specs.Expected.{Expected, expr, more, finish, expected_after, first_unexpected, IsFirstUnexpected}
use Rattle.key_expr.proofs.ExpectedSteps.{text_fits}
use Rattle.key_expr.proofs.Fits.{Fits, nothing, fits_expr, fits_end, FitsNext, fits_of_step, some_tokens}

-- the tokens before one that doesn't fit, from a stack of what is expected on
record StopsAt (offset : ℕ) (s : List Expected) (ts : List Token) : Type 0 where
  pub front : List Token
  pub token : Token
  pub tail : List Token
  pub whole : ts ≡ front ++ token ∷ tail
  pub here : token.offset ≡ offset
  pub rest : List Token
  pub before : Fits s (front ++ rest)
  pub after : (others : List Token) → first_unexpected s (front ++ (token ∷ others)) ≡ Some offset

-- the end is only expected last
end_last : (s w : List Expected) → expected_after s End ≡ Some w → w ≡ []
end_last (more ∷ s) w e = end_last s w e
end_last (finish ∷ s) w e = cc
end_last s w e = absurd cc

-- one token further, where the law holds after it
stops_from : (s : List Expected) (t : Token) (ts : List Token) (p : ℕ)
    → ((w : List Expected) → EndsInEnd ts → first_unexpected w ts ≡ Some p → StopsAt p w ts)
    → (o : Option (List Expected)) → expected_after s t.kind ≡ o → EndsInEnd (t ∷ ts)
    → elim o [ None ↦ Some t.offset | Some w ↦ first_unexpected w ts ] ≡ Some p → StopsAt p s (t ∷ ts)
stops_from s t ts p go None here end m =
    let some = some_tokens s in
    record { front = []; token = t; tail = ts; whole = refl; here = cc; rest = some.0; before = some.1; after = λ others. rw (here, first_unexpected) m }
stops_from s t [] p go (Some w) here end m =
    let last : w ≡ [] = end_last s w (sym (ap (λ (k : Kind). expected_after s k) end) ∙ here) in
    let no_way : first_unexpected [] [] ≡ Some p = sym (ap (λ (v : List Expected). first_unexpected v []) last) ∙ m in
    cc
stops_from s t (u ∷ us) p go (Some w) here end m =
    let later = go w end m in
    record {
      front = t ∷ later.front;
      token = later.token;
      tail = later.tail;
      whole = ap (λ (l : List Token). t ∷ l) later.whole;
      here = later.here;
      rest = later.rest;
      before = let next : FitsNext (Some w) (later.front ++ later.rest) = later.before in
          fits_of_step s t.kind t (later.front ++ later.rest) refl (rw here next);
      after = λ others. rw (here, first_unexpected) (later.after others);
    }

stops_at : (s : List Expected) (ts : List Token) (p : ℕ) → EndsInEnd ts → first_unexpected s ts ≡ Some p → StopsAt p s ts
stops_at s [] p end m = absurd end
stops_at s (t ∷ ts) p end m = stops_from s t ts p (λ (w : List Expected). stops_at w ts p) (expected_after s t.kind) refl end m

fits_text : (ts : List Token) → Fits (expr ∷ finish ∷ []) ts → (e : Expr) × IsWholeExpression e ts
fits_text ts (fits_expr d (fits_end k nothing)) = (_, (_, d, (k, refl)))

-- the offset of the first token that doesn't fit is that of the first with which no whole expression goes on
bad_at : (ts : List Token) (p : ℕ) → EndsInEnd ts → first_unexpected (expr ∷ finish ∷ []) ts ≡ Some p → IsBadAt p ts
bad_at ts p end m =
    let stop = stops_at (expr ∷ finish ∷ []) ts p end m in
    record {
      front = stop.front;
      token = stop.token;
      tail = stop.tail;
      whole = stop.whole;
      here = stop.here;
      before = let text = fits_text _ stop.before in (stop.rest, text.0, text.1);
      after = λ goes.
          let fits = rw (append_assoc stop.front (stop.token ∷ []) goes.0) at (text_fits goes.1 _ goes.2) in
          let stops = stop.after goes.0 in cc;
    }

pub refusal_at : (e : ExprFault) (ts : List Token) → EndsInEnd ts → IsFirstUnexpected e (expr ∷ finish ∷ []) ts → IsTokenRefusal e ts
refusal_at (BadSyntax p) ts end m = bad_at ts p end m
refusal_at NoMemory ts end m = tt
refusal_at e ts end m = absurd m
