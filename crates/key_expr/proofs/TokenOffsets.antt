-- The tokens of a text stand where their bytes stand, and no other tokens do.
use Rattle.std.proofs.Common.{◌≡◌, ℕ, zero, suc, ◌+◌, ◌-◌, ◌<◌, ◌≤◌, true, false, eqb, List, [], ◌∷◌, length, drop, get_or, refl, sym, ap, ◌∙◌, subst, arith}
use borrow.Author.Count.{below_more}
use Rattle.std.proofs.lemmas.Bool.{eqb-true, true≢false}
use Rattle.std.proofs.lemmas.List.{drop-drop, drop_all, get_or-drop}
use Rattle.dbf_fields.specs.declared.format.TheConstants.{BLANK}
use Rattle.dbf_fields.specs.declared.field.Field.{Field}
use Rattle.key_expr.specs.declared.token.Token.{Token}
use Rattle.key_expr.specs.declared.token.Kind.TheVariants.{End}
use Rattle.key_expr.specs.Tokens.{tokens_after, tokens_of, token_length, kind_of}
use Rattle.key_expr.proofs.Lexing.{either, token_inside}
use Rattle.key_expr.specs.TokenOffsets.{token_end, StandsAfter, StandIn, at_end, before_end}

end_kind : (fields : List Field) (bs : List ℕ) → bs ≡ [] → End ≡ kind_of fields bs
unfolding kind_of
end_kind fields bs e = rw e refl

-- the tokens of the bytes from an offset on, where some of them still belong to the token before
stand_after : (fields : List Field) (text : List ℕ) (start p n : ℕ) (bs : List ℕ)
    → drop p text ≡ bs → p + length bs ≡ length text → n ≤ length bs → start ≤ p + n
    → ((i : ℕ) → start ≤ i → i < p + n → get_or text i 0 ≡ BLANK)
    → StandIn fields text start (tokens_after fields (length text) n bs)
stand_after fields text start p zero [] e l h s gap =
    at_end (record {
      later = omega (arith, l, s);
      blanks = λ i a b. gap i a (omega (arith, l, b));
      kind = end_kind fields (drop (length text) text) (drop_all (length text) text (omega arith));
    }) refl
stand_after fields text start p (suc n) [] e l h s gap = absurd (omega (arith, h))
stand_after fields text start p (suc n) (b ∷ bs) e l h s gap =
    let rest : drop (p + 1) text ≡ bs = sym (drop-drop 1 p text) ∙ ap (λ (xs : List ℕ). drop 1 xs) e in
    stand_after fields text start (p + 1) n bs rest (omega (arith, l)) (omega (arith, h)) (omega (arith, s))
    (λ i a lt. gap i a (omega (arith, lt)))
stand_after fields text start p zero (b ∷ bs) e l h s gap =
    let rest : drop (p + 1) text ≡ bs = sym (drop-drop 1 p text) ∙ ap (λ (xs : List ℕ). drop 1 xs) e in
    let plain : p + 0 ≡ p = omega arith in
    let here : get_or text p 0 ≡ b = ap (λ (k : ℕ). get_or text k 0) (sym plain) ∙ (sym (get_or-drop p text 0 0) ∙ ap (λ (xs : List ℕ). get_or xs 0 0) e) in
    let t : Token = record { kind = kind_of fields (b ∷ bs); offset = length text - length (b ∷ bs) } in
    let at : length text - length (b ∷ bs) ≡ p = omega (arith, l) in
    let same : drop (length text - length (b ∷ bs)) text ≡ b ∷ bs = ap (λ (k : ℕ). drop k text) at ∙ e in
    let end : token_end text t ≡ p + token_length (b ∷ bs) = rw (same, at) refl in
    let inside = token_inside b bs in
    either (StandIn fields text start) (eqb b BLANK) (tokens_after fields (length text) zero bs) (t ∷ tokens_after fields (length text) (token_length (b ∷ bs) - 1) bs)
    (λ (blank : eqb b BLANK ≡ true).
    stand_after fields text start (p + 1) zero bs rest (omega (arith, l)) (omega arith) (omega (arith, s))
    (λ i a lt. below_more (λ (k : ℕ). start ≤ k → get_or text k 0 ≡ BLANK) p (λ k below after. gap k after (omega (arith, below)))
    (λ after. here ∙ eqb-true b BLANK blank) i (omega (arith, lt)) a))
    (λ (other : eqb b BLANK ≡ false).
    before_end (record {
      later = omega (arith, at, s);
      blanks = λ i a lt. gap i a (omega (arith, at, lt));
      kind = ap (λ (xs : List ℕ). kind_of fields xs) (sym same);
    }) (omega (arith, l))
    (λ blank. let is : b ≡ BLANK = sym here ∙ (ap (λ (k : ℕ). get_or text k 0) (sym at) ∙ blank) in
    true≢false (sym (ap (λ (x : ℕ). eqb x BLANK) is) ∙ other))
    (stand_after fields text (token_end text t) (p + 1) (token_length (b ∷ bs) - 1) bs rest (omega (arith, l)) inside.1
    (omega (arith, end, inside.0)) (λ i a lt. absurd (omega (arith, a, lt, end, inside.0)))))

pub tokens_stand : (fields : List Field) (text : List ℕ) → StandIn fields text 0 (tokens_of fields text)
tokens_stand fields text =
    stand_after fields text 0 0 zero text refl (omega arith) (omega arith) (omega arith) (λ i a lt. absurd (omega (arith, lt)))

same_token : (t u : Token) → t.kind ≡ u.kind → t.offset ≡ u.offset → t ≡ u
same_token t u k o i = record { kind = k i; offset = o i }

same_at : (fields : List Field) (text : List ℕ) (start : ℕ) (t u : Token) → StandsAfter fields text start t → StandsAfter fields text start u
    → t.offset ≡ u.offset → t ≡ u
same_at fields text start t u s r o =
    same_token t u (s.kind ∙ (ap (λ (k : ℕ). kind_of fields (drop k text)) o ∙ sym r.kind)) o

same_tokens : {fields : List Field} {text : List ℕ} {start : ℕ} {ts us : List Token} → StandIn fields text start ts → StandIn fields text start us → ts ≡ us
same_tokens (at_end {fields = fs} {text = text} {start = start} {t = t} s e) (at_end {t = u} r f) =
    ap (λ (x : Token). x ∷ []) (same_at fs text start t u s r (e ∙ sym f))
same_tokens (at_end s e) (before_end {t = u} r lt some more) = absurd (some (s.blanks u.offset r.later (omega (arith, e, lt))))
same_tokens (before_end {t = t} s lt some more) (at_end r f) = absurd (some (r.blanks t.offset s.later (omega (arith, f, lt))))
same_tokens (before_end {fields = fs} {text = text} {start = start} {t = t} {ts = ts} s lt some more) (before_end {t = u} {ts = us} r lt2 some2 more2) =
    let first : t.offset < u.offset → ⊥ = λ h. some (r.blanks t.offset s.later h) in
    let second : u.offset < t.offset → ⊥ = λ h. some2 (s.blanks u.offset r.later h) in
    let offset : t.offset ≡ u.offset = omega (arith, first, second) in
    let one : t ≡ u = same_at fs text start t u s r offset in
    let others : ts ≡ us = same_tokens (subst (λ (x : Token). StandIn fs text (token_end text x) ts) one more) more2 in
    cc

pub tokens_alone : (fields : List Field) (text : List ℕ) (ts : List Token) → StandIn fields text 0 ts → ts ≡ tokens_of fields text
tokens_alone fields text ts s = same_tokens s (tokens_stand fields text)
