-- A key expression's text without the blanks at its end is the same expression.
use Rattle.std.proofs.Common.{◌≡◌, ◌≢◌, ◌⊎◌, ℕ, zero, suc, ◌+◌, ◌-◌, ◌<◌, ◌≤◌, Bool, true, false, cond, eqb, List, [], ◌∷◌, ◌++◌, length, take, drop, get_or, Option, Some, None, refl, sym, ap, subst, ◌∙◌, inl, inr, ⊎_elim, arith, length-append}
use Rattle.std.specs.Char.{is_ascii_alphabetic, is_ascii_digit}
use Rattle.std.specs.Prelude.{not}
use Rattle.std.proofs.lemmas.Bool.{eqb-true, eqb-false}
use Rattle.std.proofs.lemmas.List.{take-append-le, drop-append-le}
use Rattle.std.proofs.lemmas.List.Folds.{position_or_len_push}
use Rattle.std.proofs.Math.Seq.{take-length, take-suc}
use Rattle.dbf_fields.specs.declared.field.Field.{Field}
use Rattle.dbf_fields.specs.declared.format.TheConstants.{BLANK}
use Rattle.dbf_fields.specs.Name.{is_name_char}
use Rattle.key_expr.specs.declared.token.Token.{Token}
use Rattle.key_expr.specs.declared.token.Kind.{Kind}
use Rattle.key_expr.specs.declared.token.Kind.TheVariants.{Plus, Open, Close, Comma, Upper, Substr, Str, Dtoc, Name, Number, End}
use Rattle.key_expr.specs.Grammar.{Expr, Begin, EndsPoints, EndsWith, Sort, Reads, one_term, sum, field_term, parens_term, upper_term, substr_term, str_term, dtoc_term, IsWholeExpression}
use Rattle.key_expr.specs.Rules.{IsKeyText}
use Rattle.key_expr.specs.Tokens.{tokens_after, token_length, kind_of, prefix_length, opens}
use Rattle.key_expr.proofs.Lexing.{token_inside}
use Rattle.ndx_index.specs.Header.{trimmed_end}
use Rattle.ndx_index.proofs.Texts.{trim_step, trim_stop, trim_none}

-- ---- tokens of the same kinds are the same expression

abbrev SameKinds : List Token → List Token → Type 0
SameKinds [] [] = Unit {0}
SameKinds [] (u ∷ us) = ⊥
SameKinds (t ∷ ts) [] = ⊥
SameKinds (t ∷ ts) (u ∷ us) = (t.kind ≡ u.kind) × SameKinds ts us

no_more : (us : List Token) → SameKinds [] us → us ≡ []
no_more [] s = refl
no_more (u ∷ us) s = absurd s

begin_same : (ks : List Kind) (ts us rest : List Token) → SameKinds ts us → Begin ks ts rest → (more : List Token) × Begin ks us more × SameKinds rest more
begin_same [] ts us rest s b = (us, refl, subst (λ (l : List Token). SameKinds l us) b s)
begin_same (k ∷ ks) [] us rest s b = absurd b
begin_same (k ∷ ks) (t ∷ ts) [] rest s b = absurd s
begin_same (k ∷ ks) (t ∷ ts) (u ∷ us) rest s b = let r = begin_same ks ts us rest s.1 b.1 in (r.0, (sym s.0 ∙ b.0, r.1), r.2)

points_same : (d : Option ℕ) (ts us rest : List Token) → SameKinds ts us → EndsPoints d ts rest → (more : List Token) × EndsPoints d us more × SameKinds rest more
points_same None ts us rest s b = begin_same (Close ∷ []) ts us rest s b
points_same (Some d) ts us rest s b = begin_same (Comma ∷ Number d ∷ Close ∷ []) ts us rest s b

ends_same : (n d : Option ℕ) (ts us rest : List Token) → SameKinds ts us → EndsWith n d ts rest → (more : List Token) × EndsWith n d us more × SameKinds rest more
ends_same None None ts us rest s b = begin_same (Close ∷ []) ts us rest s b
ends_same None (Some d) ts us rest s b = absurd b
ends_same (Some n) d ts us rest s b =
    let r = begin_same (Comma ∷ Number n ∷ []) ts us b.0 s b.1 in
    let q = points_same d b.0 r.0 rest r.2 b.2 in
    (q.0, (r.0, r.1, q.1), q.2)

reads_same : {so : Sort} {e : Expr} {ts rest : List Token} → Reads so e ts rest → (ws : List Token) → SameKinds ts ws → (more : List Token) × Reads so e ws more × SameKinds rest more
reads_same (one_term d) ws s = let r = reads_same d ws s in (r.0, one_term r.1, r.2)
reads_same (sum {us = us} {vs = vs} d b d2) ws s =
    let r = reads_same d ws s in
    let q = begin_same (Plus ∷ []) us r.0 vs r.2 b in
    let p = reads_same d2 q.0 q.2 in
    (p.0, sum {us = r.0} {vs = q.0} r.1 q.1 p.1, p.2)
reads_same (field_term {p = p} {ts = ts} {rest = rest} b) ws s =
    let q = begin_same (Name p ∷ []) ts ws rest s b in (q.0, field_term q.1, q.2)
reads_same (parens_term {ts = ts} {us = us} {vs = vs} {rest = rest} a d b) ws s =
    let q = begin_same (Open ∷ []) ts ws us s a in
    let r = reads_same d q.0 q.2 in
    let p = begin_same (Close ∷ []) vs r.0 rest r.2 b in
    (p.0, parens_term {us = q.0} {vs = r.0} q.1 r.1 p.1, p.2)
reads_same (upper_term {ts = ts} {us = us} {vs = vs} {rest = rest} a d b) ws s =
    let q = begin_same (Upper ∷ Open ∷ []) ts ws us s a in
    let r = reads_same d q.0 q.2 in
    let p = begin_same (Close ∷ []) vs r.0 rest r.2 b in
    (p.0, upper_term {us = q.0} {vs = r.0} q.1 r.1 p.1, p.2)
reads_same (substr_term {from = from} {count = count} {ts = ts} {us = us} {vs = vs} {rest = rest} a d b) ws s =
    let q = begin_same (Substr ∷ Open ∷ []) ts ws us s a in
    let r = reads_same d q.0 q.2 in
    let p = begin_same (Comma ∷ Number from ∷ Comma ∷ Number count ∷ Close ∷ []) vs r.0 rest r.2 b in
    (p.0, substr_term {us = q.0} {vs = r.0} q.1 r.1 p.1, p.2)
reads_same (str_term {p = p} {n = n} {d = d} {ts = ts} {rest = rest} us a b) ws s =
    let q = begin_same (Str ∷ Open ∷ Name p ∷ []) ts ws us s a in
    let r = ends_same n d us q.0 rest q.2 b in
    (r.0, str_term q.0 q.1 r.1, r.2)
reads_same (dtoc_term {p = p} {ts = ts} {rest = rest} b) ws s =
    let q = begin_same (Dtoc ∷ Open ∷ Name p ∷ Close ∷ []) ts ws rest s b in (q.0, dtoc_term q.1, q.2)

text_same : (e : Expr) (ts us : List Token) → SameKinds ts us → IsWholeExpression e ts → IsWholeExpression e us
text_same e ts us s t =
    let r = reads_same t.1 us s in
    let q = begin_same (End ∷ []) t.0 r.0 [] r.2 t.2 in
    (r.0, r.1, subst (λ (l : List Token). Begin (End ∷ []) r.0 l) (no_more q.0 q.2) q.1)

-- ---- one blank more at the end of a text

prefix_by : (same : Bool) (n len : ℕ) → eqb n len ≡ same → cond same (len + 0) n ≡ n
prefix_by true n len e = let is : n ≡ len = eqb-true n len e in omega (arith, is)
prefix_by false n len e = refl

prefix_blank : (test : ℕ → Bool) (bs : List ℕ) → test BLANK ≡ false → prefix_length test (bs ++ BLANK ∷ []) ≡ prefix_length test bs
prefix_blank test bs e =
    let n = prefix_length test bs in
    position_or_len_push _ bs BLANK
    ∙ ap (λ (t : Bool). cond (eqb n (length bs)) (length bs + cond (not t) 0 1) n) e
    ∙ prefix_by (eqb n (length bs)) n (length bs) refl

length_same : (p q : Bool) (m m' n n' : ℕ) → m ≡ m' → n ≡ n' → cond p (1 + m) (cond q (1 + n) 1) ≡ cond p (1 + m') (cond q (1 + n') 1)
length_same p q m m' n n' a b = cc

length_blank : (b : ℕ) (bs : List ℕ) → token_length (b ∷ (bs ++ BLANK ∷ [])) ≡ token_length (b ∷ bs)
length_blank b bs =
    length_same (is_ascii_alphabetic b) (is_ascii_digit b) (prefix_length is_name_char (bs ++ BLANK ∷ [])) (prefix_length is_name_char bs)
    (prefix_length is_ascii_digit (bs ++ BLANK ∷ [])) (prefix_length is_ascii_digit bs) (prefix_blank is_name_char bs refl) (prefix_blank is_ascii_digit bs refl)

opens_blank : (bs : List ℕ) → opens (bs ++ BLANK ∷ []) ≡ opens bs
opens_blank [] = refl
opens_blank (b ∷ bs) = rw (opens_blank bs) refl

kind_blank : (fields : List Field) (b : ℕ) (bs : List ℕ) → kind_of fields (b ∷ (bs ++ BLANK ∷ [])) ≡ kind_of fields (b ∷ bs)
unfolding kind_of
kind_blank fields b bs =
    let xs : List ℕ = b ∷ bs in
    let n : ℕ = token_length xs in
    let there : n ≤ length xs = omega (arith, (token_inside b bs).0, (token_inside b bs).1) in
    let long : token_length (xs ++ BLANK ∷ []) ≡ n = length_blank b bs in
    let own : take (token_length (xs ++ BLANK ∷ [])) (xs ++ BLANK ∷ []) ≡ take n xs =
    ap (λ (k : ℕ). take k (xs ++ BLANK ∷ [])) long ∙ take-append-le n xs (BLANK ∷ []) there in
    let after : drop (token_length (xs ++ BLANK ∷ [])) (xs ++ BLANK ∷ []) ≡ drop n xs ++ BLANK ∷ [] =
    ap (λ (k : ℕ). drop k (xs ++ BLANK ∷ [])) long ∙ drop-append-le n xs (BLANK ∷ []) there in
    let next : opens (drop (token_length (xs ++ BLANK ∷ [])) (xs ++ BLANK ∷ [])) ≡ opens (drop n xs) = ap opens after ∙ opens_blank (drop n xs) in
    rw (own, next) refl

either_same : (t : Bool) (xs ys us vs : List Token) → SameKinds xs us → SameKinds ys vs → SameKinds (cond t xs ys) (cond t us vs)
either_same true xs ys us vs a b = a
either_same false xs ys us vs a b = b

tokens_blank : (fields : List Field) (w v n : ℕ) (bs : List ℕ) → n ≤ length bs → SameKinds (tokens_after fields w n (bs ++ BLANK ∷ [])) (tokens_after fields v n bs)
tokens_blank fields w v zero [] h = (refl, tt)
tokens_blank fields w v (suc n) [] h = absurd (omega (arith, h))
tokens_blank fields w v (suc n) (b ∷ bs) h = tokens_blank fields w v n bs (omega (arith, h))
tokens_blank fields w v zero (b ∷ bs) h =
    let n : ℕ = token_length (b ∷ bs) - 1 in
    let long : token_length (b ∷ (bs ++ BLANK ∷ [])) - 1 ≡ n = ap (λ (k : ℕ). k - 1) (length_blank b bs) in
    either_same (eqb b BLANK) (tokens_after fields w zero (bs ++ BLANK ∷ []))
    (record { kind = kind_of fields (b ∷ (bs ++ BLANK ∷ [])); offset = w - length (b ∷ (bs ++ BLANK ∷ [])) } ∷ tokens_after fields w (token_length (b ∷ (bs ++ BLANK ∷ [])) - 1) (bs ++ BLANK ∷ []))
    (tokens_after fields v zero bs)
    (record { kind = kind_of fields (b ∷ bs); offset = v - length (b ∷ bs) } ∷ tokens_after fields v n bs)
    (tokens_blank fields w v zero bs (omega arith))
    (kind_blank fields b bs, subst (λ (k : ℕ). SameKinds (tokens_after fields w k (bs ++ BLANK ∷ [])) (tokens_after fields v n bs)) (sym long) (tokens_blank fields w v n bs (token_inside b bs).1))

without_blank : (fields : List Field) (text : List ℕ) (e : Expr) → IsKeyText fields (text ++ BLANK ∷ []) e → IsKeyText fields text e
without_blank fields text e k = record {
  short = omega (arith, k.short, length-append text (BLANK ∷ []));
  read = text_same e _ _ (tokens_blank fields (length (text ++ BLANK ∷ [])) (length text) zero text (omega arith)) k.read;
  kept = k.kept;
}

-- ---- without all blanks at the end

cases_blank : (t : Bool) (b : ℕ) → eqb b BLANK ≡ t → (b ≡ BLANK) ⊎ (b ≢ BLANK)
cases_blank true b e = inl (eqb-true b BLANK e)
cases_blank false b e = inr (eqb-false b BLANK e)

front_trimmed : (fields : List Field) (e : Expr) (xs : List ℕ) (n : ℕ) → n ≤ length xs → IsKeyText fields (take n xs) e → IsKeyText fields (trimmed_end (take n xs)) e
front_trimmed fields e xs zero h k = subst (λ (l : List ℕ). IsKeyText fields l e) (trim_none xs zero (omega arith)) k
front_trimmed fields e xs (suc n) h k =
    let lt : n < length xs = omega (arith, h) in
    ⊎_elim
    (λ (blank : get_or xs n 0 ≡ BLANK).
    let more : take (suc n) xs ≡ take n xs ++ BLANK ∷ [] = take-suc xs n 0 lt ∙ ap (λ (b : ℕ). take n xs ++ b ∷ []) blank in
    subst (λ (l : List ℕ). IsKeyText fields l e) (trim_step xs n 0 lt blank)
    (front_trimmed fields e xs n (omega (arith, h)) (without_blank fields (take n xs) e (subst (λ (l : List ℕ). IsKeyText fields l e) more k))))
    (λ (other : get_or xs n 0 ≢ BLANK). subst (λ (l : List ℕ). IsKeyText fields l e) (trim_stop xs n 0 lt other) k)
    (cases_blank (eqb (get_or xs n 0) BLANK) (get_or xs n 0) refl)

pub trimmed_text : (fields : List Field) (text : List ℕ) (e : Expr) → IsKeyText fields text e → IsKeyText fields (trimmed_end text) e
trimmed_text fields text e k =
    let all : take (length text) text ≡ text = take-length text in
    subst (λ (l : List ℕ). IsKeyText fields (trimmed_end l) e) all (front_trimmed fields e text (length text) (omega arith) (subst (λ (l : List ℕ). IsKeyText fields l e) (sym all) k))
