-- What is expected after tokens that fit.
use Rattle.std.proofs.Common.{◌≡◌, ℕ, List, [], ◌∷◌, ◌++◌, Option, Some, None, refl, sym, ◌∙◌, subst}
use Rattle.key_expr.specs.declared.token.Token.{Token}
use Rattle.key_expr.specs.declared.token.Kind.{Kind}
use Rattle.key_expr.specs.declared.token.Kind.TheVariants.{Plus, Open, Close, Comma, Upper, Substr, Str, Dtoc, Name, Number, End}
use Rattle.key_expr.specs.Grammar.{Expr, Begin, EndsWith, Sort, Reads, one_term, sum, field_term, parens_term, upper_term, substr_term, str_term, dtoc_term, IsWholeExpression}
use Rattle.key_expr.specs.Expected.{Expected, expr, more, number, close, comma, finish, lengths, points, expected_after, first_unexpected}

pub begin_then : (ks ls : List Kind) (ts us vs : List Token) → Begin ks ts us → Begin ls us vs → Begin (ks ++ ls) ts vs
begin_then [] ls ts us vs e f = subst (λ (l : List Token). Begin ls l vs) (sym e) f
begin_then (k ∷ ks) ls [] us vs e f = absurd e
begin_then (k ∷ ks) ls (t ∷ ts) us vs e f = (e.0, begin_then ks ls ts us vs e.1 f)

pub begin_first : (k : Kind) (ts : List Token) (t : Token) (us : List Token) → ts ≡ t ∷ us → t.kind ≡ k → Begin (k ∷ []) ts us
begin_first k ts t us whole here = rw whole (here, refl)

-- what is expected after tokens of these kinds, where they fit
abbrev steps : List Expected → List Kind → Option (List Expected)
steps s [] = Some s
steps s (k ∷ ks) = elim (expected_after s k) [ None ↦ None | Some w ↦ steps w ks ]

past_first : (o : Option (List Expected)) (ks : List Kind) (w : List Expected) (offset : ℕ) (ts rest : List Token)
    → ((v : List Expected) → steps v ks ≡ Some w → first_unexpected v ts ≡ first_unexpected w rest)
    → elim o [ None ↦ None | Some v ↦ steps v ks ] ≡ Some w
    → elim o [ None ↦ Some offset | Some v ↦ first_unexpected v ts ] ≡ first_unexpected w rest
past_first None ks w offset ts rest later e = absurd cc
past_first (Some v) ks w offset ts rest later e = later v e

past : (ks : List Kind) (s w : List Expected) (ts rest : List Token) → Begin ks ts rest → steps s ks ≡ Some w → first_unexpected s ts ≡ first_unexpected w rest
past [] s w ts rest b e = cc
past (k ∷ ks) s w [] rest b e = absurd b
past (k ∷ ks) s w (t ∷ ts) rest b e = rw b.0 (past_first (expected_after s k) ks w t.offset ts rest (λ v. past ks v w ts rest b.1) e)

ends_past : (n d : Option ℕ) (s : List Expected) (ts rest : List Token) → EndsWith n d ts rest → first_unexpected (lengths ∷ s) ts ≡ first_unexpected s rest
ends_past None None s ts rest b = past (Close ∷ []) (lengths ∷ s) s ts rest b refl
ends_past None (Some d) s ts rest b = absurd b
ends_past (Some n) None s ts rest b =
    past (Comma ∷ Number n ∷ []) (lengths ∷ s) (points ∷ s) ts b.0 b.1 refl ∙ past (Close ∷ []) (points ∷ s) s b.0 rest b.2 refl
ends_past (Some n) (Some d) s ts rest b =
    past (Comma ∷ Number n ∷ []) (lengths ∷ s) (points ∷ s) ts b.0 b.1 refl ∙ past (Comma ∷ Number d ∷ Close ∷ []) (points ∷ s) s b.0 rest b.2 refl

-- past an expression, or a term of it
reads_past : {so : Sort} {e : Expr} {ts us : List Token} (s : List Expected) → Reads so e ts us → first_unexpected (expr ∷ s) ts ≡ first_unexpected (more ∷ s) us
reads_past s (one_term d) = reads_past s d
reads_past s (sum {us = us} {vs = vs} d b d2) = reads_past s d ∙ past (Plus ∷ []) (more ∷ s) (expr ∷ s) us vs b refl ∙ reads_past s d2
reads_past s (field_term {p = p} {ts = ts} {rest = r} b) = past (Name p ∷ []) (expr ∷ s) (more ∷ s) ts r b refl
reads_past s (parens_term {ts = ts} {us = us} {vs = vs} {rest = r} a d b) =
    past (Open ∷ []) (expr ∷ s) (expr ∷ close ∷ more ∷ s) ts us a refl ∙ reads_past (close ∷ more ∷ s) d
    ∙ past (Close ∷ []) (more ∷ close ∷ more ∷ s) (more ∷ s) vs r b refl
reads_past s (upper_term {ts = ts} {us = us} {vs = vs} {rest = r} a d b) =
    past (Upper ∷ Open ∷ []) (expr ∷ s) (expr ∷ close ∷ more ∷ s) ts us a refl ∙ reads_past (close ∷ more ∷ s) d
    ∙ past (Close ∷ []) (more ∷ close ∷ more ∷ s) (more ∷ s) vs r b refl
reads_past s (substr_term {from = n} {count = m} {ts = ts} {us = us} {vs = vs} {rest = r} a d b) =
    let last : List Expected = comma ∷ number ∷ comma ∷ number ∷ close ∷ more ∷ s in
    past (Substr ∷ Open ∷ []) (expr ∷ s) (expr ∷ last) ts us a refl ∙ reads_past last d
    ∙ past (Comma ∷ Number n ∷ Comma ∷ Number m ∷ Close ∷ []) (more ∷ last) (more ∷ s) vs r b refl
reads_past s (str_term {p = p} {n = n} {d = d} {ts = ts} {rest = r} us a b) =
    past (Str ∷ Open ∷ Name p ∷ []) (expr ∷ s) (lengths ∷ more ∷ s) ts us a refl ∙ ends_past n d (more ∷ s) us r b
reads_past s (dtoc_term {p = p} {ts = ts} {rest = r} b) = past (Dtoc ∷ Open ∷ Name p ∷ Close ∷ []) (expr ∷ s) (more ∷ s) ts r b refl

-- all tokens of a whole expression fit
pub text_fits : (e : Expr) (ts : List Token) → IsWholeExpression e ts → first_unexpected (expr ∷ finish ∷ []) ts ≡ None
text_fits e ts a = reads_past (finish ∷ []) a.1 ∙ past (End ∷ []) (more ∷ finish ∷ []) [] a.0 [] a.2 refl
