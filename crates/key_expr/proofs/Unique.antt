-- A text is read in one way.
use Rattle.std.proofs.Common.{◌≡◌, ℕ, List, [], ◌∷◌, Option, Some, None, refl, sym, ◌∙◌, ap, subst, arith, length}
use Rattle.key_expr.specs.declared.token.Token.{Token}
use Rattle.key_expr.specs.declared.token.Kind.{Kind}
use Rattle.key_expr.specs.declared.token.Kind.TheVariants.{Plus, Open, Close, Comma, Upper, Substr, Str, Dtoc, Name, Number, End}
use Rattle.key_expr.specs.Grammar.{Expr, upper, Begin, EndsPoints, EndsWith, Sort, a_term, an_expr, Reads, one_term, sum, field_term, parens_term, upper_term, substr_term, str_term, dtoc_term, IsWholeExpression}

-- which rule a first token is for
abbrev rule_of_kind : Kind → ℕ
rule_of_kind (Name p) = 0
rule_of_kind Open = 1
rule_of_kind Upper = 2
rule_of_kind Substr = 3
rule_of_kind Str = 4
rule_of_kind Dtoc = 5
rule_of_kind k = 6

abbrev rule_of : List Token → ℕ
rule_of [] = 7
rule_of (t ∷ ts) = rule_of_kind t.kind

begin_rule : (k : Kind) (ks : List Kind) (ts rest : List Token) → Begin (k ∷ ks) ts rest → rule_of ts ≡ rule_of_kind k
begin_rule k ks [] rest b = absurd b
begin_rule k ks (t ∷ ts) rest b = ap rule_of_kind b.0

abbrev pub NotPlus : List Token → Type 0
NotPlus [] = Unit {0}
NotPlus (t ∷ ts) = t.kind ≡ Plus → ⊥

abbrev pub Follows : Sort → List Token → Type 0
Follows a_term ts = Unit {0}
Follows an_expr ts = NotPlus ts

pub begin_not : (k : Kind) (ks : List Kind) (ts rest : List Token) → (k ≡ Plus → ⊥) → Begin (k ∷ ks) ts rest → NotPlus ts
begin_not k ks [] rest h b = tt
begin_not k ks (t ∷ ts) rest h b = λ e. h (sym b.0 ∙ e)

plus_not : (us ws vs : List Token) → us ≡ ws → NotPlus us → Begin (Plus ∷ []) ws vs → ⊥
plus_not us [] vs e h b = b
plus_not us (w ∷ ws) vs e h b = let there : NotPlus (w ∷ ws) = subst NotPlus e h in there b.0

abbrev rule : {so : Sort} {e : Expr} {ts us : List Token} → Reads so e ts us → ℕ
rule (one_term d) = 8
rule (sum d b d2) = 8
rule (field_term b) = 0
rule (parens_term a d b) = 1
rule (upper_term a d b) = 2
rule (substr_term a d b) = 3
rule (str_term us a b) = 4
rule (dtoc_term b) = 5

rule_is : {e : Expr} {ts us : List Token} (d : Reads a_term e ts us) → rule_of ts ≡ rule d
rule_is (field_term {p = p} {ts = ts} {rest = r} b) = begin_rule (Name p) [] ts r b
rule_is (parens_term {ts = ts} {us = us} a d b) = begin_rule Open [] ts us a
rule_is (upper_term {ts = ts} {us = us} a d b) = begin_rule Upper (Open ∷ []) ts us a
rule_is (substr_term {ts = ts} {us = us} a d b) = begin_rule Substr (Open ∷ []) ts us a
rule_is (str_term {p = p} {ts = ts} us a b) = begin_rule Str (Open ∷ Name p ∷ []) ts us a
rule_is (dtoc_term {p = p} {ts = ts} {rest = r} b) = begin_rule Dtoc (Open ∷ Name p ∷ Close ∷ []) ts r b

same_kinds : (ks ls : List Kind) (ts us vs : List Token) → Begin ks ts us → Begin ls ts vs → length ks ≡ length ls → (ks ≡ ls) × (us ≡ vs)
same_kinds [] [] ts us vs a b e = (refl, sym a ∙ b)
same_kinds [] (l ∷ ls) ts us vs a b e = absurd (omega (arith, e))
same_kinds (k ∷ ks) [] ts us vs a b e = absurd (omega (arith, e))
same_kinds (k ∷ ks) (l ∷ ls) [] us vs a b e = absurd a
same_kinds (k ∷ ks) (l ∷ ls) (t ∷ ts) us vs a b e =
    let r = same_kinds ks ls ts us vs a.1 b.1 (omega (arith, e)) in
    let h : k ≡ l = sym a.0 ∙ b.0 in
    let g : ks ≡ ls = r.0 in (cc, r.1)

same_points : (d e : Option ℕ) (ts us vs : List Token) → EndsPoints d ts us → EndsPoints e ts vs → (d ≡ e) × (us ≡ vs)
same_points None None ts us vs a b = (refl, (same_kinds (Close ∷ []) (Close ∷ []) ts us vs a b refl).1)
same_points None (Some e) [] us vs a b = absurd a
same_points None (Some e) (t ∷ ts) us vs a b = let h : Close ≡ Comma = sym a.0 ∙ b.0 in cc
same_points (Some d) None [] us vs a b = absurd a
same_points (Some d) None (t ∷ ts) us vs a b = let h : Comma ≡ Close = sym a.0 ∙ b.0 in cc
same_points (Some d) (Some e) ts us vs a b =
    let r = same_kinds (Comma ∷ Number d ∷ Close ∷ []) (Comma ∷ Number e ∷ Close ∷ []) ts us vs a b refl in (cc (r.0), r.1)

same_ends : (n d m e : Option ℕ) (ts us vs : List Token) → EndsWith n d ts us → EndsWith m e ts vs → (n ≡ m) × (d ≡ e) × (us ≡ vs)
same_ends None (Some d) m e ts us vs a b = absurd a
same_ends n d None (Some e) ts us vs a b = absurd b
same_ends None None None None ts us vs a b = (refl, refl, (same_kinds (Close ∷ []) (Close ∷ []) ts us vs a b refl).1)
same_ends None None (Some m) e [] us vs a b = absurd a
same_ends None None (Some m) e (t ∷ ts) us vs a b = let h : Close ≡ Comma = sym a.0 ∙ b.1.0 in absurd cc
same_ends (Some n) d None None [] us vs a b = absurd b
same_ends (Some n) d None None (t ∷ ts) us vs a b = let h : Comma ≡ Close = sym a.1.0 ∙ b.0 in absurd cc
same_ends (Some n) d (Some m) e ts us vs a b =
    let r = same_kinds (Comma ∷ Number n ∷ []) (Comma ∷ Number m ∷ []) ts a.0 b.0 a.1 b.1 refl in
    let p = same_points d e a.0 us vs a.2 (subst (λ (l : List Token). EndsPoints e l vs) (sym r.1) b.2) in
    (cc (r.0), p.0, p.1)

same : {so : Sort} {e f : Expr} {ts us vs : List Token} → Reads so e ts us → Reads so f ts vs → Follows so us → Follows so vs → (e ≡ f) × (us ≡ vs)
same (one_term d) (one_term d2) p q = same d d2 tt tt
same {us = us} (one_term d) (sum {us = ws} {vs = xs} d2 b d3) p q = absurd (plus_not us ws xs (same d d2 tt tt).1 p b)
same {vs = vs} (sum {us = ws} {vs = xs} d b d3) (one_term d2) p q = absurd (plus_not vs ws xs (sym (same d d2 tt tt).1) q b)
same {vs = vs} (sum {us = ws} {vs = xs} d b d3) (sum {f = g} {us = ys} {vs = zs} d2 b2 d4) p q =
    let first = same d d2 tt tt in
    let there = (same_kinds (Plus ∷ []) (Plus ∷ []) ws xs zs b (subst (λ (l : List Token). Begin (Plus ∷ []) l zs) (sym first.1) b2) refl).1 in
    let others = same d3 (subst (λ (l : List Token). Reads an_expr g l vs) (sym there) d4) p q in
    (cc (first.0, others.0), others.1)
same {ts = ts} {us = us} {vs = vs} (field_term {p = m} b) (field_term {p = n} b2) p q =
    let r = same_kinds (Name m ∷ []) (Name n ∷ []) ts us vs b b2 refl in (cc (r.0), r.1)
same {ts = ts} {us = r} {vs = r2} (parens_term {us = us} {vs = vs} a d b) (parens_term {e = g} {us = ws} {vs = xs} a2 d2 b2) p q =
    let start = (same_kinds (Open ∷ []) (Open ∷ []) ts us ws a a2 refl).1 in
    let inside = same d (subst (λ (l : List Token). Reads an_expr g l xs) (sym start) d2)
    (begin_not Close [] vs r (λ (x : Close ≡ Plus). cc) b) (begin_not Close [] xs r2 (λ (x : Close ≡ Plus). cc) b2) in
    (inside.0, (same_kinds (Close ∷ []) (Close ∷ []) vs r r2 b (subst (λ (l : List Token). Begin (Close ∷ []) l r2) (sym inside.1) b2) refl).1)
same {ts = ts} {us = r} {vs = r2} (upper_term {us = us} {vs = vs} a d b) (upper_term {e = g} {us = ws} {vs = xs} a2 d2 b2) p q =
    let start = (same_kinds (Upper ∷ Open ∷ []) (Upper ∷ Open ∷ []) ts us ws a a2 refl).1 in
    let inside = same d (subst (λ (l : List Token). Reads an_expr g l xs) (sym start) d2)
    (begin_not Close [] vs r (λ (x : Close ≡ Plus). cc) b) (begin_not Close [] xs r2 (λ (x : Close ≡ Plus). cc) b2) in
    (ap upper inside.0, (same_kinds (Close ∷ []) (Close ∷ []) vs r r2 b (subst (λ (l : List Token). Begin (Close ∷ []) l r2) (sym inside.1) b2) refl).1)
same {ts = ts} {us = r} {vs = r2} (substr_term {from = n} {count = m} {us = us} {vs = vs} a d b) (substr_term {e = g} {from = i} {count = j} {us = ws} {vs = xs} a2 d2 b2) p q =
    let start = (same_kinds (Substr ∷ Open ∷ []) (Substr ∷ Open ∷ []) ts us ws a a2 refl).1 in
    let inside = same d (subst (λ (l : List Token). Reads an_expr g l xs) (sym start) d2)
    (begin_not Comma (Number n ∷ Comma ∷ Number m ∷ Close ∷ []) vs r (λ (x : Comma ≡ Plus). cc) b) (begin_not Comma (Number i ∷ Comma ∷ Number j ∷ Close ∷ []) xs r2 (λ (x : Comma ≡ Plus). cc) b2) in
    let tail : List Kind = Comma ∷ Number i ∷ Comma ∷ Number j ∷ Close ∷ [] in
    let last = same_kinds (Comma ∷ Number n ∷ Comma ∷ Number m ∷ Close ∷ []) tail vs r r2 b
    (subst (λ (l : List Token). Begin tail l r2) (sym inside.1) b2) refl in
    (cc (inside.0, last.0), last.1)
same {ts = ts} {us = r} {vs = r2} (str_term {p = m} {n = n} {d = d} us a b) (str_term {p = i} {n = j} {d = k} ws a2 b2) p q =
    let start = same_kinds (Str ∷ Open ∷ Name m ∷ []) (Str ∷ Open ∷ Name i ∷ []) ts us ws a a2 refl in
    let last = same_ends n d j k us r r2 b (subst (λ (l : List Token). EndsWith j k l r2) (sym start.1) b2) in
    (cc (start.0, last.0, last.1), last.2)
same {ts = ts} {us = us} {vs = vs} (dtoc_term {p = m} b) (dtoc_term {p = n} b2) p q =
    let r = same_kinds (Dtoc ∷ Open ∷ Name m ∷ Close ∷ []) (Dtoc ∷ Open ∷ Name n ∷ Close ∷ []) ts us vs b b2 refl in (cc (r.0), r.1)
same d d2 p q = let h : rule d ≡ rule d2 = sym (rule_is d) ∙ rule_is d2 in absurd (omega (arith, h))

pub one_reading : (ts : List Token) (e f : Expr) → IsWholeExpression e ts → IsWholeExpression f ts → e ≡ f
one_reading ts e f a b =
    (same a.1 b.1 (begin_not End [] a.0 [] (λ (x : End ≡ Plus). cc) a.2) (begin_not End [] b.0 [] (λ (x : End ≡ Plus). cc) b.2)).0
