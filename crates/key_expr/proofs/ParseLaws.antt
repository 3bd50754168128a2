-- The function that parses a text and the grammar agree.
use Rattle.std.proofs.Common.{◌≡◌, ◌≢◌, ℕ, zero, suc, ◌+◌, ◌≤◌, ◌<◌, Bool, true, false, cond, leb, List, [], ◌∷◌, ◌++◌, length, Option, Some, None, refl, sym, ap, subst, arith}
use Rattle.std.proofs.lemmas.Bool.Decides.{nat_tests}
use Rattle.key_expr.specs.declared.token.Token.{Token}
use Rattle.key_expr.specs.declared.token.Kind.{Kind}
use Rattle.key_expr.specs.declared.token.Kind.TheVariants.{Plus, Open, Close, Comma, Upper, Substr, Str, Dtoc, Name, Number, End}
use Rattle.key_expr.specs.declared.fault.ExprFault.{ExprFault}
use Rattle.key_expr.specs.declared.format.TheConstants.{MAX_EXPRESSION_BYTES}
use Rattle.dbf_fields.specs.declared.field.Field.{Field}
use Rattle.key_expr.specs.Grammar.{Expr, upper, Begin, EndsPoints, EndsWith, Sort, a_term, an_expr, Reads, one_term, sum, field_term, parens_term, upper_term, substr_term, str_term, dtoc_term, IsWholeExpression, str}
use Rattle.key_expr.specs.Expression.{Expression, expression_in}
use Rattle.key_expr.specs.Parse.{Parsed, in_parentheses, windowed, term_first, added, summed, expression_first, whole, kinds_of, expr_of_tokens, where_kept, expr_in}
use Rattle.key_expr.specs.declared.fault.ExprFault.TheVariants.{NoMemory}
use Rattle.key_expr.specs.Rules.{broken_rule, IsKeyText, IsFault}
use Rattle.key_expr.specs.Tokens.{tokens_of}
use Rattle.key_expr.proofs.Parsing.{memory_only}
use Rattle.key_expr.proofs.Unique.{NotPlus, Follows, begin_not}

-- ---- tokens and their kinds

begins : (ks more : List Kind) (ts : List Token) → kinds_of ts ≡ ks ++ more → (rest : List Token) × Begin ks ts rest × (kinds_of rest ≡ more)
begins [] more ts e = (ts, refl, e)
begins (k ∷ ks) more [] e = absurd cc
begins (k ∷ ks) more (t ∷ ts) e = let later = begins ks more ts cc in (later.0, (cc, later.1), later.2)

kinds_first : (ks : List Kind) (ts rest : List Token) → Begin ks ts rest → kinds_of ts ≡ ks ++ kinds_of rest
kinds_first [] ts rest b = ap kinds_of b
kinds_first (k ∷ ks) [] rest b = absurd b
kinds_first (k ∷ ks) (t ∷ ts) rest b = let later = kinds_first ks ts rest b.1 in let first = b.0 in cc

longer : (ks : List Kind) (ts rest : List Token) → Begin ks ts rest → length ts ≡ length ks + length rest
longer [] ts rest b = let same : length ts ≡ length rest = ap length b in omega (arith, same)
longer (k ∷ ks) [] rest b = absurd b
longer (k ∷ ks) (t ∷ ts) rest b = let later = longer ks ts rest b.1 in omega (arith, later)

-- ---- what is parsed stands in the grammar

abbrev IsParsed : Sort → Parsed → List Token → Type 0
IsParsed so None ts = Unit {0}
IsParsed so (Some (e, ks)) ts = (rest : List Token) × Reads so e ts rest × (kinds_of rest ≡ ks)

closed_parsed : (f : Expr → Expr) (parsed : Parsed) (ts us : List Token)
    → ((e : Expr) (vs rest : List Token) → Reads an_expr e us vs → Begin (Close ∷ []) vs rest → Reads a_term (f e) ts rest)
    → IsParsed an_expr parsed us → IsParsed a_term (in_parentheses f parsed) ts
closed_parsed f (Some (e, Close ∷ ks)) ts us rule p = let b = begins (Close ∷ []) ks p.0 p.2 in (b.0, rule e p.0 b.0 p.1 b.1, b.2)
closed_parsed f parsed ts us rule p = tt

windowed_parsed : (parsed : Parsed) (ts us : List Token) → Begin (Substr ∷ Open ∷ []) ts us
    → IsParsed an_expr parsed us → IsParsed a_term (windowed parsed) ts
windowed_parsed (Some (e, Comma ∷ Number n ∷ Comma ∷ Number m ∷ Close ∷ ks)) ts us a p =
    let b = begins (Comma ∷ Number n ∷ Comma ∷ Number m ∷ Close ∷ []) ks p.0 p.2 in (b.0, substr_term a p.1 b.1, b.2)
windowed_parsed parsed ts us a p = tt

abbrev Parses : (List Kind → Parsed) → Type 0
Parses inside = (ts : List Token) → IsParsed an_expr (inside (kinds_of ts)) ts

parsed_after : (inside : List Kind → Parsed) → Parses inside → (ts : List Token) (ks : List Kind) → kinds_of ts ≡ ks → IsParsed an_expr (inside ks) ts
parsed_after inside parses ts ks same = subst (λ (ls : List Kind). IsParsed an_expr (inside ls) ts) same (parses ts)

term_parsed : (inside : List Kind → Parsed) → Parses inside → (ks : List Kind) (ts : List Token) → kinds_of ts ≡ ks → IsParsed a_term (term_first inside ks) ts
term_parsed inside parses (Name p ∷ ks) ts same = let b = begins (Name p ∷ []) ks ts same in (b.0, field_term b.1, b.2)
term_parsed inside parses (Open ∷ ks) ts same =
    let b = begins (Open ∷ []) ks ts same in
    closed_parsed (λ e. e) (inside ks) ts b.0 (λ e vs rest d c. parens_term b.1 d c) (parsed_after inside parses b.0 ks b.2)
term_parsed inside parses (Upper ∷ Open ∷ ks) ts same =
    let b = begins (Upper ∷ Open ∷ []) ks ts same in
    closed_parsed upper (inside ks) ts b.0 (λ e vs rest d c. upper_term b.1 d c) (parsed_after inside parses b.0 ks b.2)
term_parsed inside parses (Substr ∷ Open ∷ ks) ts same =
    let b = begins (Substr ∷ Open ∷ []) ks ts same in
    windowed_parsed (inside ks) ts b.0 b.1 (parsed_after inside parses b.0 ks b.2)
term_parsed inside parses (Str ∷ Open ∷ Name p ∷ Close ∷ ks) ts same =
    let a = begins (Str ∷ Open ∷ Name p ∷ []) (Close ∷ ks) ts same in
    let b = begins (Close ∷ []) ks a.0 a.2 in
    (b.0, str_term {n = None} {d = None} a.0 a.1 b.1, b.2)
term_parsed inside parses (Str ∷ Open ∷ Name p ∷ Comma ∷ Number n ∷ Close ∷ ks) ts same =
    let a = begins (Str ∷ Open ∷ Name p ∷ []) (Comma ∷ Number n ∷ Close ∷ ks) ts same in
    let b = begins (Comma ∷ Number n ∷ []) (Close ∷ ks) a.0 a.2 in
    let c = begins (Close ∷ []) ks b.0 b.2 in
    (c.0, str_term {n = Some n} {d = None} a.0 a.1 (b.0, b.1, c.1), c.2)
term_parsed inside parses (Str ∷ Open ∷ Name p ∷ Comma ∷ Number n ∷ Comma ∷ Number d ∷ Close ∷ ks) ts same =
    let a = begins (Str ∷ Open ∷ Name p ∷ []) (Comma ∷ Number n ∷ Comma ∷ Number d ∷ Close ∷ ks) ts same in
    let b = begins (Comma ∷ Number n ∷ []) (Comma ∷ Number d ∷ Close ∷ ks) a.0 a.2 in
    let c = begins (Comma ∷ Number d ∷ Close ∷ []) ks b.0 b.2 in
    (c.0, str_term {n = Some n} {d = Some d} a.0 a.1 (b.0, b.1, c.1), c.2)
term_parsed inside parses (Dtoc ∷ Open ∷ Name p ∷ Close ∷ ks) ts same =
    let b = begins (Dtoc ∷ Open ∷ Name p ∷ Close ∷ []) ks ts same in (b.0, dtoc_term b.1, b.2)
term_parsed inside parses ks ts same = tt

added_parsed : (e : Expr) (parsed : Parsed) (ts us vs : List Token) → Reads a_term e ts us → Begin (Plus ∷ []) us vs
    → IsParsed an_expr parsed vs → IsParsed an_expr (added e parsed) ts
added_parsed e None ts us vs d b p = tt
added_parsed e (Some (f, ks)) ts us vs d b p = (p.0, sum d b p.1, p.2)

summed_parsed : (inside : List Kind → Parsed) → Parses inside → (parsed : Parsed) (ts : List Token)
    → IsParsed a_term parsed ts → IsParsed an_expr (summed inside parsed) ts
summed_parsed inside parses (Some (e, Plus ∷ ks)) ts p =
    let b = begins (Plus ∷ []) ks p.0 p.2 in
    added_parsed e (inside ks) ts p.0 b.0 p.1 b.1 (parsed_after inside parses b.0 ks b.2)
summed_parsed inside parses (Some (e, ks)) ts p = (p.0, one_term p.1, p.2)
summed_parsed inside parses None ts p = tt

expression_parsed : (n : ℕ) (ts : List Token) → IsParsed an_expr (expression_first n (kinds_of ts)) ts
expression_parsed zero ts = tt
expression_parsed (suc n) ts =
    summed_parsed (expression_first n) (expression_parsed n) (term_first (expression_first n) (kinds_of ts)) ts
    (term_parsed (expression_first n) (expression_parsed n) (kinds_of ts) ts refl)

none_left : (ts : List Token) → kinds_of ts ≡ [] → ts ≡ []
none_left [] e = refl
none_left (t ∷ ts) e = absurd cc

whole_parsed : (parsed : Parsed) (ts : List Token) (e : Expr) → IsParsed an_expr parsed ts → whole parsed ≡ Some e → IsWholeExpression e ts
whole_parsed (Some (f, End ∷ [])) ts e p h =
    let b = begins (End ∷ []) [] p.0 p.2 in
    let same : f ≡ e = cc in (
      p.0,
      subst (λ (x : Expr). Reads an_expr x ts p.0) same p.1,
      subst (λ (l : List Token). Begin (End ∷ []) p.0 l) (none_left b.0 b.2) b.1,
    )
whole_parsed parsed ts e p h = absurd cc

-- ---- what stands in the grammar is parsed

points_shorter : (d : Option ℕ) (ts us : List Token) → EndsPoints d ts us → length us ≤ length ts
points_shorter None ts us b = omega (arith, longer (Close ∷ []) ts us b)
points_shorter (Some d) ts us b = omega (arith, longer (Comma ∷ Number d ∷ Close ∷ []) ts us b)

ends_shorter : (n d : Option ℕ) (ts us : List Token) → EndsWith n d ts us → length us ≤ length ts
ends_shorter None None ts us b = omega (arith, longer (Close ∷ []) ts us b)
ends_shorter None (Some d) ts us b = absurd b
ends_shorter (Some n) d ts us b = omega (arith, longer (Comma ∷ Number n ∷ []) ts b.0 b.1, points_shorter d b.0 us b.2)

shorter : {so : Sort} {e : Expr} {ts us : List Token} → Reads so e ts us → length us < length ts
shorter (one_term d) = shorter d
shorter (sum {us = us} {vs = vs} d b d2) = omega (arith, shorter d, longer (Plus ∷ []) us vs b, shorter d2)
shorter (field_term {p = p} {ts = ts} {rest = r} b) = omega (arith, longer (Name p ∷ []) ts r b)
shorter (parens_term {ts = ts} {us = us} {vs = vs} {rest = r} a d b) =
    omega (arith, longer (Open ∷ []) ts us a, shorter d, longer (Close ∷ []) vs r b)
shorter (upper_term {ts = ts} {us = us} {vs = vs} {rest = r} a d b) =
    omega (arith, longer (Upper ∷ Open ∷ []) ts us a, shorter d, longer (Close ∷ []) vs r b)
shorter (substr_term {from = n} {count = m} {ts = ts} {us = us} {vs = vs} {rest = r} a d b) =
    omega (arith, longer (Substr ∷ Open ∷ []) ts us a, shorter d, longer (Comma ∷ Number n ∷ Comma ∷ Number m ∷ Close ∷ []) vs r b)
shorter (str_term {p = p} {n = n} {d = d} {ts = ts} {rest = r} us a b) =
    omega (arith, longer (Str ∷ Open ∷ Name p ∷ []) ts us a, ends_shorter n d us r b)
shorter (dtoc_term {p = p} {ts = ts} {rest = r} b) = omega (arith, longer (Dtoc ∷ Open ∷ Name p ∷ Close ∷ []) ts r b)

not_summed : (inside : List Kind → Parsed) (e : Expr) (k : Kind) (ks : List Kind) → (k ≡ Plus → ⊥) → summed inside (Some (e, k ∷ ks)) ≡ Some (e, k ∷ ks)
not_summed inside e Plus ks other = absurd (other refl)
not_summed inside e k ks other = refl

summed_term : (inside : List Kind → Parsed) (e : Expr) (us : List Token) → NotPlus us → summed inside (Some (e, kinds_of us)) ≡ Some (e, kinds_of us)
summed_term inside e [] other = refl
summed_term inside e (t ∷ us) other = not_summed inside e t.kind (kinds_of us) other

-- so many parses are enough for a term, or for an expression
abbrev parsed_by : Sort → ℕ → List Kind → Parsed
parsed_by a_term n ks = term_first (expression_first n) ks
parsed_by an_expr n ks = expression_first n ks

abbrev IsEnough : Sort → ℕ → List Token → Type 0
IsEnough a_term n ts = length ts ≤ suc n
IsEnough an_expr n ts = length ts ≤ n

ends_term : (inside : List Kind → Parsed) (p : ℕ) (n d : Option ℕ) (us r : List Token) → EndsWith n d us r
    → term_first inside (Str ∷ Open ∷ Name p ∷ kinds_of us) ≡ Some (str p n d, kinds_of r)
ends_term inside p None None us r b = rw (kinds_first (Close ∷ []) us r b) refl
ends_term inside p None (Some d) us r b = absurd b
ends_term inside p (Some n) None us r b = rw (kinds_first (Comma ∷ Number n ∷ []) us b.0 b.1, kinds_first (Close ∷ []) b.0 r b.2) refl
ends_term inside p (Some n) (Some d) us r b = rw (kinds_first (Comma ∷ Number n ∷ []) us b.0 b.1, kinds_first (Comma ∷ Number d ∷ Close ∷ []) b.0 r b.2) refl

reads_parsed : {so : Sort} {e : Expr} {ts us : List Token} → Reads so e ts us → Follows so us → (n : ℕ) → IsEnough so n ts → parsed_by so n (kinds_of ts) ≡ Some (e, kinds_of us)
reads_parsed (one_term d) follows zero enough = absurd (omega (arith, shorter d, enough))
reads_parsed (sum d b d2) follows zero enough = absurd (omega (arith, shorter d, enough))
reads_parsed {us = us} (one_term {e = e} d) follows (suc n) enough = rw (reads_parsed d tt n enough) (summed_term (expression_first n) e us follows)
reads_parsed (sum {us = us} {vs = vs} d b d2) follows (suc n) enough =
    rw (reads_parsed d tt n enough, kinds_first (Plus ∷ []) us vs b, reads_parsed d2 follows n (omega (arith, shorter d, longer (Plus ∷ []) us vs b, enough))) refl
reads_parsed (field_term {p = p} {ts = ts} {rest = r} b) follows n enough = rw (kinds_first (Name p ∷ []) ts r b) refl
reads_parsed (parens_term {ts = ts} {us = us} {vs = vs} {rest = r} a d b) follows n enough =
    rw (kinds_first (Open ∷ []) ts us a, reads_parsed d (begin_not Close [] vs r (λ (x : Close ≡ Plus). cc) b) n (omega (arith, longer (Open ∷ []) ts us a, enough)), kinds_first (Close ∷ []) vs r b) refl
reads_parsed (upper_term {ts = ts} {us = us} {vs = vs} {rest = r} a d b) follows n enough =
    rw (kinds_first (Upper ∷ Open ∷ []) ts us a, reads_parsed d (begin_not Close [] vs r (λ (x : Close ≡ Plus). cc) b) n (omega (arith, longer (Upper ∷ Open ∷ []) ts us a, enough)), kinds_first (Close ∷ []) vs r b) refl
reads_parsed (substr_term {from = i} {count = j} {ts = ts} {us = us} {vs = vs} {rest = r} a d b) follows n enough =
    rw (kinds_first (Substr ∷ Open ∷ []) ts us a, reads_parsed d (begin_not Comma (Number i ∷ Comma ∷ Number j ∷ Close ∷ []) vs r (λ (x : Comma ≡ Plus). cc) b) n (omega (arith, longer (Substr ∷ Open ∷ []) ts us a, enough)), kinds_first (Comma ∷ Number i ∷ Comma ∷ Number j ∷ Close ∷ []) vs r b) refl
reads_parsed (str_term {p = p} {n = m} {d = d} {ts = ts} {rest = r} us a b) follows n enough =
    rw (kinds_first (Str ∷ Open ∷ Name p ∷ []) ts us a) (ends_term (expression_first n) p m d us r b)
reads_parsed (dtoc_term {p = p} {ts = ts} {rest = r} b) follows n enough = rw (kinds_first (Dtoc ∷ Open ∷ Name p ∷ Close ∷ []) ts r b) refl

-- ---- the two agree

pub text_of_tokens : (ts : List Token) (e : Expr) → expr_of_tokens ts ≡ Some e → IsWholeExpression e ts
unfolding expr_of_tokens
text_of_tokens ts e h = whole_parsed (expression_first (length ts) (kinds_of ts)) ts e (expression_parsed (length ts) ts) h

pub tokens_of_text : (ts : List Token) (e : Expr) → IsWholeExpression e ts → expr_of_tokens ts ≡ Some e
unfolding expr_of_tokens
tokens_of_text ts e t =
    rw (reads_parsed t.1 (begin_not End [] t.0 [] (λ (x : End ≡ Plus). cc) t.2) (length ts) (omega arith), kinds_first (End ∷ []) t.0 [] t.2) refl

kept_some : (fields : List Field) (o : Option Expr) (e : Expr) → where_kept fields o ≡ Some e → (o ≡ Some e) × (broken_rule fields e ≡ None)
kept_some fields None e h = absurd cc
kept_some fields (Some f) e h = go (broken_rule fields f) refl h
  where
    go : (r : Option ExprFault) → broken_rule fields f ≡ r → elim r [ None ↦ Some f | Some fault ↦ None ] ≡ Some e → (Some f ≡ Some e) × (broken_rule fields e ≡ None)
    go None here h = let same : f ≡ e = cc in (h, subst (λ (x : Expr). broken_rule fields x ≡ None) same here)
    go (Some fault) here h = absurd cc

some_kept : (fields : List Field) (e : Expr) → broken_rule fields e ≡ None → where_kept fields (Some e) ≡ Some e
some_kept fields e h = rw (h, where_kept) refl

chosen : (b : Bool) (o : Option Expr) (e : Expr) → cond b o None ≡ Some e → (b ≡ true) × (o ≡ Some e)
chosen true o e h = (refl, h)
chosen false o e h = absurd cc

-- the function answers a key expression of the text
pub expr_in_is : (fields : List Field) (text : List ℕ) (e : Expr) → expr_in fields text ≡ Some e → IsKeyText fields text e
unfolding expr_in
expr_in_is fields text e h =
    let test = chosen (leb (length text) MAX_EXPRESSION_BYTES) (where_kept fields (expr_of_tokens (tokens_of fields text))) e h in
    let short : leb (length text) MAX_EXPRESSION_BYTES ≡ true = test.0 in
    let kept = kept_some fields (expr_of_tokens (tokens_of fields text)) e test.1 in
    record {
      short = grind (arith, nat_tests, short);
      read = text_of_tokens (tokens_of fields text) e kept.0;
      kept = kept.1;
    }

-- and each key expression of the text
pub key_text_is : (fields : List Field) (text : List ℕ) (e : Expr) → IsKeyText fields text e → expr_in fields text ≡ Some e
unfolding expr_in
key_text_is fields text e k =
    let short : leb (length text) MAX_EXPRESSION_BYTES ≡ true = grind (arith, nat_tests, k.short) in
    rw (short, tokens_of_text (tokens_of fields text) e k.read) (some_kept fields e k.kept)

-- so it answers nothing exactly where the text is no key expression
pub none_is : (fields : List Field) (text : List ℕ) → expr_in fields text ≡ None → (e : Expr) → IsKeyText fields text e → ⊥
none_is fields text h e k = let some = key_text_is fields text e k in cc

pub is_none : (fields : List Field) (text : List ℕ) → ((e : Expr) → IsKeyText fields text e → ⊥) → expr_in fields text ≡ None
is_none fields text never = go (expr_in fields text) refl
  where
    go : (o : Option Expr) → expr_in fields text ≡ o → o ≡ None
    go None here = refl
    go (Some e) here = absurd (never e (expr_in_is fields text e here))

-- an expression that was read of a text for fields is the one that the function gives
pub expression_is : (fields : List Field) (text : List ℕ) (x : Expression) → x.text ≡ text → x.fields ≡ fields → IsKeyText fields text x.expr → expression_in fields text ≡ Some x
expression_is fields text x same_text same_fields k =
    rw (key_text_is fields text x.expr k, expression_in) (λ i. Some (record { text = sym same_text i; fields = sym same_fields i; expr = x.expr }))

-- and of a text with another fault than want of memory it gives none
pub fault_none : (fields : List Field) (text : List ℕ) (f : ExprFault) → IsFault f fields text → f ≢ NoMemory → expression_in fields text ≡ None
fault_none fields text f h other = rw (is_none fields text (λ e k. other (memory_only fields text e f k h)), expression_in) refl
