-- What follows from the definitions, with its proofs: laws that any crate may cite. The key of a record depends
-- on its cells of the expression's fields alone, and none of these is a memo.
use Rattle.std.proofs.Common.{◌≡◌, ◌≢◌, ℕ, ◌-◌, Bool, true, false, eqb, List, [], ◌∷◌, ◌++◌, map, take, drop, get_or, set, get_or-set_other, Option, Some, None, refl, sym, ap, ◌∙◌, arith, length}
use Rattle.std.specs.List.{slice_get}
use Rattle.std.specs.Char.{to_ascii_uppercase}
use Rattle.std.specs.Int.{is_in_range}
use Rattle.std.specs.Prelude.{◌&&◌, nat_le, nat_lt}
use Rattle.std.proofs.lemmas.Bool.{eqb-true, eqb-false, or_parts, false≢true}
use Rattle.dbf_fields.specs.declared.field.Field.{Field}
use Rattle.dbf_fields.specs.declared.format.TheConstants.{CHARACTER, NUMBER, DATE, MEMO}
use Rattle.dbf_fields.specs.Date.{date_shown}
use Rattle.dbf_fields.specs.Faults.{first_fault}
use Rattle.dbf_fields.proofs.FaultLaws.{first_parts}
use Rattle.dbf_fields.proofs.SchemaLaws.{passed}
use Rattle.key_expr.specs.declared.fault.ExprFault.{ExprFault}
use Rattle.key_expr.specs.declared.fault.ExprFault.TheVariants.{NoSuchField, NotCharacter, BadArgument, KeyTooLong}
use Rattle.key_expr.specs.declared.format.TheConstants.{MAX_KEY_BYTES}
use Rattle.key_expr.specs.Grammar.{Expr, field, concat, upper, substr, str, dtoc}
use Rattle.key_expr.specs.Keys.{key, key_length, names, length_given, decimals_given, OfEachField, IsNoMemo, AgreeButMemos}
use Rattle.key_expr.specs.Rules.{broken_rule, tests, kind_tests, has_kind, can_print}
use Rattle.key_expr.specs.StrText.{str_text}

-- cells that agree on the fields that an expression names give one key
pub same_key : (cs ds : List (List ℕ)) (e : Expr) → OfEachField (λ i. get_or cs i [] ≡ get_or ds i []) e → key cs e ≡ key ds e
same_key cs ds (field i) h = h
same_key cs ds (concat a b) h = ap (λ ks. ks ++ key cs b) (same_key cs ds a h.0) ∙ ap (λ ks. key ds a ++ ks) (same_key cs ds b h.1)
same_key cs ds (upper a) h = ap (map to_ascii_uppercase) (same_key cs ds a h)
same_key cs ds (substr a from count) h = ap (λ ks. take count (drop (from - 1) ks)) (same_key cs ds a h)
same_key cs ds (str i n d) h = ap (str_text (length_given n) (decimals_given d)) h
same_key cs ds (dtoc i) h = ap date_shown h

-- the cells that an expression names stay as they are where that of another field is replaced
cells_unnamed : (cells : List (List ℕ)) (f : ℕ) (cell : List ℕ) (e : Expr) → names f e ≡ false
    → OfEachField (λ i. get_or (set cells f cell) i [] ≡ get_or cells i []) e
cells_unnamed cells f cell (field i) h = get_or-set_other cells f i cell [] (eqb-false i f h)
cells_unnamed cells f cell (concat a b) h =
    let parts = or_parts (names f a) (names f b) h in
    (cells_unnamed cells f cell a parts.0, cells_unnamed cells f cell b parts.1)
cells_unnamed cells f cell (upper a) h = cells_unnamed cells f cell a h
cells_unnamed cells f cell (substr a from count) h = cells_unnamed cells f cell a h
cells_unnamed cells f cell (str i n d) h = get_or-set_other cells f i cell [] (eqb-false i f h)
cells_unnamed cells f cell (dtoc i) h = get_or-set_other cells f i cell [] (eqb-false i f h)

-- so the key stays
pub key_unnamed : (cells : List (List ℕ)) (f : ℕ) (cell : List ℕ) (e : Expr) → names f e ≡ false → key (set cells f cell) e ≡ key cells e
key_unnamed cells f cell e h = same_key (set cells f cell) cells e (cells_unnamed cells f cell e h)

of_each_weaker : (P Q : ℕ → Type 0) → ((i : ℕ) → P i → Q i) → (e : Expr) → OfEachField P e → OfEachField Q e
of_each_weaker P Q f (field i) h = f i h
of_each_weaker P Q f (concat a b) h = (of_each_weaker P Q f a h.0, of_each_weaker P Q f b h.1)
of_each_weaker P Q f (upper a) h = of_each_weaker P Q f a h
of_each_weaker P Q f (substr a from count) h = of_each_weaker P Q f a h
of_each_weaker P Q f (str i n d) h = f i h
of_each_weaker P Q f (dtoc i) h = f i h

-- a field of another kind is no memo
no_memo_kind : (fields : List Field) (i kind : ℕ) (more : List (Bool × ExprFault)) → kind ≢ MEMO
    → first_fault (kind_tests fields i kind ++ more) ≡ None → IsNoMemo fields i
no_memo_kind fields i kind more other h =
    let there = passed (nat_lt i (length fields)) (first_fault ((has_kind fields i kind, NotCharacter) ∷ more)) NoSuchField h in
    step (slice_get fields i) (passed (has_kind fields i kind) (first_fault more) NotCharacter there.1).0
  where
    step : (o : Option Field) → elim o [ None ↦ false | Some f ↦ eqb f.kind kind ] ≡ true → (f : Field) × (o ≡ Some f) × (f.kind ≢ MEMO)
    step None h = absurd (false≢true h)
    step (Some f) h = (f, refl, λ memo. other (sym (eqb-true f.kind kind h) ∙ memo))

no_memo_tests : (fields : List Field) (e : Expr) → first_fault (tests fields e) ≡ None → OfEachField (IsNoMemo fields) e
no_memo_tests fields (field i) h = no_memo_kind fields i CHARACTER [] (λ e. absurd (omega (arith, e))) h
no_memo_tests fields (concat a b) h =
    let parts = first_parts (tests fields a) (tests fields b) h in
    (no_memo_tests fields a parts.0, no_memo_tests fields b parts.1)
no_memo_tests fields (upper a) h = no_memo_tests fields a h
no_memo_tests fields (substr a from count) h =
    no_memo_tests fields a (first_parts (tests fields a) ((is_in_range 1 (key_length fields a) from && nat_le 1 count, BadArgument) ∷ []) h).0
no_memo_tests fields (str i n d) h =
    no_memo_kind fields i NUMBER ((can_print fields i (length_given n) (decimals_given d), BadArgument) ∷ []) (λ e. absurd (omega (arith, e))) h
no_memo_tests fields (dtoc i) h = no_memo_kind fields i DATE [] (λ e. absurd (omega (arith, e))) h

-- an expression that keeps the rules names no memo
pub no_memos : (fields : List Field) (e : Expr) → broken_rule fields e ≡ None → OfEachField (IsNoMemo fields) e
no_memos fields e kept = no_memo_tests fields e (first_parts (tests fields e) ((nat_le (key_length fields e) MAX_KEY_BYTES, KeyTooLong) ∷ []) kept).0

-- so cells that agree but for memos give one key
pub key_but_memos : (fields : List Field) (cs ds : List (List ℕ)) (e : Expr) → broken_rule fields e ≡ None → AgreeButMemos fields cs ds
    → key cs e ≡ key ds e
key_but_memos fields cs ds e kept agree =
    same_key cs ds e (of_each_weaker (IsNoMemo fields) (λ i. get_or cs i [] ≡ get_or ds i []) agree e (no_memos fields e kept))
