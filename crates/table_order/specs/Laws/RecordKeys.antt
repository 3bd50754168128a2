-- The key of a record is that of its bytes, and no key depends on the text of a memo.
use Rattle.std.proofs.Common.{◌≡◌, ◌≢◌, ℕ, zero, suc, Bool, true, false, cond, eqb, List, [], ◌∷◌, take, drop, get_or, set, get_or-set_other, Some, None, refl, ap, sym, ◌∙◌}
use Rattle.std.specs.List.{slice_get}
use Rattle.std.proofs.lemmas.Bool.{ne_eqb}
use Rattle.dbf_fields.specs.declared.field.Field.{Field}
use Rattle.dbf_fields.specs.declared.format.TheConstants.{MEMO}
use Rattle.dbf_fields.specs.Layout.{cells_of}
use Rattle.dbf_image.specs.Table.{kind_at}
use Rattle.dbf_image.specs.Store.{first_memo, cells_with}
use Rattle.key_expr.specs.Grammar.{Expr}
use Rattle.key_expr.specs.Keys.{key, AgreeButMemos}
use Rattle.key_expr.specs.Rules.{broken_rule}
use Rattle.key_expr.specs.Laws.{key_but_memos}

cells_by : (fs : List Field) (own rest : List ℕ) (memos : List (List ℕ)) (i : ℕ) (b : Bool) → ((m : List (List ℕ)) → get_or (cells_of fs rest) i [] ≡ get_or (cells_with fs rest m) i [])
    → get_or (cells_of fs rest) i [] ≡ get_or (cond b (first_memo memos ∷ cells_with fs rest (drop 1 memos)) (own ∷ cells_with fs rest memos)) (suc i) []
cells_by fs own rest memos i true ih = ih (drop 1 memos)
cells_by fs own rest memos i false ih = ih memos

-- the cells that the bytes are, and those of a record whose memos stand beside the bytes
pub cells_agree : (fields : List Field) (bytes : List ℕ) (memos : List (List ℕ)) → AgreeButMemos fields (cells_of fields bytes) (cells_with fields bytes memos)
cells_agree [] bytes memos i plain = refl
cells_agree (g ∷ fs) bytes memos zero (f, at, other) =
    let same : g ≡ f = cc in
    let k : g.kind ≢ MEMO = λ e. other (sym (ap (λ (x : Field). x.kind) same) ∙ e) in
    rw (ne_eqb g.kind MEMO k) refl
cells_agree (g ∷ fs) bytes memos (suc i) plain =
    cells_by fs (take g.width bytes) (drop g.width bytes) memos i (eqb g.kind MEMO) (λ m. cells_agree fs (drop g.width bytes) m i plain)

kind_here : (fields : List Field) (i : ℕ) (f : Field) → slice_get fields i ≡ Some f → kind_at fields i ≡ f.kind
kind_here [] i f at = cc
kind_here (g ∷ fs) zero f at = let same : g ≡ f = cc in ap (λ (x : Field). x.kind) same
kind_here (g ∷ fs) (suc i) f at = kind_here fs i f at

-- the text of a memo replaced
pub memo_agrees : (fields : List Field) (cells : List (List ℕ)) (field : ℕ) (text : List ℕ) → kind_at fields field ≡ MEMO → AgreeButMemos fields (set cells field text) cells
memo_agrees fields cells field text memo i (f, at, other) =
    get_or-set_other cells field i text [] (λ same. other (sym (kind_here fields i f at) ∙ ap (kind_at fields) same ∙ memo))

pub key_of_memo : (fields : List Field) (e : Expr) (cells : List (List ℕ)) (field : ℕ) (text : List ℕ) → broken_rule fields e ≡ None → kind_at fields field ≡ MEMO → key (set cells field text) e ≡ key cells e
key_of_memo fields e cells field text kept memo = key_but_memos fields (set cells field text) cells e kept (memo_agrees fields cells field text memo)
