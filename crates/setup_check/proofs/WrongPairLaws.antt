-- The first of some pairs that isn't its record's.
use Rattle.std.proofs.Common.{◌≡◌, ℕ, ◌+◌, ◌<◌, Bool, true, false, cond, List, length, drop, get_or, ap, ◌∙◌, Some}
use Rattle.std.proofs.lemmas.List.{drop_more}
use Rattle.dbf_image.specs.Table.{Table}
use Rattle.key_expr.specs.Grammar.{Expr}
use Rattle.ndx_index.specs.declared.pair.Pair.{Pair}
use Rattle.setup_check.specs.WrongPair.{is_record_pair, first_wrong_from, wrong_pair}

-- the pair at an index isn't,
pub first_here : (table : Table) (e : Expr) (n : ℕ) (ps : List Pair) (i : ℕ) (d : Pair) → i < length ps → is_record_pair table e (get_or ps i d) ≡ false
    → first_wrong_from table e n (drop i ps) ≡ Some (wrong_pair table e n (get_or ps i d))
first_here table e n ps i d lt wrong =
    ap (first_wrong_from table e n) (drop_more ps i d lt)
    ∙ ap (λ (b : Bool). cond b (first_wrong_from table e (n + 1) (drop (i + 1) ps)) (Some (wrong_pair table e n (get_or ps i d)))) wrong

-- or is
pub first_later : (table : Table) (e : Expr) (n : ℕ) (ps : List Pair) (i : ℕ) (d : Pair) → i < length ps → is_record_pair table e (get_or ps i d) ≡ true
    → first_wrong_from table e n (drop i ps) ≡ first_wrong_from table e (n + 1) (drop (i + 1) ps)
first_later table e n ps i d lt own =
    ap (first_wrong_from table e n) (drop_more ps i d lt)
    ∙ ap (λ (b : Bool). cond b (first_wrong_from table e (n + 1) (drop (i + 1) ps)) (Some (wrong_pair table e n (get_or ps i d)))) own
