-- What INDEX ON tests before it asks for memory, and what it keeps.
use Rattle.std.proofs.Common.{◌≡◌, inr, ℕ, ◌+◌, ◌-◌, Bool, true, false, nat_le, List, [], ◌∷◌, length, Some, None, Result, Ok, Err, refl, sym, subst, arith, length-set, length-append}
use Rattle.std.specs.Prelude.{IfOk, IsOk}
use Rattle.std.proofs.Math.Seq.{map-set_same}
use Rattle.std.proofs.lemmas.List.{get_or-set_other}
use Rattle.dbf_fields.specs.declared.field.Field.{Field}
use Rattle.key_expr.specs.declared.format.TheConstants.{MAX_EXPRESSION_BYTES}
use Rattle.key_expr.specs.Expression.{Expression, expression_in}
use Rattle.key_expr.specs.Parse.{expr_in}
use Rattle.table_core.specs.declared.cursor.Cursor.{Cursor}
use Rattle.table_core.specs.declared.refusal.Refusal.{Refusal}
use Rattle.table_core.specs.declared.refusal.Refusal.TheVariants.{NoTableInUse, NeedsExclusive, BadCommand, BadExpression}
use Rattle.table_core.specs.Content.{Content, Indexed, with_index}
use Rattle.table_core.specs.Cursors.{IsCursor}
use Rattle.table_core.specs.Edits.{with_made_index}
use Rattle.table_core.specs.Laws.Numbers.{is_place}
use Rattle.table_core.specs.Outcomes.{found, granted, passed}
use Rattle.table_core.specs.Laws.Outcomes.{of_found, of_granted, of_passed}
use Rattle.catalogue_core.specs.declared.answer.Answer.{Answer}
use Rattle.catalogue_core.specs.declared.answer.Answer.TheVariants.{Done}
use Rattle.catalogue_core.specs.declared.area.Area.{Area}
use Rattle.catalogue_core.specs.IndexOn.{is_index_name, index_target, index_early, new_index}
use Rattle.catalogue_core.specs.State.{State, new_station, no_content, area_of, table_of, HasStation, IsState}
use Rattle.catalogue_core.specs.Step.{Outcome, with_edit, index_on}
use Rattle.catalogue_core.proofs.AddedLaws.{first_added, keep_set}
use Rattle.catalogue_core.proofs.Cases.{when_ok}
use Rattle.catalogue_core.proofs.KeptLaws.{keep_edit}
use Rattle.catalogue_core.proofs.NextLaws.{IsNext}

-- ---- the first tests

-- a text that is longer than an expression can be is none
long_none : (fields : List Field) (text : List ℕ) → nat_le (length text) MAX_EXPRESSION_BYTES ≡ false → expression_in fields text ≡ None
unfolding expr_in
long_none fields text long = rw long refl

-- where it is one, it is no longer
found_short : (fields : List Field) (text : List ℕ) (area : Area) (act : Expression → Outcome) (b : Bool) → nat_le (length text) MAX_EXPRESSION_BYTES ≡ b
    → IsOk (found (expression_in fields text) BadExpression act) → IsOk (granted b BadExpression (Ok area))
found_short fields text area act true is ok = refl
found_short fields text area act false is ok = let none = rw (long_none fields text is) at ok in absurd cc

-- what comes of the expression
abbrev made_of : State → ℕ → List ℕ → Area → Expression → Outcome
made_of s station name area e = passed (new_index s area name e) (λ index. Ok (with_edit s station area (with_made_index (table_of s area) area.cursor index), Done))

-- where the index is made, the first tests pass
pub early_passed : (s : State) (station : ℕ) (text name : List ℕ) (end : State × Answer) → index_on s station text name ≡ Ok end → IsOk (index_early s station text name)
early_passed s station text name end made = by (index_target s station name) (subst (λ (o : Outcome). IsOk o) (sym made) refl)
  where
    by : (r : Result Area Refusal) → IsOk (passed r (λ area. found (expression_in (table_of s area).table.schema text) BadExpression (made_of s station name area))) → IsOk (passed r (λ area. granted (nat_le (length text) MAX_EXPRESSION_BYTES) BadExpression (Ok area)))
    by (Err refusal) ok = ok
    by (Ok area) ok = found_short (table_of s area).table.schema text area (made_of s station name area) (nat_le (length text) MAX_EXPRESSION_BYTES) refl ok

-- ---- the state

-- the current area, which has its table exclusively
record IsIndexTarget (s : State) (station : ℕ) (area : Area) : Type 0 where
  pub open_ : area_of s station ≡ Some area
  pub only : area.exclusive ≡ true

is_index_target : (s : State) (station : ℕ) (name : List ℕ) → IfOk (index_target s station name) (IsIndexTarget s station)
is_index_target s station name =
    of_granted (IsIndexTarget s station) (is_index_name name) BadCommand _ (λ _.
    of_found (IsIndexTarget s station) (area_of s station) NoTableInUse _ (λ area is.
    of_granted (IsIndexTarget s station) area.exclusive NeedsExclusive (Ok area) (λ only. record { open_ = is; only = only })))

made_cursor : (content : Content) (cursor : Cursor) (index : Indexed) → IsCursor (with_index content index) (with_made_index content cursor index).1
made_cursor content cursor index = record {
  place = is_place (with_index content index) (length content.indexes + 1) 0;
  order = omega (arith, length-append content.indexes (index ∷ []));
}

pub next_index_on : (s : State) (station : ℕ) (text name : List ℕ) → IsState s → HasStation s station → IfOk (index_on s station text name) (IsNext s station)
next_index_on s station text name ok h =
    of_passed (IsNext s station) (index_target s station name) _ (λ area there.
    of_found (IsNext s station) (expression_in (table_of s area).table.schema text) BadExpression _ (λ e _.
    of_passed (IsNext s station) (new_index s area name e) _ (λ index _.
    let target = when_ok (IsIndexTarget s station) (index_target s station name) area (is_index_target s station name) there in
    let made = with_made_index (table_of s area) area.cursor index in
    record {
      state = keep_edit s station area made ok h target.open_ (made_cursor (table_of s area) area.cursor index) (inr target.only);
      stations = length-set s.stations (station - 1) _;
      names = refl;
      fields = map-set_same (λ (content : Content). content.table.schema) s.tables (area.table - 1) made.0 no_content refl;
      indexes = keep_set s.tables (area.table - 1) made.0 (first_added (table_of s area).indexes index);
      others = λ b n. get_or-set_other s.stations (station - 1) b _ new_station n;
      answer = tt;
    })))
