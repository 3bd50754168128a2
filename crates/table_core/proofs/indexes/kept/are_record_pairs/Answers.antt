use Rattle.std.proofs.Common.{◌≡◌, ℕ, zero, suc, ◌<◌, List, [], ◌∷◌, length, take, get_or, refl, sym, subst, ◌∙◌, arith}
use Rattle.std.specs.List.{AllByRecursion}
use Rattle.std.proofs.lemmas.Bool.{false≢true}
use Rattle.std.proofs.lemmas.List.{take_all, take_more}
use Rattle.ndx_index.specs.declared.pair.Pair.{Pair}
use Rattle.ndx_index.specs.Slots.{slot_at, no_pair}
use Rattle.table_order.specs.TableOrder.{IsRecordPair}
use Rattle.table_core.proofs.Turned.{all_push}
use Rattle.table_core.proofs.indexes.kept.are_record_pairs.Goals as goal

all_at : (P : Pair → Type 0) (ps : List Pair) (i : ℕ) (d : Pair) → i < length ps → AllByRecursion P ps → P (get_or ps i d)
all_at P [] i d lt all = absurd (omega arith)
all_at P (p ∷ ps) zero d lt all = all.0
all_at P (p ∷ ps) (suc i) d lt all = all_at P ps i d (omega arith) all.1

pub returns-then-not-is_record_pair : goal.returns-then-not-is_record_pair
returns-then-not-is_record_pair c =
    let t = c.args.records.now.table in
    let e = c.args.expr.now.expr in
    let ps = c.args.pairs.now.pairs in
    let q : Pair = record { key = c.key.result.now; number = c.number.result } in
    let is : q ≡ slot_at ps c.loop-at.at = λ i. record { key = c.key.ensures.key i; number = c.number.ensures.number i } in
    record {
      value = (
        λ never. absurd (false≢true never),
        λ own.
            let here = all_at (IsRecordPair t e) ps c.loop-at.at no_pair (omega (arith, c.len-at-end.ensures.count)) own in
            absurd (false≢true (sym c.if-not-is_record_pair.true ∙ c.is_record_pair.ensures.value.1 (subst (IsRecordPair t e) (sym is) here))),
      );
    }

pub loop-at-preserved : goal.loop-at-preserved
loop-at-preserved c =
    let t = c.args.records.now.table in
    let e = c.args.expr.now.expr in
    let ps = c.args.pairs.now.pairs in
    let i = c.loop-at.at in
    let q : Pair = record { key = c.key.result.now; number = c.number.result } in
    let is : q ≡ slot_at ps i = λ x. record { key = c.key.ensures.key x; number = c.number.ensures.number x } in
    let own = subst (IsRecordPair t e) is (c.is_record_pair.ensures.value.0 c.if-not-is_record_pair.false) in
    subst (AllByRecursion (IsRecordPair t e)) (sym (take_more ps i no_pair (omega (arith, c.len-at-end.ensures.count))))
    (all_push (IsRecordPair t e) (take i ps) (slot_at ps i) c.loop-at.invariant own)

pub returns : goal.returns
returns c =
    let ps = c.args.pairs.now.pairs in
    let own = IsRecordPair c.args.records.now.table c.args.expr.now.expr in
    record { value = (λ _. subst (AllByRecursion own) (take_all c.loop-at.at ps (omega (arith, c.len-at-end.ensures.count))) c.loop-at.invariant, λ _. refl) }
