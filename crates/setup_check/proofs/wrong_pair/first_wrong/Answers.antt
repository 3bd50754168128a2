use Rattle.std.proofs.Common.{◌≡◌, ◌+◌, ◌<◌, ℕ, List, length, get_or, true, false, Some, sym, ap, ◌∙◌, arith}
use Rattle.ndx_index.specs.declared.pair.Pair.{Pair}
use Rattle.ndx_index.specs.Slots.{no_pair}
use Rattle.setup_check.specs.WrongPair.{is_record_pair, wrong_pair}
use Rattle.setup_check.proofs.WrongPairLaws.{first_here, first_later}
use Rattle.setup_check.proofs.wrong_pair.first_wrong.Goals as goal

pub returns-then-not-is_record_pair : goal.returns-then-not-is_record_pair
returns-then-not-is_record_pair c =
    let table = c.args.records.now.table in
    let e = c.args.expr.now.expr in
    let pairs = c.args.pairs.now.pairs in
    let i = c.loop-i.i in
    let n = c.number.result in
    let within : i < length pairs = omega (arith, c.len-i-end.ensures.count) in
    let p : Pair = record { key = c.key.result.now; number = n } in
    let is : p ≡ get_or pairs i no_pair = ap (λ (k : List ℕ). record { key = k; number = n }) c.key.ensures.key ∙ ap (λ (m : ℕ). record { key = (get_or pairs i no_pair).key; number = m }) c.number.ensures.number in
    let wrong : is_record_pair table e p ≡ false = sym c.is_record_pair.ensures.value ∙ c.if-not-is_record_pair.true in
    let there = first_here table e (i + 1) pairs i no_pair within (ap (is_record_pair table e) (sym is) ∙ wrong) in
    record { value = ap (λ f. Some f) (c.wrong_pair.ensures.value ∙ ap (wrong_pair table e (i + 1)) c.get.ensures.pair) ∙ sym there ∙ c.loop-i.invariant }

pub loop-i-preserved : goal.loop-i-preserved
loop-i-preserved c =
    let table = c.args.records.now.table in
    let e = c.args.expr.now.expr in
    let pairs = c.args.pairs.now.pairs in
    let i = c.loop-i.i in
    let n = c.number.result in
    let within : i < length pairs = omega (arith, c.len-i-end.ensures.count) in
    let p : Pair = record { key = c.key.result.now; number = n } in
    let is : p ≡ get_or pairs i no_pair = ap (λ (k : List ℕ). record { key = k; number = n }) c.key.ensures.key ∙ ap (λ (m : ℕ). record { key = (get_or pairs i no_pair).key; number = m }) c.number.ensures.number in
    let own : is_record_pair table e p ≡ true = sym c.is_record_pair.ensures.value ∙ c.if-not-is_record_pair.false in
    sym (first_later table e (i + 1) pairs i no_pair within (ap (is_record_pair table e) (sym is) ∙ own)) ∙ c.loop-i.invariant
