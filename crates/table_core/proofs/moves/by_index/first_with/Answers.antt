use Rattle.std.proofs.Common.{◌≡◌, ℕ, List, true, false, ap, sym, ◌∙◌}
use Rattle.std.specs.Prelude.{nat_eq}
use Rattle.std.specs.List.{starts_with}
use Rattle.ndx_index.specs.Order.{begins_with}
use Rattle.table_core.proofs.Seeking.{sought, sought_none}
use Rattle.table_core.proofs.moves.by_index.first_with.Goals as goal

pub returns-then-starts_with : goal.returns-then-starts_with
returns-then-starts_with c =
    let text = c.args.text.now in
    let begins : begins_with text c.in-Some.found ≡ true = ap (λ (k : List ℕ). starts_with nat_eq k text) (sym c.as_bytes.ensures.bytes) ∙ sym c.starts_with.ensures.value ∙ c.if-starts_with.true in
    record { value = sought c.args.records.now.table c.args.index.now.expr.expr text c.args.index.now.order.pairs c.in-Some.found true c.requires.follows.pairs (sym c.first_from.ensures.pair ∙ c.in-Some.is) begins }

pub returns-else-starts_with : goal.returns-else-starts_with
returns-else-starts_with c =
    let text = c.args.text.now in
    let begins : begins_with text c.in-Some.found ≡ false = ap (λ (k : List ℕ). starts_with nat_eq k text) (sym c.as_bytes.ensures.bytes) ∙ sym c.starts_with.ensures.value ∙ c.if-starts_with.false in
    record { value = sought c.args.records.now.table c.args.index.now.expr.expr text c.args.index.now.order.pairs c.in-Some.found false c.requires.follows.pairs (sym c.first_from.ensures.pair ∙ c.in-Some.is) begins }

pub returns-in_default : goal.returns-in_default
returns-in_default c =
    record { value = sought_none c.args.records.now.table c.args.index.now.expr.expr c.args.text.now c.args.index.now.order.pairs c.requires.follows.pairs (sym c.first_from.ensures.pair ∙ c.in_default.is) }
