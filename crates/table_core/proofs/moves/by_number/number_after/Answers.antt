use Rattle.std.proofs.Common.{◌≡◌, ◌+◌, Some, ap, sym, ◌∙◌, arith}
use Rattle.table_core.proofs.Numbers.{number_on, number_past}
use Rattle.table_core.proofs.moves.by_number.number_after.Goals as goal

pub returns-then-to-from : goal.returns-then-to-from
returns-then-to-from c =
    let to : c.saturating_add-to.result ≡ c.args.number + c.args.steps = omega (arith, c.saturating_add-to.ensures, c.from.ensures, c.from-2.ensures) in
    record { value = ap Some to ∙ sym (number_on c.args.count c.args.number c.args.steps c.requires.one (omega (arith, to, c.if-to-from.true, c.from-2.ensures))) }

pub returns-else-to-from : goal.returns-else-to-from
returns-else-to-from c =
    record { value = sym (number_past c.args.count c.args.number c.args.steps c.requires.one c.requires.inside (omega (arith, c.saturating_add-to.ensures, c.from.ensures, c.from-2.ensures, c.if-to-from.false))) }
