use Rattle.std.proofs.Common.{sym, arith}
use Rattle.table_core.proofs.Numbers.{number_back, number_none}
use Rattle.table_core.proofs.moves.by_number.number_before.Goals as goal

pub returns-then-steps-from : goal.returns-then-steps-from
returns-then-steps-from c = record { value = sym (number_back c.args.count c.args.number c.args.steps c.requires.inside (omega (arith, c.if-steps-from.true, c.from.ensures))) }

pub returns-else-steps-from : goal.returns-else-steps-from
returns-else-steps-from c = record { value = sym (number_none c.args.count c.args.number c.args.steps c.requires.one c.requires.inside (omega (arith, c.if-steps-from.false, c.from.ensures))) }
