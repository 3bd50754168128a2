use Rattle.std.proofs.Common.{sym, arith}
use Rattle.table_core.proofs.Numbers.{end_back, end_none}
use Rattle.table_core.proofs.moves.by_number.number_from_end.Goals as goal

pub returns-then-steps-from : goal.returns-then-steps-from
returns-then-steps-from c = record { value = sym (end_back c.args.count c.args.steps c.requires.some (omega (arith, c.if-steps-from.true, c.from.ensures))) }

pub returns-else-steps-from : goal.returns-else-steps-from
returns-else-steps-from c = record { value = sym (end_none c.args.count c.args.steps (omega (arith, c.if-steps-from.false, c.from.ensures))) }
