use Rattle.std.proofs.Common.{sym, arith}
use Rattle.table_diff.proofs.FieldLaws.{unlike_lengths}
use Rattle.table_diff.proofs.fields.are_same_fields.Goals as goal

pub returns-then-old-new : goal.returns-then-old-new
returns-then-old-new c = record { value = sym (unlike_lengths c.args.old.now c.args.new.now (λ e. omega (arith, e))) }
