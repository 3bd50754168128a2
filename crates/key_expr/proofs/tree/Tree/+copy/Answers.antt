use Rattle.std.proofs.Common.{List}
use Rattle.dbf_fields.specs.declared.field.Field.{Field}
use Rattle.key_expr.specs.KeptLengths.{KeepsLengths}
use Rattle.key_expr.proofs.tree.Tree.+copy.Goals as goal

pub returns-in_ok-second-in-Concat-clause-lengths : goal.returns-in_ok-second-in-Concat-clause-lengths
returns-in_ok-second-in-Concat-clause-lengths t c = λ (fields : List Field) (kept : KeepsLengths fields c.args.self.now).
    let lengths = rw c.in-Concat.is at kept in (
      rw (c.in_ok-first-in-Concat.ensures.ok, c.in_ok-copy-in-Concat.ensures.value, c.deref.ensures) lengths.0,
      rw c.in_ok-first-in-Concat.ensures.ok (c.in_ok-copy-in-Concat.ensures.lengths fields (rw c.deref.ensures lengths.1)),
      rw c.in_ok-second-in-Concat.ensures.ok (c.in_ok-copy-in-Concat-2.ensures.lengths fields (rw c.deref-in-Concat.ensures lengths.2)),
    )

pub returns-in_ok-inner-in-Upper-clause-lengths : goal.returns-in_ok-inner-in-Upper-clause-lengths
returns-in_ok-inner-in-Upper-clause-lengths t c = λ (fields : List Field) (kept : KeepsLengths fields c.args.self.now).
    rw c.in_ok-inner-in-Upper.ensures.ok (c.in_ok-copy-in-Upper.ensures.lengths fields (rw c.deref-in-Upper.ensures (rw c.in-Upper.is at kept)))

pub returns-in_ok-inner-in-Substr-clause-lengths : goal.returns-in_ok-inner-in-Substr-clause-lengths
returns-in_ok-inner-in-Substr-clause-lengths t c = λ (fields : List Field) (kept : KeepsLengths fields c.args.self.now).
    rw c.in_ok-inner-in-Substr.ensures.ok (c.in_ok-copy-in-Substr.ensures.lengths fields (rw c.deref-in-Substr.ensures (rw c.in-Substr.is at kept)))
