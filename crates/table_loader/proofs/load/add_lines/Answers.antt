use Rattle.std.proofs.Common.{◌+◌, ◌-◌, ◌∙◌, arith, length}
use Rattle.table_loader.proofs.RowLaws.{more_lines}
use Rattle.table_loader.proofs.load.add_lines.Goals as goal

pub lines-preserved : goal.lines-preserved
lines-preserved c =
    let inv = c.lines.invariant in
    let first = length c.args.table.now.table.rows in
    let old = length c.lines.table.table.rows in
    let new = length c.add_line.new.table.table.rows in
    let one = c.in_ok-add_line.ensures.one_more in
    let taken = rw c.if-branch.true at c.in_ok-next_line.ensures.found in
    record {
      schema = c.in_ok-add_line.ensures.schema ∙ inv.schema;
      reads = c.in_ok-next_line.ensures.reads c.if-branch.true;
      more = omega (arith, inv.more, one);
      count_bounded = c.in_ok-add_line.ensures.count_bounded;
      rest = more_lines c.args.plan.now.form c.args.plan.now.heading _ (old - first + 2) (new - first + 2) c.lines.table.table c.add_line.new.table.table _ _ _
          c.in_ok-add_line.ensures.ok taken (omega (arith, c.record_count.ensures.count, c.record_count-first.ensures.count)) (omega (arith, inv.more, one)) ∙ inv.rest;
    }
