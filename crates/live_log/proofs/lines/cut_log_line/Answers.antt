use Rattle.std.proofs.Common.{◌∙◌}
use Rattle.live_log.specs.Gates.{sum_of_line}
use Rattle.live_log.proofs.LineLaws.{no_sum, no_entry_after, wrong_sum, other_bytes}
use Rattle.live_log.proofs.lines.cut_log_line.Goals as goal

pub returns-in_default-clause-none : goal.returns-in_default-clause-none
returns-in_default-clause-none c = no_sum c.args.text.now c.in_default.ensures.none

pub returns-in_default-cut_entry_line-clause-none : goal.returns-in_default-cut_entry_line-clause-none
returns-in_default-cut_entry_line-clause-none c =
    no_entry_after c.args.text.now c.in-Some.sum.now c.in-Some.entry.now c.in-Some.ensures.found c.in_default-cut_entry_line.ensures.none

pub returns-else-eq-clause-none : goal.returns-else-eq-clause-none
returns-else-eq-clause-none c =
    let line = c.in-Some-cut_entry_line.line.now in
    let found = c.in-Some-cut_entry_line.ensures.found in
    wrong_sum c.args.text.now c.in-Some.sum.now c.in-Some.entry.now line c.in-Some-cut_entry_line.rest.now found.0 c.in-Some.ensures.found found.1 found.2
    (other_bytes c.in-Some.sum.now c.as_slice.result.now (sum_of_line line) c.eq.result c.eq.ensures (c.as_slice.ensures ∙ c.line_sum.ensures.value) c.if-eq.false)
