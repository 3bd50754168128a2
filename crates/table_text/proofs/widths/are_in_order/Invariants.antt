use Rattle.std.proofs.Common.{◌≡◌, ℕ, ◌+◌, ◌<◌, false, length, get_or, take, option_copied, vec_len}
use Rattle.table_text.specs.Selection.{is_among, numbers_in}
use Rattle.table_text.proofs.widths.are_in_order.Given as goal

-- the answers are those for the numbers so far
abbrev pub invariant-loop-place : goal.invariant-loop-place
invariant-loop-place l = record {
  many : vec_len l.answers ≡ length l.table.rows;
  each : (k : ℕ) → k < length l.table.rows → get_or l.answers.items k false ≡ is_among (take l.place (numbers_in l.table (option_copied l.order))) (k + 1);
}
