use Rattle.std.proofs.Common.{◌≡◌, ℕ, ◌+◌, ◌*◌, ◌/◌, ◌<◌, ◌≤◌, length}
use Rattle.std.specs.Prelude.{slice_index}
use Rattle.dbf_image.specs.Spans.{end_at}
use Rattle.dbf_image.proofs.dbt.memo.block_ends.Given as goal
use Rattle.dbf_image.specs.declared.format.TheConstants.{BLOCK}

abbrev pub invariant-loop-block : goal.invariant-loop-block
invariant-loop-block l = record {
  many : length l.ends.items ≡ length l.dbt / BLOCK + 1;
  count_bounded : l.block ≤ length l.ends.items;
  inside : l.to ≤ length l.dbt;
  near : BLOCK * l.block ≤ l.to + BLOCK;
  known : l.end ≡ end_at l.dbt l.to;
  each : (b : ℕ) → l.block ≤ b → b < length l.ends.items → slice_index l.ends.items b ≡ end_at l.dbt (BLOCK * b);
}

abbrev pub decreases-loop-block : goal.decreases-loop-block
decreases-loop-block l = l.block
