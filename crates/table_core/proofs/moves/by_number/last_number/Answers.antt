use Rattle.std.proofs.Common.{◌≡◌, ◌+◌, ◌-◌, length, Some, ap, sym, ◌∙◌, arith}
use Rattle.std.specs.List.{slice_get}
use Rattle.ndx_index.specs.Laws.Counting.{counted_at, length-counted}
use Rattle.ndx_index.specs.Places.{counted}
use Rattle.table_core.proofs.moves.by_number.last_number.Goals as goal

pub returns-then-count-gt0 : goal.returns-then-count-gt0
returns-then-count-gt0 c =
    let n = c.args.count in
    let last : length (counted 1 n) - 1 ≡ n - 1 = omega (arith, length-counted n 1) in
    let own : 1 + (n - 1) ≡ n = omega arith in
    record { value = sym (ap (slice_get (counted 1 n)) last ∙ counted_at n 1 (n - 1) (omega arith) ∙ ap Some own) }
