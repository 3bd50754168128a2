use Rattle.std.proofs.Common.{length, sym, ◌∙◌}
use Rattle.std.proofs.lemmas.List.FromFn.{length-range_with_len}
use Rattle.table_text.proofs.selection.number_count.Goals as goal

pub returns-in-None : goal.returns-in-None
returns-in-None c = rw c.in-None.is (record { count = c.record_count.ensures.count ∙ sym (length-range_with_len 1 (length c.args.table.now.rows)) })
