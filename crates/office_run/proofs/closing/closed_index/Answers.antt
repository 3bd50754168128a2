use Rattle.std.proofs.Common.{length, ap, arith}
use Rattle.table_core.specs.Content.{index_at}
use Rattle.office_run.proofs.HandingLaws.{few_pairs}
use Rattle.office_run.proofs.closing.closed_index.Goals as goal

pub prove-unreachable-requires : goal.prove-unreachable-requires
prove-unreachable-requires c =
    let content = c.args.table.now.content in
    omega (arith, c.if-prove.true, c.len.ensures.count, ap length c.in_ok-pairs.ensures.value, few_pairs content (index_at content c.args.number), c.record_count.ensures.count)
