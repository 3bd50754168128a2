use Rattle.std.proofs.Common.{◌∙◌}
use Rattle.table_order.specs.Laws.Places.{after_record}
use Rattle.table_core.proofs.Follows.{follows_in_order}
use Rattle.table_core.proofs.moves.by_index.record_after.Goals as goal

pub after-requires : goal.after-requires
after-requires c = record { sorted = follows_in_order c.args.records.now.table c.args.index.now c.requires.follows }

pub returns : goal.returns
returns c =
    let index = c.args.index.now in
    record {
      value = c.number_of.ensures.value
          ∙ after_record c.args.records.now.table index.expr.expr c.args.number c.args.steps index.order.pairs c.pair_of.result c.after.result c.requires.one c.requires.inside c.requires.follows.pairs c.pair_of.ensures.value c.after.ensures.value;
    }
