use Rattle.std.proofs.Common.{sym, ◌∙◌}
use Rattle.table_order.specs.Laws.Places.{before_end, before_end_none}
use Rattle.table_core.proofs.Follows.{follows_in_order}
use Rattle.table_core.proofs.moves.by_index.record_from_end.Goals as goal

pub back-requires : goal.back-requires
back-requires c = record { sorted = follows_in_order c.args.records.now.table c.args.index.now c.requires.follows }

pub returns-in-Some : goal.returns-in-Some
returns-in-Some c =
    let index = c.args.index.now in
    record {
      value = c.number_of.ensures.value
          ∙ before_end c.args.records.now.table index.expr.expr c.args.steps index.order.pairs c.in-Some.last c.back.result c.requires.some c.requires.follows.pairs (sym c.in-Some.is ∙ c.last.ensures.pair) c.back.ensures.value;
    }

pub returns-in-None : goal.returns-in-None
returns-in-None c =
    let index = c.args.index.now in
    record { value = before_end_none c.args.records.now.table index.expr.expr c.args.steps index.order.pairs c.requires.some c.requires.follows.pairs (sym c.in-None.is ∙ c.last.ensures.pair) }
