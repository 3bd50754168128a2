use Rattle.std.proofs.Common.{◌≡◌, length, vec_len, sym, ◌∙◌, arith, rules}
use Rattle.catalogue_core.proofs.OpeningLaws.{table_taken, table_crowded, table_fits}
use Rattle.catalogue_core.proofs.opening.check_table.Goals as goal

pub returns-then-is_opened-clause-refused : goal.returns-then-is_opened-clause-refused
returns-then-is_opened-clause-refused c = table_taken c.args.opened.now c.args.source.now (sym c.is_opened.ensures.value ∙ c.if-is_opened.true)

pub returns-then-len-gt-MAX_INDEXES-clause-refused : goal.returns-then-len-gt-MAX_INDEXES-clause-refused
returns-then-len-gt-MAX_INDEXES-clause-refused c = table_crowded c.args.opened.now c.args.source.now (sym c.is_opened.ensures.value ∙ c.if-is_opened.false)
    (let len : vec_len c.args.source.now.indexes ≡ length c.args.source.now.indexes.items = search rules in omega (arith, c.if-len-gt-MAX_INDEXES.true, c.len.ensures))

pub returns-clause-accepted : goal.returns-clause-accepted
returns-clause-accepted c = table_fits c.args.opened.now c.args.source.now (sym c.is_opened.ensures.value ∙ c.if-is_opened.false)
    (let len : vec_len c.args.source.now.indexes ≡ length c.args.source.now.indexes.items = search rules in omega (arith, c.if-len-gt-MAX_INDEXES.false, c.len.ensures))
