use Rattle.std.specs.Cmp.{unsigned_Decides}
use Rattle.std.proofs.lemmas.Slice.Eq.{strip_suffix_is}
use Rattle.table_maker.proofs.PlaceLaws.{stem_is, stem_none}
use Rattle.table_maker.proofs.into.without.Goals as goal

pub returns-clause-stem : goal.returns-clause-stem
returns-clause-stem c =
    stem_is c.args.name.now c.args.extension.now c.strip_suffix.result
    (strip_suffix_is unsigned_Decides c.args.name.now c.args.extension.now c.strip_suffix.result c.strip_suffix.ensures.cases)

pub returns-clause-none : goal.returns-clause-none
returns-clause-none c =
    stem_none c.args.name.now c.args.extension.now c.strip_suffix.result
    (strip_suffix_is unsigned_Decides c.args.name.now c.args.extension.now c.strip_suffix.result c.strip_suffix.ensures.cases)
