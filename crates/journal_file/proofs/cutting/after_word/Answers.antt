use Rattle.std.specs.Cmp.{unsigned_Decides}
use Rattle.std.proofs.lemmas.Slice.Eq.{strip_prefix_is}
use Rattle.journal_file.proofs.TextLaws.{some_after, none_after}
use Rattle.journal_file.proofs.cutting.after_word.Goals as goal

pub returns-clause-found : goal.returns-clause-found
returns-clause-found c =
    some_after c.args.text.now c.args.word.now c.strip_prefix.result (strip_prefix_is unsigned_Decides c.args.text.now c.args.word.now c.strip_prefix.result c.strip_prefix.ensures.cases)

pub returns-clause-none : goal.returns-clause-none
returns-clause-none c =
    none_after c.args.text.now c.args.word.now c.strip_prefix.result (strip_prefix_is unsigned_Decides c.args.text.now c.args.word.now c.strip_prefix.result c.strip_prefix.ensures.cases)
