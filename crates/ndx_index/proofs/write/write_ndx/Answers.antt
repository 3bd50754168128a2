use Rattle.std.proofs.Common.{◌<◌, ◌^◌, subst, ◌∙◌}
use Rattle.std.specs.List.{AllByRecursion}
use Rattle.ndx_index.proofs.ImageLaw.{written_reads}
use Rattle.ndx_index.proofs.write.write_ndx.Goals as goal

pub returns-in-Ok-clause-reads_back : goal.returns-in-Ok-clause-reads_back
returns-in-Ok-clause-reads_back g c =
    let numbers = subst (λ pairs. AllByRecursion (λ p. p.number < 2 ^ 32) pairs) (c.new-plan.ensures.pairs ∙ c.all.ensures.pairs) c.put_image.ensures.numbers in
    written_reads c.args.expr.now.text c.key_len.result _ c.args.pairs.now.pairs c.key_len.ensures.value c.text.ensures.short c.key_len.ensures.some c.key_len.ensures.short c.requires.count_bounded c.requires.keys numbers c.text.ensures.plain

pub returns-clause-reads_back : goal.returns-clause-reads_back
returns-clause-reads_back g c =
    let numbers = subst (λ pairs. AllByRecursion (λ p. p.number < 2 ^ 32) pairs) (c.new-plan.ensures.pairs ∙ c.all.ensures.pairs) c.put_image.ensures.numbers in
    written_reads c.args.expr.now.text c.key_len.result _ c.args.pairs.now.pairs c.key_len.ensures.value c.text.ensures.short c.key_len.ensures.some c.key_len.ensures.short c.requires.count_bounded c.requires.keys numbers c.text.ensures.plain
