use Rattle.std.proofs.Common.{◌≡◌, ◌<◌, length, arith}
use Rattle.std.proofs.lemmas.Bool.Decides.{nat_tests}
use Rattle.station_lines.proofs.SetupLaws.WordCutting.{first_of_words, words_after, shorter_after, without_words, one_words}
use Rattle.station_lines.proofs.setup.words.cut_first.Goals as goal

pub returns-clause-words : goal.returns-clause-words
returns-clause-words c others are =
    let text = c.without_gaps-text.result.now in
    let some : 0 < length text = grind (arith, nat_tests, c.is_empty.ensures, c.if-is_empty.false) in
    rw (c.split_at.ensures.front) (first_of_words c.args.line.now text _ c.without_gaps-text.ensures.value some c.word_length.ensures.value others (rw (c.split_at.ensures.back) at are))

pub returns-clause-only : goal.returns-clause-only
returns-clause-only c = words_after c.args.line.now _ _ (returns-clause-words c)

pub returns-clause-shorter : goal.returns-clause-shorter
returns-clause-shorter c =
    let text = c.without_gaps-text.result.now in
    let some : 0 < length text = grind (arith, nat_tests, c.is_empty.ensures, c.if-is_empty.false) in
    rw (c.split_at.ensures.back) (shorter_after c.args.line.now text _ c.without_gaps-text.ensures.value some c.word_length.ensures.value)

pub returns-then-is_empty-clause-none : goal.returns-then-is_empty-clause-none
returns-then-is_empty-clause-none c words are =
    let text = c.without_gaps-text.result.now in
    let none : length text ≡ 0 = grind (arith, nat_tests, c.is_empty.ensures, c.if-is_empty.true) in
    one_words words _ c.args.line.now are (without_words c.args.line.now text c.without_gaps-text.ensures.value none)
