use Rattle.std.proofs.Common.{◌∙◌, ◌++◌, [], List, ℕ, ap}
use Rattle.journal_file.specs.WholeText.{read_word, sum_and}
use Rattle.journal_file.proofs.ReadLaws.{line_first, no_line_first}
use Rattle.journal_file.proofs.reads.after_read.Goals as goal

pub returns-in-Some-clause-found : goal.returns-in-Some-clause-found
returns-in-Some-clause-found c =
    line_first c.args.text.now c.as_slice.result.now c.in-Some.rest.now c.args.sum.now
    (c.as_slice.ensures.value ∙ c.in_ok-push_sum.ensures.pushed ∙ ap (λ (l : List ℕ). l ++ sum_and read_word c.args.sum.now []) c.new-line.ensures.items)
    c.in-Some.ensures.found

pub returns-clause-none : goal.returns-clause-none
returns-clause-none c =
    no_line_first c.args.text.now c.as_slice.result.now c.args.sum.now
    (c.as_slice.ensures.value ∙ c.in_ok-push_sum.ensures.pushed ∙ ap (λ (l : List ℕ). l ++ sum_and read_word c.args.sum.now []) c.new-line.ensures.items)
    c.in-None.ensures.none
