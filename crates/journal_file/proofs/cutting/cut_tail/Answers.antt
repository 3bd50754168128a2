use Rattle.std.proofs.Common.{◌≡◌, ◌≢◌, false, sym, ◌∙◌}
use Rattle.std.proofs.lemmas.Bool.{false≢true}
use Rattle.journal_file.specs.WholeText.{end_line}
use Rattle.journal_file.proofs.TextLaws.{no_end}
use Rattle.journal_file.proofs.cutting.cut_tail.Goals as goal

pub returns-then-not-is_end-clause-none : goal.returns-then-not-is_end-clause-none
returns-then-not-is_end-clause-none c =
    let other : c.is_end.result ≡ false = cc in
    let not_last : c.cut_sums.result.1.now ≢ end_line = λ e. false≢true (sym other ∙ c.is_end.ensures.value.1 e) in
    no_end c.args.text.now _ _ c.cut_sums.ensures.found not_last
