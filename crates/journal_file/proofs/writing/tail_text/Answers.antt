use Rattle.std.proofs.Common.{◌∙◌}
use Rattle.journal_file.proofs.TextLaws.{tail_pushed}
use Rattle.journal_file.proofs.writing.tail_text.Goals as goal

pub returns : goal.returns
returns c = record {
  value = c.from_vec.ensures.value ∙ tail_pushed _ _ _ c.args.wrote.now c.new-text.ensures.items c.in_ok-push_sums.ensures.pushed c.in_ok-extend_from_slice.ensures.items;
}
