use Rattle.std.proofs.Common.{◌∙◌}
use Rattle.journal_file.proofs.ReadLaws.{read_pushed}
use Rattle.journal_file.proofs.writing.read_text.Goals as goal

pub returns : goal.returns
returns c = record {
  value =
      c.from_vec.ensures.value
      ∙ read_pushed _ _ _ _ c.args.read.now c.args.reindex c.new-text.ensures.items c.in_ok-push_sums.ensures.pushed
      c.reindex_line.ensures.value c.in_ok-extend_from_slice.ensures.items;
}
