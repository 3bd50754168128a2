use Rattle.std.proofs.Common.{◌≡◌, [], rules, ◌∙◌}
use Rattle.journal_file.specs.WholeText.{count_and}
use Rattle.journal_file.proofs.TextLaws.{head_pushed}
use Rattle.journal_file.proofs.writing.head_text.Goals as goal

pub returns : goal.returns
returns c =
    let last : c.as_bytes.result.now ≡ count_and c.args.count [] = search rules in
    record {
      value =
          c.from_vec.ensures.value
          ∙ head_pushed _ _ _ _ _ _ c.args.read.now c.args.reindex c.args.count c.new-text.ensures.items c.in_ok-push_sums.ensures.pushed c.in_ok-extend_from_slice.ensures.items
          c.reindex_line.ensures.value c.in_ok-extend_from_slice-2.ensures.items last;
    }
