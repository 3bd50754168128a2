use Rattle.std.proofs.Common.{ap}
use Rattle.table_diff.specs.Changes.{changes}
use Rattle.table_diff.specs.DiffText.{change_lines}
use Rattle.table_diff.proofs.SameLaws.{unchanged_same, unchanged_by}
use Rattle.table_diff.proofs.TextLaws.{no_lines}
use Rattle.table_diff.proofs.diff.nothing_is_told_of_the_same.Goals as goal

pub returns : goal.returns
returns c = record {
  told = λ old new is are. (
    λ none. unchanged_same old new is are (no_lines (changes old new) none),
    λ same. ap change_lines (unchanged_by old new is same),
  );
}
