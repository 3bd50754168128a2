use Rattle.std.proofs.Common.{length, sym, ap, ◌∙◌}
use Rattle.table_diff.specs.declared.matching.Matches.{Matches}
use Rattle.table_diff.specs.Matching.{matches_in}
use Rattle.table_diff.proofs.Listed.{length_by_number}
use Rattle.table_diff.proofs.matching.Matches.len.Goals as goal

pub returns-in-ByNumber : goal.returns-in-ByNumber
returns-in-ByNumber c = record {
  count = c.max.ensures ∙ sym (length_by_number c.in-ByNumber.old_count c.in-ByNumber.new_count) ∙ ap (λ (m : Matches). length (matches_in m)) (sym c.in-ByNumber.is);
}
