use Rattle.std.proofs.Common.{◌≡◌, ◌≤◌, ◌+◌, ◌*◌, drop, length}
use Rattle.dbf_fields.specs.declared.format.TheConstants.{MAX_FIELDS}
use Rattle.table_text.specs.Output.{PutsAllBut}
use Rattle.table_diff.specs.ByKey.{changes_of_matches, match_lines}
use Rattle.table_diff.specs.Matching.{matches_in}
use Rattle.table_diff.proofs.diff.put_record_changes.Given as goal

-- all is put but the lines of the records that are left
abbrev pub invariant-loop-place : goal.invariant-loop-place
invariant-loop-place g l =
    let all = matches_in l.fn.matches in
    let old = l.old_table.table in
    let new = l.new_table.table in
    record {
      put : PutsAllBut l.fn.out (match_lines old new all) (match_lines old new (drop l.place all)) l.out;
      count : l.count + length (changes_of_matches old new (drop l.place all)) ≡ length (changes_of_matches old new all);
      bounded : l.count ≤ (1 + MAX_FIELDS) * l.place;
    }
