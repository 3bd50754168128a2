-- What has changed from an old table to a new one, where records are matched by the keys of an expression.
use Rattle.std.specs.Prelude.{◌≡◌, ℕ, List, ◌++◌, flat_map, map}
use Rattle.dbf_image.specs.Table.{Row, Table, row_at}
use Rattle.key_expr.specs.Grammar.{Expr}
use Rattle.table_order.specs.TableOrder.{ordered}
use Rattle.table_diff.specs.declared.matching.Match.{Match}
use Rattle.table_diff.specs.Changes.{Change, field_changes, match_changes}
use Rattle.table_diff.specs.DiffText.{change_lines}
use Rattle.table_diff.specs.Matching.{matches_by_key}

-- what has changed of records that are matched
abbrev pub changes_of_matches : Table → Table → List Match → List Change
changes_of_matches old new matches = flat_map (match_changes old new) matches

-- the lines of what has changed of records that are matched
abbrev pub match_lines : Table → Table → List Match → List ℕ
match_lines old new matches = change_lines (changes_of_matches old new matches)

-- what has changed of the fields, and then of records that are matched
abbrev pub changes_in : Table → Table → List Match → List Change
changes_in old new matches = field_changes old.schema new.schema ++ changes_of_matches old new matches

-- what has changed of the fields, and then of the records, matched by their keys, in the order of these
abbrev pub changes_by_key : Table → Table → Expr → Expr → List Change
changes_by_key old new old_key new_key = changes_in old new (matches_by_key old new old_key new_key)

-- what has changed, with records matched by the keys of an expression, as text
abbrev pub diff_text_by_key : Table → Table → Expr → Expr → List ℕ
diff_text_by_key old new old_key new_key = change_lines (changes_by_key old new old_key new_key)

-- the records of a table in the order of their keys, and of their numbers where the keys are the same
abbrev pub rows_by_key : Table → Expr → List Row
rows_by_key table e = map (row_at table) (ordered table e)

-- the tables have the same fields, and the same records in the order of their keys
abbrev pub AreSameByKey : Table → Table → Expr → Type 0
AreSameByKey old new e = (old.schema ≡ new.schema) × (rows_by_key old e ≡ rows_by_key new e)
