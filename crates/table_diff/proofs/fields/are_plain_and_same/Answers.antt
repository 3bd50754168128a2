use Rattle.std.proofs.Common.{◌≡◌, true}
use Rattle.table_diff.specs.Fields.{are_same_fields}
use Rattle.table_diff.proofs.FieldLaws.{same_fields}
use Rattle.table_diff.proofs.fields.are_plain_and_same.Goals as goal

pub returns-then-are_same_fields-clause-fields : goal.returns-then-are_same_fields-clause-fields
returns-then-are_same_fields-clause-fields c =
    let old = c.args.old.now in
    let new = c.args.new.now in
    let test : are_same_fields old new ≡ true = cc in
    λ none. (same_fields old new).0 test
