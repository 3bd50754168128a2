use Rattle.std.proofs.Common.{◌≡◌, ◌+◌, [], ◌∷◌, length, length-append, ap, ◌∙◌}
use Rattle.dbf_image.specs.Table.{Table, with_row, blank_row}
use Rattle.std.proofs.Common.{subst, sym}
use Rattle.std.specs.List.{AllByRecursion}
use Rattle.table_core.specs.Indexes.{Follows, FollowsBut}
use Rattle.table_core.proofs.Follows.{follows_but_last}
use Rattle.ndx_index.specs.Laws.Lists.{all_weaker}
use Rattle.table_core.proofs.edits.changes.add_blank.Goals as goal

pub put_in_all-requires-clause-rest : goal.put_in_all-requires-clause-rest
put_in_all-requires-clause-rest c =
    let t = c.args.records.now.table in
    let number = c.record_count-number.result in
    let items = c.args.indexes.now.items in
    let is : number ≡ length t.rows + 1 = c.record_count-number.ensures.count ∙ ap (λ (u : Table). length u.rows) c.append_blank.ensures.value ∙ length-append t.rows (blank_row t.schema ∷ []) in
    subst (λ (u : Table). AllByRecursion (FollowsBut number u) items) (sym c.append_blank.ensures.value)
    (all_weaker (Follows t) (FollowsBut number (with_row t (blank_row t.schema))) (follows_but_last t number (blank_row t.schema) is) items c.requires.follow)
