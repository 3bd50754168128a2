use Rattle.std.proofs.Common.{◌≡◌, ◌<◌, length, rules, arith}
use Rattle.shared_catalogue.specs.StatusRows.{free_status}
use Rattle.shared_catalogue.proofs.WordLaws.{small_more}
use Rattle.shared_catalogue.proofs.board.words.audit_row.Goals as goal

pub loop-table-preserved : goal.loop-table-preserved
loop-table-preserved c =
    let ten : length c.args.row.now.tables ≡ 10 = search rules in
    let low : c.loop-table.table-index < length c.args.row.now.tables = omega arith in
    small_more c.args.row.now.tables c.loop-table.table-index free_status low c.loop-table.invariant c.audit_status.ensures.small
