use Rattle.std.proofs.Common.{◌≡◌, ◌+◌, ◌*◌, length, get_or, set, ap, ◌∙◌, rules}
use Rattle.catalogue_core.specs.declared.status.TableStatus.{TableStatus}
use Rattle.catalogue_core.proofs.StatusLaws.{row_more}
use Rattle.catalogue_core.proofs.status.StatusRow.words.Goals as goal

pub loop-index-preserved : goal.loop-index-preserved
loop-index-preserved c =
    let row = c.args.self.now in
    let i = c.loop-index.index in
    let none : TableStatus = record { holder = 0; record_locks = 0 } in
    let ten : length row.tables ≡ 10 = search rules in
    ap (λ n. set (set c.loop-index.words (3 + 2 * i) n) (4 + 2 * i) c.from-in-loop-index-2.result) c.from-in-loop-index.ensures
    ∙ ap (λ n. set (set c.loop-index.words (3 + 2 * i) (get_or row.tables i none).holder) (4 + 2 * i) n) c.from-in-loop-index-2.ensures
    ∙ row_more row.journal_length row.last_station row.last_answer row.tables i none c.loop-index.words ten c.loop-index-test.true c.loop-index.invariant
