use Rattle.dbf_image.proofs.Groups.{err_exit}
use Rattle.dbf_image.proofs.Steps.{widths-next}
use Rattle.std.proofs.Common.{◌≡◌, ◌+◌, ◌∙◌, arith}
use Rattle.dbf_image.proofs.MemoLoops.{tests-next, tests-stop, texts-next, memo_fits}
use Rattle.dbf_image.proofs.dbt.memos.read_cells.Goals as goal
use Rattle.dbf_fields.specs.declared.format.TheConstants.{MEMO, MEMO_WIDTH}

pub read_cell-requires-clause-count_bounded : goal.read_cell-requires-clause-count_bounded
read_cell-requires-clause-count_bounded c = λ kind.
    let wide : c.index-fields-index.result.kind ≡ MEMO → c.index-fields-index.result.width ≡ MEMO_WIDTH = rw c.index-fields-index.is (memo_fits c.args.fields.now c.requires.schema c.loop-index.index _ c.loop-index-test.true) in
    omega (arith, wide kind, c.split_at.ensures.front_len, c.from.ensures)

pub returns-in_err-read_cell-clause-refused : goal.returns-in_err-read_cell-clause-refused
returns-in_err-read_cell-clause-refused c =
    let given = rw (c.split_at.ensures.front, c.from.ensures) at c.in_err-read_cell.ensures.refused in
    err_exit _ _ c.from_residual.ensures.1 (rw (← c.loop-index.invariant.left) (tests-stop c.args.dbt.now c.loop-index.rest.now c.args.record_number (c.loop-index.index + 1) c.args.fields.now c.loop-index.index c.index-fields-index.result _ c.loop-index-test.true c.index-fields-index.is given))

pub loop-index-preserved : goal.loop-index-preserved
loop-index-preserved c =
    let fields = c.args.fields.now in
    let dbt = c.args.dbt.now in
    let rest = c.loop-index.rest.now in
    let i = c.loop-index.index in
    let f = c.index-fields-index.result in
    let none = rw (c.split_at.ensures.front, c.from.ensures) at c.in_ok-read_cell.ensures.accepted in
    record {
      reading = c.in_ok-read_cell.ensures.reading;
      room = omega (arith, widths-next fields i f c.loop-index-test.true c.index-fields-index.is, c.loop-index.invariant.room, c.split_at.ensures.back_len, c.from.ensures);
      texts = rw (c.in_ok-read_cell.ensures.texts, c.split_at.ensures.front, c.split_at.ensures.back, c.from.ensures)
          (texts-next dbt rest fields i f _ c.loop-index-test.true c.index-fields-index.is ∙ c.loop-index.invariant.texts);
      left = rw (c.split_at.ensures.back, c.from.ensures)
          (tests-next dbt rest c.args.record_number (i + 1) fields i f c.loop-index-test.true c.index-fields-index.is none ∙ c.loop-index.invariant.left);
    }
