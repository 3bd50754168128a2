use Rattle.dbf_image.proofs.Groups.{err_exit}
use Rattle.std.proofs.Common.{◌≡◌, ℕ, ◌-◌, ◌+◌, ◌++◌, List, take, drop, refl, sym, ap, ◌∙◌, append_assoc, arith}
use Rattle.std.specs.Prelude.{flat_map}
use Rattle.dbf_fields.specs.Faults.{first_fault}
use Rattle.dbf_image.specs.DbfText.{chunks}
use Rattle.dbf_image.specs.MemoNumbers.{row_texts, all_texts}
use Rattle.dbf_image.specs.BadTable.{record_memos_tests, records_memos_tests}
use Rattle.dbf_fields.proofs.FaultLaws.{first_then}
use Rattle.dbf_image.proofs.Chunks.{chunks-more, room-next}
use Rattle.dbf_image.proofs.MemoLoops.{group_stop, records-more}
use Rattle.dbf_image.proofs.dbt.memos.read_all.Goals as goal

pub loop-earlier-init : goal.loop-earlier-init
loop-earlier-init c =
    let all : c.args.count - 0 ≡ c.args.count = omega arith in
    record { reading = c.in_ok-memos.ensures.reading; room = rw all c.requires.room; texts = rw (all, c.in_ok-memos.ensures.none) refl; left = rw all refl }

pub returns-in_err-read_cells-clause-refused : goal.returns-in_err-read_cells-clause-refused
returns-in_err-read_cells-clause-refused c =
    let dbt = c.args.dbt.now in
    let fields = c.args.fields.now in
    let i = c.loop-earlier.earlier in
    let rest = c.loop-earlier.rest.now in
    let given = rw (c.split_at-in-loop-earlier.ensures.back, c.split_at.ensures.front) at c.in_err-read_cells.ensures.refused in
    err_exit _ _ c.from_residual-in_err-read_cells.ensures.1 (rw (← c.loop-earlier.invariant.left, records-more dbt fields c.args.size c.args.count i rest c.loop-earlier-test.true)
    (group_stop (record_memos_tests dbt (i + 1) 1 fields (drop 1 (take c.args.size rest))) (records_memos_tests dbt (i + 1 + 1) fields (chunks c.args.size (c.args.count - (i + 1)) (drop c.args.size rest))) _ given))

pub loop-earlier-preserved : goal.loop-earlier-preserved
loop-earlier-preserved c =
    let dbt = c.args.dbt.now in
    let fields = c.args.fields.now in
    let texts = row_texts c.args.dbt.now c.args.fields.now in
    let before = all_texts c.args.dbt.now c.loop-earlier.memos in
    let rest = c.loop-earlier.rest.now in
    let size = c.args.size in
    let n = c.args.count in
    let i = c.loop-earlier.earlier in
    let none = rw (c.split_at-in-loop-earlier.ensures.back, c.split_at.ensures.front) at c.in_ok-read_cells.ensures.accepted in
    record {
      reading = c.in_ok-read_cells.ensures.reading;
      room = room-next size n i _ _ c.loop-earlier-test.true c.loop-earlier.invariant.room c.split_at.ensures.back_len;
      texts = rw (c.in_ok-read_cells.ensures.texts, c.split_at-in-loop-earlier.ensures.back, c.split_at.ensures.front, c.split_at.ensures.back)
          (append_assoc before (texts (take size rest)) (flat_map texts (chunks size (n - (i + 1)) (drop size rest)))
          ∙ ap (λ (x : List (List ℕ)). before ++ x) (sym (chunks-more texts size n i rest c.loop-earlier-test.true)) ∙ c.loop-earlier.invariant.texts);
      left = rw (c.split_at.ensures.back)
          (sym (first_then (record_memos_tests dbt (i + 1) 1 fields (drop 1 (take size rest))) (records_memos_tests dbt (i + 1 + 1) fields (chunks size (n - (i + 1)) (drop size rest))) none)
          ∙ ap first_fault (sym (records-more dbt fields size n i rest c.loop-earlier-test.true)) ∙ c.loop-earlier.invariant.left);
    }
