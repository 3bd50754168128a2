use Rattle.std.proofs.Common.{◌≡◌, true, ◌∙◌, arith}
use Rattle.std.specs.Result.{is_ok}
use Rattle.dbf_image.proofs.Edits.{resized}
use Rattle.dbf_image.proofs.table.reserved.push_no_memos.Goals as goal

pub returns : goal.returns
returns c =
    let numbers = c.args.memos.now.items in
    let ok : is_ok c.resize-resized.result ≡ true = cc in
    let made = rw ok at c.resize-resized.ensures.items in
    record { items = made ∙ resized numbers _ _ c.args.count 0 (omega (arith, c.args.memos.now.ok.0, c.len.ensures)) (omega (arith, c.args.memos.now.ok.0, c.len.ensures)) }
