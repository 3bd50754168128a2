use Rattle.std.proofs.Common.{sym, ◌∙◌}
use Rattle.dbf_image.proofs.Ends.{end_is, end_inside}
use Rattle.dbf_image.proofs.dbt.memo.first_end.Goals as goal

pub returns : goal.returns
returns c =
    let value = c.unwrap_or.ensures ∙ sym (end_is c.args.bytes.now c.memchr.result c.memchr.ensures) in
    record { value = value; inside = rw value (end_inside c.args.bytes.now) }
