use Rattle.dbf_fields.proofs.DateLaws.{shown_pieces}
use Rattle.dbf_fields.proofs.date.shown_date.Goals as goal

pub returns-in-Is : goal.returns-in-Is
returns-in-Is c = record { value = shown_pieces c.args.cell.now c.in-Is.ensures.value.real }
