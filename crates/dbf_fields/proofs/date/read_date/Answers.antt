use Rattle.std.proofs.lemmas.Bool.{false≢true, false_from_ne_true}
use Rattle.dbf_fields.proofs.DateLaws.{not_blank}
use Rattle.dbf_fields.proofs.date.read_date.Goals as goal

pub returns-in-None : goal.returns-in-None
returns-in-None c = record {
  value = (not_blank c.args.cell.now _ c.as_slice.ensures c.if-eq.ensures, false_from_ne_true _ (λ date. false≢true (c.in-None.ensures.some.1 date)));
}
