use Rattle.dbf_image.proofs.DbfLaws.{is_dbf, dbf_is}
use Rattle.dbf_image.proofs.Groups.{found_by, only_read}
use Rattle.dbf_image.proofs.dbf.read.read_table_at.Goals as goal

pub returns-clause-found : goal.returns-clause-found
returns-clause-found c = found_by _ _ _ _ c.table_at.ensures.accepted c.table_at.ensures.value (is_dbf c.args.dbf c.args.dbt)

pub returns-clause-only : goal.returns-clause-only
returns-clause-only c = λ table d.
    let is = dbf_is c.args.dbf c.args.dbt table d in
    only_read _ _ _ c.args.dbf c.args.dbt c.table_at.ensures.value c.table_at.ensures.refused is.0 is.1
