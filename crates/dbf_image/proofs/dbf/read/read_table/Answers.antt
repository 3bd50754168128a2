use Rattle.dbf_image.proofs.DbfLaws.{one_table}
use Rattle.dbf_image.proofs.PartLaws.{refused_without}
use Rattle.dbf_image.proofs.dbf.read.read_table.Goals as goal

pub returns-in-Ok-clause-one : goal.returns-in-Ok-clause-one
returns-in-Ok-clause-one c = one_table c.args.dbf c.args.dbt

pub returns-in-Err-clause-refused : goal.returns-in-Err-clause-refused
returns-in-Err-clause-refused c = refused_without c.args.dbf c.args.dbt c.in-Err.bad c.in-Err.ensures.refused

pub returns-in-Err-clause-one : goal.returns-in-Err-clause-one
returns-in-Err-clause-one c = one_table c.args.dbf c.args.dbt
