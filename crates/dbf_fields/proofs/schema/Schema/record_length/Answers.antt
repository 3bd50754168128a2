use Rattle.std.proofs.Common.{arith}
use Rattle.dbf_fields.proofs.SchemaLaws.{schema_widths}
use Rattle.dbf_fields.proofs.schema.Schema.record_length.Goals as goal

pub returns-clause-short : goal.returns-clause-short
returns-clause-short c = omega (arith, c.from.ensures, c.self.invariant.length_is, schema_widths _ c.self.invariant.schema)
