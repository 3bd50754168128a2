use Rattle.std.proofs.Common.{◌≡◌, true}
use Rattle.std.specs.Prelude.{is_some}
use Rattle.station_lines.specs.Setup.{short_name}
use Rattle.station_lines.proofs.SetupLaws.LineLaws.{memo_table_read}
use Rattle.station_lines.proofs.setup.said.said_of_table.Goals as goal

pub returns : goal.returns
returns c = record {
  value = λ all are.
      let named : is_some (short_name c.in_ok-name.name.now) ≡ true = cc in
      let after = c.in_ok-name.ensures.only all are in
      let last = c.in_ok-dbf.ensures.only after.0 after.1 in
      memo_table_read all after.0 last.0 c.in_ok-name.name.now c.in_ok-dbf.dbf.now c.in_ok-dbt.dbt.now named after.2 last.2 (c.in_ok-dbt.ensures.value last.0 last.1);
}
