use Rattle.std.proofs.Common.{refl}
use Rattle.catalogue_core.specs.declared.source.IndexSource.{IndexSource}
use Rattle.office_run.proofs.LoadLaws.{index_loads, table_loads}
use Rattle.office_run.proofs.load.add_content.Goals as goal

pub returns-in_ok-table-in-Table-Table : goal.returns-in_ok-table-in-Table-Table
returns-in_ok-table-in-Table-Table c = record {
  names = c.add_table.ensures.names;
  read = λ files h.
      let table = c.in_ok-table-in-Table-Table in
      let own = rw (c.in-Table-Table.is-0, c.in-Table-Table.is-1) at h in
      rw c.in-Table-Table.is-0 (table_loads _ files c.in-Table-Table.name c.in-Table-Table.dbf-0 c.in-Table-Table.dbt-0 table.table _ _
      (record { content = rw table.ensures.content own; named = table.ensures.named; plain = table.ensures.plain }) c.add_table.ensures.added refl);
}

pub returns-in_ok-name-in-Index-Index : goal.returns-in_ok-name-in-Index-Index
returns-in_ok-name-in-Index-Index c = record {
  names = c.add_index.ensures.names;
  read = λ files h.
      let index : IndexSource = record { name = c.in_ok-name-in-Index-Index.name; file = c.in-Index-Index.file } in
      let own = rw (c.in-Index-Index.is-0, c.in-Index-Index.is-1) at h in
      rw c.in-Index-Index.is-0 (index_loads _ files c.in-Index-Index.table c.in-Index-Index.name c.in-Index-Index.ndx-0 index _ _
      (record { content = own; named = c.in_ok-name-in-Index-Index.ensures.value }) c.add_index.ensures.added refl);
}
