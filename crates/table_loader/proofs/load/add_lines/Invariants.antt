use Rattle.std.proofs.Common.{◌≡◌, ◌≤◌, ◌-◌, ◌+◌, length}
use Rattle.dbf_image.specs.declared.format.TheConstants.{MAX_RECORDS}
use Rattle.table_loader.specs.CsvText.{lines_left, ReadsCsv}
use Rattle.table_loader.specs.Loading.{with_lines}
use Rattle.table_loader.proofs.load.add_lines.Given as goal

abbrev pub invariant-lines : goal.invariant-lines
invariant-lines l = record {
  schema : l.table.table.schema ≡ l.fn.table.table.schema;
  reads : ReadsCsv l.reader;
  more : length l.fn.table.table.rows ≤ length l.table.table.rows;
  count_bounded : length l.table.table.rows ≤ MAX_RECORDS;
  rest : with_lines l.plan.form l.plan.heading (length l.table.table.rows - length l.fn.table.table.rows + 2) l.table.table (lines_left l.reader)
      ≡ with_lines l.plan.form l.plan.heading 2 l.fn.table.table (lines_left l.fn.reader);
}

abbrev pub decreases-lines : goal.decreases-lines
decreases-lines l = MAX_RECORDS - length l.table.table.rows
