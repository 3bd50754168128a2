use Rattle.std.proofs.Common.{◌≡◌, ◌+◌, ◌*◌, ◌≤◌, length, drop}
use Rattle.std.specs.List.{AllByRecursion}
use Rattle.dbf_image.specs.declared.format.TheConstants.{MAX_MEMO_BLOCKS}
use Rattle.dbf_fields.specs.Field.{widths}
use Rattle.dbf_image.specs.Store.{memo_count, IsMemo}
use Rattle.byte_io.specs.Writer.{more}
use Rattle.dbf_image.proofs.Steps.{left_bytes, left_blocks}
use Rattle.dbf_image.proofs.dbf.rows.put_cells.Given as goal

-- what is written and what is left make the whole
abbrev pub invariant-loop-field : goal.invariant-loop-field
invariant-loop-field g l =
    let later = drop l.field-index l.fields in
    let texts = l.fn.cells.texts.now.texts in
    record {
      room : widths later ≤ length l.rest;
      many : memo_count later ≤ length l.memos;
      each : AllByRecursion (IsMemo texts) l.memos;
      count_bounded : l.next + MAX_MEMO_BLOCKS * memo_count later ≤ l.fn.first + MAX_MEMO_BLOCKS * memo_count l.fields;
      same : l.out.sink.ghost_name ≡ l.fn.out.sink.ghost_name;
      left : more l.out.wanted (left_bytes l.next later l.rest texts l.memos) ≡ more l.fn.out.wanted (left_bytes l.fn.first l.fields l.fn.cells.records.now texts l.fn.cells.memos.now);
      ahead : l.next + left_blocks later l.rest texts l.memos ≡ l.fn.first + left_blocks l.fields l.fn.cells.records.now texts l.fn.cells.memos.now;
    }
