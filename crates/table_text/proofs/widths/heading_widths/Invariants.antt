use Rattle.std.proofs.Common.{◌≡◌, ◌++◌, [], drop, vec_len}
use Rattle.table_text.specs.declared.memo_form.MemoForm.{MemoForm}
use Rattle.table_text.specs.Columns.{column_widths, widths_from}
use Rattle.table_text.proofs.widths.heading_widths.Given as goal

-- the widths so far and those that are left make all
abbrev pub invariant-loop-index : goal.invariant-loop-index
invariant-loop-index l = record {
  whole : (memos : MemoForm) → l.widths.items ++ widths_from l.table [] memos l.index (drop l.index l.fields) ≡ column_widths l.table [] memos;
  many : vec_len l.widths ≡ l.index;
}
