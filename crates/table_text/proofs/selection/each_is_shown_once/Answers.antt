use Rattle.table_text.specs.Selection.{is_selected, numbers_in}
use Rattle.std.proofs.Common.{length}
use Rattle.table_text.proofs.SelectedLaws.{kept-contained, kept-passes, contained-kept, counted-inside, inside-counted, kept-ascend}
use Rattle.table_text.proofs.selection.each_is_shown_once.Goals as goal

pub returns : goal.returns
returns c = record {
  shown = λ table order selection number. (
    λ h. (kept-contained (is_selected table selection) (numbers_in table order) number h, kept-passes (is_selected table selection) (numbers_in table order) number h),
    λ h. contained-kept (is_selected table selection) (numbers_in table order) number h.1 h.0,
  );
  all = λ table number. (λ h. counted-inside (length table.rows) number h, λ h. inside-counted (length table.rows) number h.0 h.1);
  once = λ table selection. kept-ascend (is_selected table selection) (length table.rows);
}
