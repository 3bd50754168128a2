use Rattle.std.proofs.Common.{◌≡◌, true, sym, ◌∙◌}
use Rattle.std.specs.Prelude.{bytes_eq}
use Rattle.std.proofs.lemmas.Slice.Eq.{bytes_eq-Decides}
use Rattle.table_diff.proofs.RowLaws.{bytes_tell}
use Rattle.table_diff.proofs.records.has_same_bytes.Goals as goal

pub returns : goal.returns
returns c =
    let old = c.args.old_table.now.table in
    let new = c.args.new_table.now.table in
    let bytes = c.record-old_bytes.result.now in
    let others = c.record-new_bytes.result.now in record {
      same = λ e.
          let test : bytes_eq bytes others ≡ true = sym c.eq.ensures ∙ e in
          bytes_tell old new c.args.numbers bytes others c.record_count-count.ensures.each.fields c.requires.fields c.requires.memos
          c.record-old_bytes.ensures.value c.record-new_bytes.ensures.value ((bytes_eq-Decides bytes others).0 test);
    }
