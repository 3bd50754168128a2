use Rattle.std.proofs.Common.{◌≡◌, ℕ, List, length, sym, subst, ap, ◌∙◌, arith}
use Rattle.std.specs.Prelude.{IfOk, OnErr, OnOk}
use Rattle.std.specs.List.{All}
use Rattle.byte_io.specs.Sink.{grown, IsFront}
use Rattle.dbf_fields.specs.declared.field.Field.{Field}
use Rattle.key_expr.proofs.Parsing.{one_expr}
use Rattle.key_expr.specs.Rules.{IsKeyText}
use Rattle.table_diff.specs.declared.matching.Match.{Match}
use Rattle.table_diff.specs.ByKey.{changes_in}
use Rattle.table_diff.specs.DiffText.{change_lines}
use Rattle.table_diff.specs.Matching.{matches_by_key, HaveRecords}
use Rattle.table_diff.proofs.KeySame.{counted_by_key}
use Rattle.table_diff.proofs.Listed.{few_by_key, matches_have}
use Rattle.table_diff.proofs.diff.write_diff_by_key.Goals as goal

pub write_all_changes-requires : goal.write_all_changes-requires
write_all_changes-requires g c =
    let old = c.args.old_table.now.table in
    let new = c.args.new_table.now.table in
    let e = c.args.old_key.now.expr in
    let f = c.args.new_key.now.expr in
    let is : c.as_slice.result.now ≡ matches_by_key old new e f = c.as_slice.ensures.value ∙ c.in_ok-matches.ensures.value in
    record {
      few = omega (arith, ap (length {A = Match}) is, few_by_key old new e f, c.record_count-old.type_inv, c.record_count-new.type_inv, c.record_count-old.ensures.count, c.record_count-new.ensures.count);
      records = subst (λ (ms : List Match). All (HaveRecords old new) ms) (sym is) (matches_have old new e f);
    }

pub returns : goal.returns
returns g c =
    let old = c.args.old_table.now.table in
    let new = c.args.new_table.now.table in
    let old_key = c.args.old_key.now in
    let new_key = c.args.new_key.now in
    let e = old_key.expr in
    let f = new_key.expr in
    let r = c.write_all_changes.result in
    let told = c.write_all_changes.ensures in
    let begun = g.S.ByteSink.written c.args.sink.now in
    let done = g.S.ByteSink.written c.write_all_changes.new.sink in
    let is : c.as_slice.result.now ≡ matches_by_key old new e f = c.as_slice.ensures.value ∙ c.in_ok-matches.ensures.value in
    let count = subst (λ (ms : List Match). IfOk r (λ count. count ≡ length (changes_in old new ms))) is told.count in
    let alike : old.schema ≡ new.schema → e ≡ f = λ same.
    let fields : old_key.fields ≡ new_key.fields = c.requires.old_fields ∙ same ∙ sym c.requires.new_fields in
    let read = subst (λ (t : List ℕ). IsKeyText old_key.fields t e) c.requires.text c.text-old_text.ensures.read in
    one_expr new_key.fields new_key.text e f (subst (λ (fs : List Field). IsKeyText fs new_key.text e) fields read) c.text-new_text.ensures.read in
    record {
      wrote = subst (λ (ms : List Match). OnOk r (done ≡ grown begun (change_lines (changes_in old new ms)))) is told.wrote;
      count = count;
      same = counted_by_key old new e f r c.record_count-old.ensures.each c.record_count-new.ensures.each alike count;
      no_failure = told.no_failure;
      failed = told.failed;
      unfailed = told.unfailed;
      kept = told.kept;
      front = subst (λ (ms : List Match). OnErr r (IsFront done (grown begun (change_lines (changes_in old new ms))))) is told.front;
    }
