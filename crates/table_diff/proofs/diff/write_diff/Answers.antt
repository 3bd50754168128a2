use Rattle.std.proofs.Common.{◌≡◌, ℕ, List, length, subst, arith}
use Rattle.std.specs.Prelude.{IfOk, OnErr, OnOk}
use Rattle.byte_io.specs.Sink.{grown, IsFront}
use Rattle.table_diff.specs.Changes.{Change, changes}
use Rattle.table_diff.specs.DiffText.{change_lines}
use Rattle.table_diff.specs.Matching.{matches_by_number}
use Rattle.table_diff.specs.ByKey.{changes_in}
use Rattle.table_diff.proofs.Listed.{changes_by_number, length_by_number, numbers_have}
use Rattle.table_diff.proofs.SameLaws.{counted}
use Rattle.table_diff.proofs.diff.write_diff.Goals as goal

pub write_all_changes-requires : goal.write_all_changes-requires
write_all_changes-requires g c =
    let m : ℕ = c.record_count-old_count.result in
    let n : ℕ = c.record_count-new_count.result in
    record {
      few = omega (arith, length_by_number m n, c.record_count-old_count.type_inv, c.record_count-new_count.type_inv);
      records = numbers_have c.args.old_table.now.table c.args.new_table.now.table m n c.record_count-old_count.ensures.count c.record_count-new_count.ensures.count;
    }

pub returns : goal.returns
returns g c =
    let old = c.args.old_table.now.table in
    let new = c.args.new_table.now.table in
    let m : ℕ = c.record_count-old_count.result in
    let n : ℕ = c.record_count-new_count.result in
    let r = c.write_all_changes.result in
    let told = c.write_all_changes.ensures in
    let begun = g.S.ByteSink.written c.args.sink.now in
    let done = g.S.ByteSink.written c.write_all_changes.new.sink in
    let all : changes_in old new (matches_by_number m n) ≡ changes old new = changes_by_number old new m n c.record_count-old_count.ensures.count c.record_count-new_count.ensures.count in
    let count = subst (λ (cs : List Change). IfOk r (λ count. count ≡ length cs)) all told.count in
    record {
      wrote = subst (λ (cs : List Change). OnOk r (done ≡ grown begun (change_lines cs))) all told.wrote;
      count = count;
      same = counted old new r c.record_count-old_count.ensures.each c.record_count-new_count.ensures.each count;
      no_failure = told.no_failure;
      failed = told.failed;
      unfailed = told.unfailed;
      kept = told.kept;
      front = subst (λ (cs : List Change). OnErr r (IsFront done (grown begun (change_lines cs)))) all told.front;
    }
