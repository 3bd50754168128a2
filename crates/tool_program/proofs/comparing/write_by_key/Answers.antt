use Rattle.std.proofs.Common.{rules, sym}
use Rattle.key_expr.specs.Rules.{IsKeyText}
use Rattle.tool_program.proofs.DiffLaws.{one_key}
use Rattle.tool_program.proofs.comparing.write_by_key.Goals as goal

pub returns-clause-told : goal.returns-clause-told
returns-clause-told g c =
    let old = c.args.old_table.now.table in
    let new = c.args.new_table.now.table in
    let text = c.args.old_key.now.text in
    let e = c.args.old_key.now.expr in
    let f = c.args.new_key.now.expr in
    let old_says : IsKeyText old.schema text e = rw c.requires.old_fields at c.text-old_text.ensures.read in
    let new_says : IsKeyText new.schema text f = rw (c.requires.new_fields, sym c.requires.text) at c.text-new_text.ensures.read in
    let alike = one_key text old.schema new.schema e f old_says new_says in
    record {
      old_key = e;
      new_key = f;
      old_says = old_says;
      new_says = new_says;
      wrote = c.in_ok-count.ensures.wrote;
      silent = c.nothing_is_told_of_the_same_by_key.ensures.told old new e f c.record_count-old.ensures.each c.record_count-new.ensures.each alike;
      same = search rules;
      old_once = c.each_record_is_matched_once.ensures.old_records old new e f;
      new_once = c.each_record_is_matched_once.ensures.new_records old new e f;
    }
