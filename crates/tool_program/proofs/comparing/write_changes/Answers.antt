use Rattle.std.proofs.Common.{◌≡◌, rules, None}
use Rattle.tool_program.proofs.DiffLaws.{told_by_key, told_by_number}
use Rattle.tool_program.proofs.comparing.write_changes.Goals as goal

pub returns-in_default-clause-told : goal.returns-in_default-clause-told
returns-in_default-clause-told g c =
    let none : c.args.options.now.key ≡ None = search rules in
    told_by_number c.args.options.now.key _ _ _ _ _ none c.in_ok-differ.ensures.told

pub returns-clause-told : goal.returns-clause-told
returns-clause-told g c =
    told_by_key c.args.options.now.key c.in-Some.text _ _ _ _ _ c.in-Some.is (rw c.in_ok-old_key.ensures.text at c.in_ok-differ-2.ensures.told)
