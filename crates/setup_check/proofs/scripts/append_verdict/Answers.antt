use Rattle.std.specs.Fmt.{decimal}
use Rattle.std.specs.Prelude.{codes}
use Rattle.setup_check.specs.ScriptLines.{numbered_line}
use Rattle.setup_check.proofs.AppendLaws.{two_then_two}
use Rattle.setup_check.proofs.scripts.append_verdict.Goals as goal

pub returns-in_ok-append_numbered-in-Some : goal.returns-in_ok-append_numbered-in-Some
returns-in_ok-append_numbered-in-Some c = record {
  ok =
      rw c.in-Some.is
      (two_then_two c.args.text.now.items (codes ", ") (decimal c.args.bad) (codes " are no command: the first is ") (numbered_line c.in-Some.first.number c.in-Some.first.line.now) _ _ _
      c.in_ok-append_words-in-Some.ensures.ok c.in_ok-extend_from_slice-in-Some.ensures.items c.in_ok-append_numbered-in-Some.ensures.ok);
}
