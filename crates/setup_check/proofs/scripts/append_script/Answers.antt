use Rattle.setup_check.proofs.ScriptTextLaws.{script_first}
use Rattle.setup_check.proofs.scripts.append_script.Goals as goal

pub returns-in-First : goal.returns-in-First
returns-in-First c = record {
  ok = λ all are. rw c.in-First.is (script_first _ _ _ all _ _ (c.counts_of-counts.ensures.counts all are) (c.first_bad.ensures.value all are) c.in_ok-append_counted_line.ensures.ok);
}
