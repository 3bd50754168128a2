use Rattle.std.proofs.Common.{◌≡◌, ◌++◌, take, map}
use Rattle.office_run.specs.Closing.{file_of, answer_files}
use Rattle.office_run.proofs.plan.plan_answers.Given as goal

abbrev pub invariant-loop-answer : goal.invariant-loop-answer
invariant-loop-answer l = record {
  counted : l.station ≡ l.answer-index;
  files : map file_of l.planned.items ≡ map file_of l.fn.planned.items ++ answer_files 1 (take l.answer-index l.answers);
}
