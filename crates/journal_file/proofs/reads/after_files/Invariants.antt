use Rattle.std.proofs.Common.{◌≡◌, take}
use Rattle.journal_file.specs.WholeText.{read_word, sums_and}
use Rattle.journal_file.proofs.reads.after_files.Given as goal

abbrev pub invariant-loop-sum : goal.invariant-loop-sum
invariant-loop-sum l = record {
  read : l.text ≡ sums_and read_word (take l.sum-index l.read) l.rest;
  place : l.place ≡ l.sum-index;
}
