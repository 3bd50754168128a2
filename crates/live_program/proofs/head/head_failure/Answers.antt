use Rattle.std.proofs.Common.{◌∙◌, ap, subst, sym}
use Rattle.journal_file.specs.declared.sum.FileSum.{FileSum}
use Rattle.journal_file.specs.WholeText.{IsReadsFault}
use Rattle.live_program.proofs.HeadLaws.{told_file}
use Rattle.live_program.proofs.head.head_failure.Goals as goal

pub returns-in-Ok : goal.returns-in-Ok
returns-in-Ok c = record {
  told = λ text reindex fault. told_file text c.args.read.now reindex c.in-File.place c.index-read-place.result c.in-Ok.path c.index-read-place.is
      (c.in-Ok.ensures.value ∙ sym (ap (λ (s : FileSum). s.path) c.index-read-place.is))
      (subst (IsReadsFault text c.args.read.now reindex) c.in-File.is fault);
}
