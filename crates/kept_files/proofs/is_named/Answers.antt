use Rattle.std.proofs.Common.{◌≡◌, ◌∙◌, ap, bytes_eq, List, ℕ, ◌++◌, Some, None}
use Rattle.std.specs.Cmp.{unsigned_Decides}
use Rattle.std.proofs.lemmas.Slice.Eq.{strip_prefix_is}
use Rattle.folders.proofs.PathLaws.{same_end, other_front}
use Rattle.kept_files.proofs.is_named.Goals as goal

pub returns-in-Some : goal.returns-in-Some
returns-in-Some c = record {
  value =
      c.eq.ensures
      ∙ same_end c.file_name.result.now c.args.name.now c.in-Some.rest.now c.args.ending.now (strip_prefix_is unsigned_Decides c.file_name.result.now c.args.name.now (Some c.in-Some.rest) c.in-Some.ensures.cases)
      ∙ ap (λ (l : List ℕ). bytes_eq l (c.args.name.now ++ c.args.ending.now)) c.file_name.ensures.value;
}

pub returns-in-None : goal.returns-in-None
returns-in-None c = record {
  value =
      other_front c.file_name.result.now c.args.name.now c.args.ending.now (strip_prefix_is unsigned_Decides c.file_name.result.now c.args.name.now None c.in-None.ensures.cases)
      ∙ ap (λ (l : List ℕ). bytes_eq l (c.args.name.now ++ c.args.ending.now)) c.file_name.ensures.value;
}
