use Rattle.std.proofs.Common.{◌∙◌, ap, take, bytes_eq, List, ℕ, ◌++◌, Some, None}
use Rattle.std.specs.Cmp.{unsigned_Decides}
use Rattle.std.proofs.lemmas.Slice.Eq.{strip_prefix_is}
use Rattle.files_in_place.specs.Folder.{list_name as name_of_list}
use Rattle.folders.proofs.PathLaws.{same_end, other_front}
use Rattle.folders.proofs.path.is_list_beside.Goals as goal

pub returns-in-Some : goal.returns-in-Some
returns-in-Some c = record {
  value =
      c.eq.ensures ∙ ap (λ (l : List ℕ). bytes_eq c.in-Some.name.now l) c.list_name.ensures.value
      ∙ same_end c.args.list.now _ c.in-Some.name.now name_of_list (strip_prefix_is unsigned_Decides c.args.list.now (take c.name_start.result c.args.path.now) (Some c.in-Some.name) c.in-Some.ensures.cases)
      ∙ ap (λ (n : ℕ). bytes_eq c.args.list.now (take n c.args.path.now ++ name_of_list)) c.name_start.ensures.value;
}

pub returns-in-None : goal.returns-in-None
returns-in-None c = record {
  value =
      other_front c.args.list.now _ name_of_list (strip_prefix_is unsigned_Decides c.args.list.now (take c.name_start.result c.args.path.now) None c.in-None.ensures.cases)
      ∙ ap (λ (n : ℕ). bytes_eq c.args.list.now (take n c.args.path.now ++ name_of_list)) c.name_start.ensures.value;
}
