use Rattle.std.proofs.Common.{List, map, refl, subst, ap, ◌∙◌}
use Rattle.std.specs.List.{AllByRecursion}
use Rattle.folders.specs.declared.named.NamedFile.{NamedFile}
use Rattle.office_run.specs.Closing.{file_of}
use Rattle.folders.specs.Files.{IsOfBytes}
use Rattle.folders.proofs.ListingLaws.{files_again}
use Rattle.office_run.proofs.PlanLaws.{cut_at}
use Rattle.office_run.proofs.close.close_files.Goals as goal

pub returns-clause-no_file_begun : goal.returns-clause-no_file_begun
returns-clause-no_file_begun g c h = absurd (h c.remove.result.name refl)

pub returns-clause-whole_before_fault : goal.returns-clause-whole_before_fault
returns-clause-whole_before_fault g c =
    cut_at _ _ _ _ c.in-Err.place c.remove.result c.remove.result.name c.in_ok-planned.ensures.files (rw c.deref.ensures.value at c.in-Err.ensures.inside) c.remove.ensures.value refl (rw c.deref.ensures.value at c.in-Err.ensures.whole) (rw c.deref.ensures.value at c.in-Err.ensures.front)

pub returns-in-Ok-clause-told : goal.returns-in-Ok-clause-told
returns-in-Ok-clause-told g c =
    files_again _ (subst (λ (files : List NamedFile). AllByRecursion IsOfBytes files) (ap (map file_of) c.deref.ensures.value ∙ c.in_ok-planned.ensures.files) c.in-Ok.ensures.bytes)
