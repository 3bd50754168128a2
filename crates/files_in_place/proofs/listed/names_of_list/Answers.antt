use Rattle.std.proofs.Common.{◌≡◌, true, false, rules, List, sym, ◌∙◌, ap, subst}
use Rattle.std.specs.List.{AllByRecursion}
use Rattle.files_in_place.specs.Folder.{Name, is_reserved, list_bytes, names_of}
use Rattle.files_in_place.specs.Staged.{is_file_name}
use Rattle.files_in_place.specs.Recovery.{NoneReserved}
use Rattle.files_in_place.proofs.Each.{each_by}
use Rattle.files_in_place.proofs.Uncommitted.{name_free}
use Rattle.files_in_place.proofs.listed.names_of_list.Goals as goal

pub returns-clause-free : goal.returns-clause-free
returns-clause-free c =
    let are : c.are_file_names.result ≡ true = search rules in
    subst NoneReserved c.deref-else-ne.ensures.value
    (each_by (λ name. is_file_name name ≡ true) (λ name. is_reserved name ≡ false) c.deref-else-ne.result.now name_free (c.are_file_names.ensures.are are))

pub returns-clause-refused : goal.returns-clause-refused
returns-clause-refused c none =
    let list = c.args.list.now in
    let same : c.as_slice.result.now ≡ list = search rules in
    let are : c.are_file_names.result ≡ true = search rules in
    let whole : list_bytes (names_of list) ≡ list =
    sym (ap list_bytes (c.deref.ensures.value ∙ c.in_ok-names.ensures.value))
    ∙ sym c.in_ok-written.ensures.value
    ∙ sym c.as_slice.ensures.value
    ∙ same in
    let fit : AllByRecursion (λ name. is_file_name name ≡ true) (names_of list) =
    subst (λ (names : List Name). AllByRecursion (λ name. is_file_name name ≡ true) names) (c.deref-else-ne.ensures.value ∙ c.in_ok-names.ensures.value)
    (c.are_file_names.ensures.are are) in
    absurd (none (record { whole = whole; names = fit }))
