use Rattle.std.proofs.Common.{◌≡◌, None, Some, List, ℕ, IfOk, sym, ◌∙◌, ap, subst}
use Rattle.files_in_place.specs.Folder.{Name, list_name, names_of, names_in}
use Rattle.files_in_place.specs.Staged.{IsList}
use Rattle.files_in_place.proofs.Uncommitted.{some_inj, none_some}
use Rattle.files_in_place.proofs.listed.listed_names.Goals as goal

pub returns-in-Some-clause-names : goal.returns-in-Some-clause-names
returns-in-Some-clause-names g c promised =
    let m = g.D.Disk.meaning in
    let content : m.seen c.args.disk.now list_name ≡ Some c.in-Some.list = sym (rw c.in-Some.is at (c.in_ok-list.ensures.content promised)) in
    let same : names_of c.as_slice.result.now ≡ names_in (m.seen c.args.disk.now list_name) = ap names_of c.as_slice.ensures.value ∙ ap names_in (sym content) in
    subst (λ (lines : List Name). IfOk c.names_of_list.result (λ names. names.items ≡ lines)) same c.names_of_list.ensures.names

pub returns-in-Some-clause-bad_list : goal.returns-in-Some-clause-bad_list
returns-in-Some-clause-bad_list g c promised bad =
    let content : g.D.Disk.meaning.seen c.args.disk.now list_name ≡ Some c.in-Some.list = sym (rw c.in-Some.is at (c.in_ok-list.ensures.content promised)) in
    (c.in-Some.list, content, subst (λ (l : List ℕ). ¬ (IsList l)) c.as_slice.ensures.value (c.names_of_list.ensures.bad_list bad))

pub returns-in-Some-clause-refused : goal.returns-in-Some-clause-refused
returns-in-Some-clause-refused g c promised bad =
    let content : g.D.Disk.meaning.seen c.args.disk.now list_name ≡ Some c.in-Some.list = sym (rw c.in-Some.is at (c.in_ok-list.ensures.content promised)) in
    let same : bad.0 ≡ c.as_slice.result.now = some_inj bad.0 c.in-Some.list (sym bad.1 ∙ content) ∙ sym c.as_slice.ensures.value in
    c.names_of_list.ensures.refused (subst (λ (l : List ℕ). ¬ (IsList l)) same bad.2)

pub returns-in-None-clause-names : goal.returns-in-None-clause-names
returns-in-None-clause-names g c promised =
    let content : g.D.Disk.meaning.seen c.args.disk.now list_name ≡ None = sym (rw c.in-None.is at (c.in_ok-list.ensures.content promised)) in
    c.new.ensures.items ∙ ap names_in (sym content)

pub returns-in-None-clause-refused : goal.returns-in-None-clause-refused
returns-in-None-clause-refused g c promised bad =
    let content : g.D.Disk.meaning.seen c.args.disk.now list_name ≡ None = sym (rw c.in-None.is at (c.in_ok-list.ensures.content promised)) in
    absurd (none_some bad.0 (sym content ∙ bad.1))
