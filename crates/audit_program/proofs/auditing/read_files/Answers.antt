use Rattle.std.proofs.Common.{Some, ap, sym, ◌∙◌}
use Rattle.office_run.proofs.NotedLaws.{all_had}
use Rattle.audit_program.specs.Comparing.{first_other}
use Rattle.audit_program.proofs.auditing.read_files.Goals as goal

pub returns-in-Some-clause-fault : goal.returns-in-Some-clause-fault
returns-in-Some-clause-fault g c told lines =
    let noted = all_had _ _ _ _ c.into_sums-sums.result.items c.wanted-noted.ensures.value (rw (c.in_ok-setup.ensures.value, c.as_bytes.ensures.value) at c.in_ok-loaded.ensures.noted) c.into_sums-sums.ensures.sums in (
      c.into_sums-sums.result.items,
      noted,
      ap (first_other told) (sym c.deref.ensures.value) ∙ (c.in-Some.ensures.found told lines ∙ ap Some (sym c.in_ok-from_slice.ensures.value)),
    )

pub returns-clause-noted : goal.returns-clause-noted
returns-clause-noted g c =
    all_had _ _ _ _ c.into_sums-sums.result.items c.wanted-noted.ensures.value (rw (c.in_ok-setup.ensures.value, c.as_bytes.ensures.value) at c.in_ok-loaded.ensures.noted) c.into_sums-sums.ensures.sums
