use Rattle.std.proofs.Common.{ap, Err}
use Rattle.field_list.proofs.ReadLaws.{bad_told, each_numbered, not_bad, told_fault, told_schema}
use Rattle.field_list.proofs.list.read_field_list.Goals as goal

pub returns-in-Some-clause-early : goal.returns-in-Some-clause-early
returns-in-Some-clause-early c line why has = ap Err (bad_told _ _ _ line why c.in-Some.ensures.value has)

pub returns-in_err-listed-clause-early : goal.returns-in_err-listed-clause-early
returns-in_err-listed-clause-early c line why has = absurd (not_bad _ line why c.in_default.ensures.value has)

pub returns-in-Ok-clause-read : goal.returns-in-Ok-clause-read
returns-in-Ok-clause-read c =
    told_schema _ _ _ _ _ c.in_default.ensures.value c.in_ok-listed.ensures.value c.deref.ensures.value c.in-Ok.ensures.accepted c.in-Ok.ensures.value

pub returns-in-Ok-clause-early : goal.returns-in-Ok-clause-early
returns-in-Ok-clause-early c line why has = absurd (not_bad _ line why c.in_default.ensures.value has)

pub told_of-requires : goal.told_of-requires
told_of-requires c = record { each = each_numbered _ _ _ c.in_ok-listed.ensures.value }

pub returns-clause-fault : goal.returns-clause-fault
returns-clause-fault c =
    told_fault _ _ _ _ _ _ c.in_default.ensures.value c.in_ok-listed.ensures.value c.deref.ensures.value c.in-Err.ensures.refused c.told_of.ensures.memory c.told_of.ensures.other

pub returns-clause-early : goal.returns-clause-early
returns-clause-early c line why has = absurd (not_bad _ line why c.in_default.ensures.value has)
