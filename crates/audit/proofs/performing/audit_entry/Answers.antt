use Rattle.std.proofs.Common.{ℕ, ◌+◌, List, length, ap, sym, subst, ◌∙◌, Ok}
use Rattle.catalogue_core.specs.declared.entry.Entry.{Entry}
use Rattle.audit.specs.Audits.{BeginsWithCommand, BeginsWithNoCommand, BeginsWithReadable, IsOnlyFirst}
use Rattle.audit.proofs.AuditLaws.{err_exit, stop_at, stop_refutes, answer_at, answer_refutes, holds_first, continues_first, refuted_line, differ}
use Rattle.audit.proofs.performing.audit_entry.Goals as goal

pub returns-in_err-entry-clause-fault : goal.returns-in_err-entry-clause-fault
returns-in_err-entry-clause-fault c =
    err_exit _ _ c.from_residual.ensures.1 (subst (λ (n : ℕ). BeginsWithReadable n c.args.text.now) c.station_count-stations.ensures.value c.in_err-entry.ensures.early)

pub returns-in_default-clause-fault : goal.returns-in_default-clause-fault
returns-in_default-clause-fault c =
    let none = c.in_ok-entry.ensures.none (ap Ok c.in_default.is) in
    (subst (λ (n : ℕ). BeginsWithNoCommand n c.args.text.now) c.station_count-stations.ensures.value none, ap (λ (js : List Entry). length js + 1) c.journal.ensures.entries)

pub returns-in_default-clause-refuted : goal.returns-in_default-clause-refuted
returns-in_default-clause-refuted c =
    let none = c.in_ok-entry.ensures.none (ap Ok c.in_default.is) in
    refuted_line c.args.catalogue.now c.args.text.now 0 (subst (λ (n : ℕ). BeginsWithNoCommand n c.args.text.now) c.station_count-stations.ensures.value none)

pub returns-in_err-perform_entry-clause-fault : goal.returns-in_err-perform_entry-clause-fault
returns-in_err-perform_entry-clause-fault c =
    let e = c.in-Some.entry in
    let first = subst (λ (n : ℕ). BeginsWithCommand n c.args.text.now e.station e.command e.answer.now e.rest.now) c.station_count-stations.ensures.value (rw c.in-Some.is at c.in_ok-entry.ensures.found) in
    err_exit _ _ c.from_residual-in_err-perform_entry.ensures.1
    (stop_at c.args.catalogue.now c.args.text.now e.rest.now e.station e.command e.answer.now c.in_err-perform_entry.field-0.0 first c.in_err-perform_entry.ensures.fault)

pub returns-in_err-perform_entry-clause-refuted : goal.returns-in_err-perform_entry-clause-refuted
returns-in_err-perform_entry-clause-refuted c =
    err_exit _ _ c.from_residual-in_err-perform_entry.ensures.1 (stop_refutes c.args.catalogue.now c.args.text.now c.in_err-perform_entry.field-0.0 c.in_err-perform_entry.ensures.fault)

pub returns-then-not-is_same-clause-fault : goal.returns-then-not-is_same-clause-fault
returns-then-not-is_same-clause-fault c =
    let e = c.in-Some.entry in
    let first = subst (λ (n : ℕ). BeginsWithCommand n c.args.text.now e.station e.command e.answer.now e.rest.now) c.station_count-stations.ensures.value (rw c.in-Some.is at c.in_ok-entry.ensures.found) in
    answer_at c.args.catalogue.now c.args.text.now e.rest.now _ e.station e.command e.answer.now c.as_slice-performed.result.now c.answer_fault.result first (c.as_slice-performed.ensures.value ∙ c.in_ok-perform_entry.ensures.answer)
    (differ c.is_same.result c.as_slice-performed.result.now e.answer.now c.is_same.ensures.value c.if-not-is_same.true)
    (ap (λ (js : List Entry). length js + 1) c.journal.ensures.entries) c.answer_fault.ensures.said

pub returns-then-not-is_same-clause-refuted : goal.returns-then-not-is_same-clause-refuted
returns-then-not-is_same-clause-refuted c =
    let e = c.in-Some.entry in
    let only = subst (λ (n : ℕ). IsOnlyFirst n c.args.text.now e.station e.command e.answer.now e.rest.now) c.station_count-stations.ensures.value (rw c.in-Some.is at c.in_ok-entry.ensures.only) in
    answer_refutes c.args.catalogue.now c.args.text.now e.rest.now _ e.station e.command e.answer.now c.as_slice-performed.result.now c.answer_fault.result only (c.as_slice-performed.ensures.value ∙ c.in_ok-perform_entry.ensures.answer)
    (differ c.is_same.result c.as_slice-performed.result.now e.answer.now c.is_same.ensures.value c.if-not-is_same.true)
    c.answer_fault.ensures.said

pub returns-clause-holds : goal.returns-clause-holds
returns-clause-holds c =
    let e = c.in-Some.entry in
    let first = subst (λ (n : ℕ). BeginsWithCommand n c.args.text.now e.station e.command e.answer.now e.rest.now) c.station_count-stations.ensures.value (rw c.in-Some.is at c.in_ok-entry.ensures.found) in
    holds_first c.args.catalogue.now c.perform_entry.new.catalogue c.args.text.now e.rest.now e.station e.command e.answer.now c.as_slice-performed.result.now first (c.as_slice-performed.ensures.value ∙ c.in_ok-perform_entry.ensures.answer)
    (c.is_same.ensures.value.0 c.if-not-is_same.false) c.in_ok-perform_entry.ensures.entered

pub returns-clause-continues : goal.returns-clause-continues
returns-clause-continues c =
    let e = c.in-Some.entry in
    let only = subst (λ (n : ℕ). IsOnlyFirst n c.args.text.now e.station e.command e.answer.now e.rest.now) c.station_count-stations.ensures.value (rw c.in-Some.is at c.in_ok-entry.ensures.only) in
    continues_first c.args.catalogue.now c.perform_entry.new.catalogue c.args.text.now e.rest.now e.station e.command e.answer.now c.as_slice-performed.result.now only (c.as_slice-performed.ensures.value ∙ c.in_ok-perform_entry.ensures.answer)
    (c.is_same.ensures.value.0 c.if-not-is_same.false) c.in_ok-perform_entry.ensures.entered
