use Rattle.std.proofs.Common.{Ok}
use Rattle.setup_files.specs.EntryFiles.{AreEntriesRead}
use Rattle.setup_files.proofs.ReadLaws.{reads_each}
use Rattle.office_run.specs.WholeRun.{IsSaid}
use Rattle.tool_program.specs.Check.{AreCheckLoads, IsSetupRead}
use Rattle.tool_program.proofs.CheckLaws.{parts_appended, none_told, verdict_of}
use Rattle.tool_program.proofs.checking.check_setup.Goals as goal

pub returns-clause-opens : goal.returns-clause-opens
returns-clause-opens g c =
    let files = g.F.Source.files c.args.source.now in
    let failures = g.F.Source.failures in
    let path = c.args.setup.now in
    let entries = c.in_ok-entries.entries.items in
    let reads = c.in_ok-findings.field-0.reads.items in
    let days = c.in_ok-days.days.items in
    let said : IsSaid files path (Ok entries) = record {
      text = c.in_ok-text.text;
      found = rw c.as_bytes.ensures.value at c.in_ok-text.ensures.found;
      says = rw c.as_slice.ensures.value at c.in_ok-entries.ensures.says;
    } in
    let read : AreEntriesRead files entries reads = rw (c.deref.ensures.value, c.in_ok-text.ensures.kept) at c.in_ok-findings.ensures.read in
    let loaded : AreCheckLoads files (failures c.args.source.now) (failures c.open_days_text.new.source) entries reads days = record {
      next = failures c.look_at_all.new.source;
      loads = rw (c.deref.ensures.value, c.in_ok-text.ensures.kept, c.in_ok-text.ensures.no_failure) at c.in_ok-findings.ensures.loads;
      logs = rw (c.deref-10.ensures.value, c.in_ok-findings.ensures.kept, c.in_ok-text.ensures.kept) at c.in_ok-days.ensures.told;
    } in
    let setup : IsSetupRead files (AreCheckLoads files (failures c.args.source.now) (failures c.open_days_text.new.source)) path entries reads days = record {
      said = said;
      read = read;
      loaded = loaded;
    } in
    let passed : IsSaid files path (Ok c.deref-9.result.now) = rw c.deref-9.ensures.value said in
    let given : AreEntriesRead files c.deref-9.result.now reads = rw c.deref-9.ensures.value read in
    let first = rw c.deref-9.ensures.value at c.in_ok-fault.ensures.first in
    verdict_of files _ path entries reads days c.in_ok-fault.fault _ c.is_none.ensures (c.in_ok-fault.ensures.opening files path passed given) setup first

pub returns-clause-told : goal.returns-clause-told
returns-clause-told g c =
    let files = g.F.Source.files c.args.source.now in
    let failures = g.F.Source.failures in
    let path = c.args.setup.now in
    let entries = c.in_ok-entries.entries.items in
    let findings = c.in_ok-findings.field-0.findings.items in
    let reads = c.in_ok-findings.field-0.reads.items in
    let days = c.in_ok-days.days.items in
    let said : IsSaid files path (Ok entries) = record {
      text = c.in_ok-text.text;
      found = rw c.as_bytes.ensures.value at c.in_ok-text.ensures.found;
      says = rw c.as_slice.ensures.value at c.in_ok-entries.ensures.says;
    } in
    let read : AreEntriesRead files entries reads = rw (c.deref.ensures.value, c.in_ok-text.ensures.kept) at c.in_ok-findings.ensures.read in
    let passed : IsSaid files path (Ok c.deref-9.result.now) = rw c.deref-9.ensures.value said in
    let given : AreEntriesRead files c.deref-9.result.now reads = rw c.deref-9.ensures.value read in
    let shown : AreEntriesRead files c.deref-6.result.now c.deref-7.result.now = rw (c.deref-6.ensures.value, c.deref-7.ensures.value) read in
    let loaded : AreCheckLoads files (failures c.args.source.now) (failures c.open_days_text.new.source) entries reads days = record {
      next = failures c.look_at_all.new.source;
      loads = rw (c.deref.ensures.value, c.in_ok-text.ensures.kept, c.in_ok-text.ensures.no_failure) at c.in_ok-findings.ensures.loads;
      logs = rw (c.deref-10.ensures.value, c.in_ok-findings.ensures.kept, c.in_ok-text.ensures.kept) at c.in_ok-days.ensures.told;
    } in
    let report = rw (c.deref-2.ensures.value, c.deref-3.ensures.value) at c.in_ok-report.ensures.value in
    let kept = rw c.deref-4.ensures.value at c.in_ok-kept.ensures.value in
    let whole = parts_appended _ _ _ _ _ _ _ _ _ _ _ _ _ _ report kept c.deref-5.ensures.value c.in_ok-extend_from_slice.ensures.items c.deref-8.ensures.value
    c.in_ok-extend_from_slice-2.ensures.items c.deref-11.ensures.value c.in_ok-extend_from_slice-3.ensures.items
    (rw c.is_day_told.ensures.value at c.in_ok-append_verdict.ensures.ok) in
    record {
      entries = entries;
      reads = reads;
      findings = findings;
      scripts = c.in_ok-scripts.scripts.items;
      days = days;
      fault = c.in_ok-fault.fault;
      setup = record {
        said = said;
        read = read;
        loaded = loaded;
      };
      looked = rw (c.deref.ensures.value, c.in_ok-text.ensures.kept) at c.in_ok-findings.ensures.found;
      refused = c.in_ok-findings.ensures.refused;
      read = rw c.deref-6.ensures.value at (c.in_ok-scripts.ensures.value files shown);
      opening = c.in_ok-fault.ensures.opening files path passed given;
      first = rw c.deref-9.ensures.value at c.in_ok-fault.ensures.first;
      answer = none_told _ _ c.is_none.ensures;
      wrote = rw (c.deref-12.ensures.value, whole) at c.in_ok-write_all.ensures.wrote;
    }

pub scripts_text-requires : goal.scripts_text-requires
scripts_text-requires g c =
    let files = g.F.Source.files c.args.source.now in
    let entries = c.in_ok-entries.entries.items in
    let reads = c.in_ok-findings.field-0.reads.items in
    let read : AreEntriesRead files entries reads = rw (c.deref.ensures.value, c.in_ok-text.ensures.kept) at c.in_ok-findings.ensures.read in
    record { one_each = rw (c.deref-6.ensures.value, c.deref-7.ensures.value) (reads_each files entries reads read) }
