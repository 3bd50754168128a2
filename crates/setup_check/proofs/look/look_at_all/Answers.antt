use Rattle.std.proofs.Common.{◌≡◌, ◌≤◌, [], length, take, ap, sym, ◌∙◌, arith}
use Rattle.std.proofs.lemmas.List.{length-take-le, take_all}
use Rattle.setup_files.specs.EntryFiles.{AreEntriesRead}
use Rattle.setup_files.proofs.ReadLaws.{reads_more, loads_more}
use Rattle.setup_check.specs.Findings.{AreFoundOf}
use Rattle.setup_check.proofs.FindingLaws.{found_more, found_of_more, next_taken, one_each}
use Rattle.setup_check.proofs.look.look_at_all.Goals as goal

pub loop-index-preserved : goal.loop-index-preserved
loop-index-preserved g c =
    let files = g.S.Source.files c.args.source.now in
    let failures = g.S.Source.failures in
    let entries = c.args.entries.now in
    let i = c.loop-index.index in
    let entry = c.index-entries-index.result in
    let findings = c.loop-index.findings.items in
    let reads = c.loop-index.reads.items in
    let finding = c.in_ok-look_at.field-0 in
    let read = c.in_ok-read.read in
    let before = c.loop-index.invariant in
    let taken = next_taken entries i entry c.loop-index-test.true c.index-entries-index.is in
    let passed : AreEntriesRead files (take i entries) c.deref.result.now = rw c.deref.ensures.value before.read in
    let refused : AreFoundOf c.deref.result.now findings = rw c.deref.ensures.value before.refused in
    let within : i ≤ length entries = omega (arith, c.loop-index-test.true) in
    let place : i ≡ length (take i entries) = sym (length-take-le i entries within) in
    let own = rw before.kept at c.in_ok-read.ensures.read in
    let loads = rw before.kept at c.in_ok-read.ensures.loads in
    record {
      found = rw (taken, c.in_ok-push.ensures.items) (found_more files (take i entries) findings entry finding before.found (c.in_ok-look_at.ensures.finding files (take i entries) findings before.tables passed refused own));
      read = rw (taken, c.in_ok-push-2.ensures.items) (reads_more files (take i entries) reads entry read before.read own);
      refused = rw (c.in_ok-push-2.ensures.items, c.in_ok-push.ensures.items) (found_of_more reads findings read finding before.refused c.in_ok-look_at.ensures.found);
      loads = rw (taken, c.in_ok-push-2.ensures.items)
          (loads_more files (failures c.args.source.now) (failures c.loop-index.source) (failures c.read_entry.new.source) (take i entries) reads entry read before.loads loads);
      tables = rw taken (c.in_ok-add.ensures.added (take i entries) place before.tables);
      kept = c.read_entry.ensures.kept ∙ before.kept;
    }

pub returns-clause-one_each : goal.returns-clause-one_each
returns-clause-one_each g c =
    let entries = c.args.entries.now in
    let i = c.loop-index.index in
    one_each (g.S.Source.files c.args.source.now) [] [] (take i entries) c.loop-index.findings.items c.loop-index.invariant.found
    ∙ ap length (take_all i entries c.loop-index-test.false)
