use Rattle.std.proofs.Common.{◌≡◌, take, []}
use Rattle.setup_files.specs.EntryFiles.{AreEntriesRead}
use Rattle.setup_files.specs.Loads.{AreEntryLoads}
use Rattle.setup_check.specs.Findings.{AreFindingsAfter, AreFoundOf}
use Rattle.setup_check.specs.TablePlaces.{ArePlacesIn}
use Rattle.setup_check.proofs.look.look_at_all.Given as goal

abbrev pub invariant-loop-index : goal.invariant-loop-index
invariant-loop-index g l =
    let files = g.S.Source.files in
    let failures = g.S.Source.failures in
    record {
      found : AreFindingsAfter (files l.fn.source) [] [] (take l.index l.entries) l.findings.items;
      read : AreEntriesRead (files l.fn.source) (take l.index l.entries) l.reads.items;
      refused : AreFoundOf l.reads.items l.findings.items;
      loads : AreEntryLoads (files l.fn.source) (failures l.fn.source) (failures l.source) (take l.index l.entries) l.reads.items;
      tables : ArePlacesIn l.tables (take l.index l.entries);
      kept : files l.source ≡ files l.fn.source;
    }
