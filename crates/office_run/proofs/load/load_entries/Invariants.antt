use Rattle.std.proofs.Common.{◌≡◌, take}
use Rattle.setup_files.specs.Noted.{AreNoted}
use Rattle.office_run.specs.FileSums.{paths_in}
use Rattle.office_run.specs.Loading.{nothing, read_of, AreNamesOf, LoadAll}
use Rattle.office_run.proofs.load.load_entries.Given as goal

abbrev pub invariant-loop-entry : goal.invariant-loop-entry
invariant-loop-entry g l =
    let files = g.S.Source.files in
    record {
      read : LoadAll (files l.fn.source) (take l.entry-index l.entries) nothing (read_of l.loaded);
      noted : AreNoted (files l.fn.source) (paths_in (take l.entry-index l.entries)) l.fn.sums l.sums;
      names : AreNamesOf l.names l.loaded.tables.items;
      kept : files l.source ≡ files l.fn.source;
      loads : g.S.Source.failures l.source ≡ g.S.Source.failures l.fn.source;
    }
