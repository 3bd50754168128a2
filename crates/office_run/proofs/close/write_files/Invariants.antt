use Rattle.std.proofs.Common.{◌≡◌, take, map}
use Rattle.std.specs.List.{AllByRecursion}
use Rattle.byte_io.specs.Sink.{grown}
use Rattle.folders.specs.Files.{listing, IsOfBytes}
use Rattle.office_run.specs.Closing.{file_of}
use Rattle.office_run.proofs.close.write_files.Given as goal

abbrev pub invariant-loop-file : goal.invariant-loop-file
invariant-loop-file g l =
    let written = g.F.ByteSink.written in
    record {
      counted : l.place ≡ l.file-index;
      wrote : written l.folder ≡ grown (written l.fn.folder) (listing (map file_of (take l.file-index l.planned)));
      bytes : AllByRecursion IsOfBytes (map file_of (take l.file-index l.planned));
      no_failure : g.F.ByteSink.failures l.folder ≡ g.F.ByteSink.failures l.fn.folder;
    }
