use Rattle.std.proofs.Common.{◌≡◌}
use Rattle.std.specs.List.{AllByRecursion}
use Rattle.byte_io.specs.Sink.{grown}
use Rattle.folders.specs.Files.{listing, IsOfBytes}
use Rattle.live_program.specs.Closings.{answer_files_of}
use Rattle.live_program.proofs.answers.write_answers.Given as goal

abbrev pub invariant-loop-done : goal.invariant-loop-done
invariant-loop-done g l =
    let written = g.F.ByteSink.written in
    record {
      wrote : written l.folder ≡ grown (written l.fn.folder) (listing (answer_files_of l.done l.journal));
      bytes : AllByRecursion IsOfBytes (answer_files_of l.done l.journal);
      no_failure : g.F.ByteSink.failures l.folder ≡ g.F.ByteSink.failures l.fn.folder;
    }
