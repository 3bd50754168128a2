-- What a call that may run out of memory puts into a writer.
use Rattle.std.specs.Prelude.{◌≡◌, ℕ, List, ◌++◌}
use Rattle.byte_io.specs.Output.{Puts}
use Rattle.byte_io.specs.declared.sink.writer.SinkWriter.{SinkWriter}

-- a front part of these bytes was put into a writer, and this is left of them
pub record PutsAllBut {S : Type 0} {g : _} (old : SinkWriter S g) (bytes left : List ℕ) (new : SinkWriter S g) : Type 0 where
  pub front : List ℕ
  pub whole : front ++ left ≡ bytes
  pub put : Puts old front new

-- a front part of these bytes was put into a writer
abbrev pub PutsFront : {S : Type 0} {g : _} → SinkWriter S g → List ℕ → SinkWriter S g → Type 0
PutsFront old bytes new = (left : List ℕ) × PutsAllBut old bytes left new
