-- What a call puts into a writer.
use Rattle.std.specs.Prelude.{◌≡◌, ℕ, List}
use Rattle.byte_io.specs.Writer.{more}
use Rattle.byte_io.specs.declared.sink.writer.SinkWriter.{SinkWriter}

-- A call puts these bytes into a writer, which has its sink still.
abbrev pub Puts : {S : Type 0} {g : _} → SinkWriter S g → List ℕ → SinkWriter S g → Type 0
Puts old bytes new = (new.sink.ghost_name ≡ old.sink.ghost_name) × (new.wanted ≡ more old.wanted bytes)
