-- What a sink has of a text that was put in parts.
use Rattle.std.proofs.Common.{◌≡◌, ℕ, List, [], ◌++◌, Option, refl, sym, ap, ◌∙◌, append_assoc}
use Rattle.byte_io.specs.Laws.Puts.{due_all, more_parts}
use Rattle.byte_io.specs.Laws.Sinks.{front_by, grown_then}
use Rattle.byte_io.specs.Sink.{grown, IsFront}
use Rattle.byte_io.specs.Writer.{Wanted, due, more}
use Rattle.byte_io.specs.declared.sink.writer.SinkWriter.{SinkWriter}
use Rattle.table_text.specs.Output.{PutsAllBut}

-- what a writer is due to bring to its sink, after a heading and these bytes
pub due-both : (w v u : Wanted) (begun : Option (List ℕ)) (failures : Option ℕ) (heading bytes : List ℕ)
    → v ≡ more w heading → u ≡ more v bytes → w ≡ record { begun = begun; put = []; failures = failures } → due u ≡ grown begun (heading ++ bytes)
due-both w v u begun failures heading bytes first second new =
    due_all w u begun failures (heading ++ bytes) (more_parts w v u heading bytes (heading ++ bytes) second first refl) new

-- it is a front part of the text
pub front_of_text : (begun : Option (List ℕ)) (heading front left lines : List ℕ) → front ++ left ≡ lines → IsFront (grown begun (heading ++ front)) (grown begun (heading ++ lines))
front_of_text begun heading front left lines whole =
    let text : heading ++ lines ≡ (heading ++ front) ++ left = ap (λ (l : List ℕ). heading ++ l) (sym whole) ∙ sym (append_assoc heading front left) in
    front_by (grown begun (heading ++ front)) (grown begun (heading ++ lines)) left (ap (grown begun) text ∙ sym (grown_then begun (heading ++ front) left))

-- a front part of what was left to put was put, after what had been put before
pub put_further : {S : Type 0} {g : _} (old between new : SinkWriter S g) (bytes waiting here rest left : List ℕ) → waiting ≡ here ++ rest
    → PutsAllBut old bytes waiting between → PutsAllBut between here left new → PutsAllBut old bytes (left ++ rest) new
put_further old between new bytes waiting here rest left parts before then = record {
  front = before.front ++ then.front;
  whole = append_assoc before.front then.front (left ++ rest)
      ∙ ap (λ (l : List ℕ). before.front ++ l) (sym (append_assoc then.front left rest) ∙ ap (λ (l : List ℕ). l ++ rest) then.whole ∙ sym parts)
      ∙ before.whole;
  put = (then.put.0 ∙ before.put.0, more_parts _ _ _ before.front then.front _ then.put.1 before.put.1 refl);
}
