-- Where a writer stands after a call on its sink.
use Rattle.std.proofs.Common.{◌≡◌, ℕ, List, Option, [], ◌∙◌, subst, Result, Ok, Err, Bool}
use Rattle.std.specs.Prelude.{OnOk, OnErr, is_err}
use Rattle.byte_io.specs.Sink.{grown, IsFront, Rises}
use Rattle.byte_io.specs.Laws.Sinks.{grown_nil, grown_then}
use Rattle.byte_io.specs.Writer.{Wanted, Stands, due, more}

pub stands_after : {T E : Type 0} (r : Result T E) (failed : Bool) (written : Option (List ℕ)) (failures : Option ℕ) (waiting : List ℕ) (w : Wanted) → failed ≡ is_err r → IsFront w.begun written → OnOk r (grown written waiting ≡ due w) → OnOk r (failures ≡ w.failures) → OnErr r (IsFront written (due w)) → OnErr r (Rises w.failures failures) → Stands failed written failures waiting w
stands_after (Ok x) failed written failures waiting w is kept all no_failure front failures_rise = rw is (kept, (all, no_failure))
stands_after (Err e) failed written failures waiting w is kept all no_failure front failures_rise = rw is (kept, (front, failures_rise))

-- the same after more was put
pub stands_put : {T E : Type 0} (r : Result T E) (failed : Bool) (written : Option (List ℕ)) (failures : Option ℕ) (waiting bytes : List ℕ) (w : Wanted) → failed ≡ is_err r → IsFront w.begun written → OnOk r (grown written waiting ≡ grown (due w) bytes) → OnOk r (failures ≡ w.failures) → OnErr r (IsFront written (grown (due w) bytes)) → OnErr r (Rises w.failures failures) → Stands failed written failures waiting (more w bytes)
stands_put r failed written failures waiting bytes w is kept all no_failure front rise =
    let e : grown (due w) bytes ≡ due (more w bytes) = grown_then w.begun w.put bytes in
    stands_after r failed written failures waiting (more w bytes) is kept (subst (λ (o : Option (List ℕ)). OnOk r (grown written waiting ≡ o)) e all) no_failure (subst (λ (o : Option (List ℕ)). OnErr r (IsFront written o)) e front) rise

-- all that waited has been sent
pub sent_all : {T E : Type 0} (r : Result T E) (before after whole : Option (List ℕ)) (waiting left : List ℕ) → OnOk r (after ≡ grown before waiting) → OnOk r (left ≡ []) → grown before waiting ≡ whole → OnOk r (grown after left ≡ whole)
sent_all (Ok x) before after whole waiting left wrote none all = rw (none, wrote) (grown_nil (grown before waiting) ∙ all)
sent_all (Err e) before after whole waiting left wrote none all = tt
