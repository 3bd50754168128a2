use Rattle.std.proofs.Common.{ap, ◌∙◌, List, ℕ}
use Rattle.setup_check.specs.TablePlaces.{place_of}
use Rattle.setup_check.proofs.table_places.TablePlaces.place.Goals as goal

pub returns : goal.returns
returns c = record {
  value = λ entries are.
      c.copied.ensures ∙ (c.get.ensures.value ∙ (ap (λ (name : List ℕ). place_of c.args.self.now name) c.as_slice.ensures.value ∙ are c.args.name.now));
}
