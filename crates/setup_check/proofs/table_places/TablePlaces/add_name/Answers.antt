use Rattle.std.proofs.Common.{◌≡◌, ℕ, List, None, is_some, ap, sym, ◌∙◌}
use Rattle.indexmap.proofs.CallerLemmas.{insert_entry-new}
use Rattle.setup_check.specs.TablePlaces.{place_of}
use Rattle.setup_check.proofs.PlaceLaws.{known_stays, new_placed, not_known}
use Rattle.setup_check.proofs.table_places.TablePlaces.add_name.Goals as goal

pub returns-then-contains_key : goal.returns-then-contains_key
returns-then-contains_key c =
    let own = c.args.self.now in
    record {
      added = known_stays own c.args.name.now c.args.place
          (ap (λ (n : List ℕ). is_some (place_of own n)) (sym c.as_slice.ensures.value) ∙ sym c.if-contains_key.ensures);
    }

pub returns : goal.returns
returns c =
    let own = c.args.self.now in
    let copy = c.in_ok-copy.copy in
    let same : copy.items ≡ c.args.name.now = c.in_ok-copy.ensures.items ∙ c.as_slice-2.ensures.value in
    let none : place_of own copy.items ≡ None =
    not_known (place_of own copy.items) (ap (λ (n : List ℕ). is_some (place_of own n)) (same ∙ sym c.as_slice.ensures.value) ∙ sym c.if-contains_key.ensures) in
    record {
      added = new_placed own.places.entries c.insert.new.self.entries copy (λ k. k.items) c.args.name.now c.args.place same
          (c.in_ok-insert.ensures.entries ∙ insert_entry-new _ own.places copy c.args.place none);
    }
