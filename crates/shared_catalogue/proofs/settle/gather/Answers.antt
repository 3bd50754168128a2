use Rattle.std.proofs.Common.{◌≡◌, List, [], ◌∷◌, ◌++◌, length, vec_len, refl, sym, ap, subst, ◌∙◌, append_assoc, arith, rules}
use Rattle.std.specs.Prelude.{All}
use Rattle.std.proofs.lemmas.List.Elements.{All-cons}
use Rattle.std.proofs.lemmas.Grind.{common_steps}
use Rattle.crossbeam_utils.specs.Seq.{cell_view}
use Rattle.shared_catalogue.specs.declared.board.Known.{Known}
use Rattle.shared_catalogue.specs.Seats.{Seated, IsWithin}
use Rattle.shared_catalogue.proofs.settle.gather.Goals as goal

pub loop-seat-preserved : goal.loop-seat-preserved
loop-seat-preserved g c =
    let i = c.loop-seat.invariant in
    let x : Seated = c.in-Some.seat in
    let all : Known = (cell_view c.args.pass.now).known in
    let popped = c.in-Some.ensures.items in
    let done = i.within in
    let within : IsWithin all x = subst (λ (k : Known). IsWithin k x) i.known c.give_up.ensures.within in
    let whole : c.args.seats.items ≡ c.pop.new.self.items ++ x ∷ done.0 = done.1 ∙ (ap (λ (l : List Seated). l ++ done.0) popped ∙ append_assoc c.pop.new.self.items (x ∷ []) done.0) in
    record {
      parts = search rules;
      amount = grind (arith, common_steps);
      most = search rules;
      table = c.give_up.ensures.pass.0;
      writes = c.give_up.ensures.pass.1;
      known = c.give_up.ensures.known ∙ i.known;
      within = (x ∷ done.0, whole, All-cons (IsWithin all) x done.0 within done.2);
    }

none_left : (xs : List Seated) → length xs ≡ 0 → xs ≡ []
none_left [] e = refl
none_left (x ∷ xs) e = absurd (omega arith)

pub returns-clause-within : goal.returns-clause-within
returns-clause-within g c =
    let i = c.loop-seat.invariant in
    let done = i.within in
    let all : Known = (cell_view c.args.pass.now).known in
    let len : vec_len c.loop-seat.seats ≡ length c.loop-seat.seats.items = search rules in
    let none : length c.loop-seat.seats.items ≡ 0 = omega (arith, c.in_default.ensures.cases.0, len) in
    let whole : c.args.seats.items ≡ done.0 = done.1 ∙ ap (λ (l : List Seated). l ++ done.0) (none_left c.loop-seat.seats.items none) in
    subst (All (IsWithin all)) (sym whole) done.2
