use Rattle.std.proofs.Common.{◌≡◌, ◌≢◌, ◌<◌, ℕ, List, length, get_or, sym, subst, ◌∙◌, arith}
use Rattle.std.specs.List.{insert}
use Rattle.lock_table.specs.Numbers.{with_number}
use Rattle.lock_table.proofs.Places.{place, found, placed}
use Rattle.lock_table.proofs.slot.Slot.insert.Goals as goal
use Rattle.lock_table.proofs.slot.Slot.insert.Goals.{else-at-held-via-then-at-held+else-held-at, else-at-held-via-else-at-held}

found_at : (n at : ℕ) (held now : List ℕ) → held ≡ now → at ≡ place n held → at < length held → get_or held at 0 ≡ n → now ≡ with_number n now
found_at n at held now e is h same =
    let P : ℕ → Type 0 = λ k. k < length held → get_or held k 0 ≡ n → held ≡ with_number n held in
    let Q : List ℕ → Type 0 = λ ns. ns ≡ with_number n ns in
    let here : P (place n held) = λ i f. sym (found n held i f) in
    let there : P at = subst P (sym is) here in
    subst Q e (there h same)

placed_at : (n at : ℕ) (held now : List ℕ) → held ≡ now → at ≡ place n held → (at < length held → get_or held at 0 ≢ n) → insert now at n ≡ with_number n now
placed_at n at held now e is new =
    let P : ℕ → Type 0 = λ k. (k < length held → get_or held k 0 ≢ n) → insert held k n ≡ with_number n held in
    let Q : List ℕ → Type 0 = λ ns. insert ns at n ≡ with_number n ns in
    let here : P (place n held) = λ f. sym (placed n held f) in
    let there : P at = subst P (sym is) here in
    subst Q e (there new)

pub returns-then-held-at : goal.returns-then-held-at
returns-then-held-at c =
    record { value = found_at c.args.number c.place_of-at.result c.as_slice-held.result.now c.args.self.now c.as_slice-held.ensures.value c.place_of-at.ensures.value c.if-at-held.true c.if-held-at.true }

pub returns : goal.returns
returns c =
    let held = c.as_slice-held.result.now in
    let at = c.place_of-at.result in
    let new : at < length held → get_or held at 0 ≢ c.args.number =
    elim c.else-at-held.branch [
      | else-at-held-via-then-at-held+else-held-at w ↦ λ h. w.if-held-at.false
      | else-at-held-via-else-at-held w ↦ λ h. absurd (omega (arith, w.if-at-held.false))
    ] in
    record { value = c.put.ensures.value ∙ placed_at c.args.number at held c.args.self.now c.as_slice-held.ensures.value c.place_of-at.ensures.value new }
