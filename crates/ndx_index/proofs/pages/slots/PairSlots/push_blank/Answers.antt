use Rattle.std.proofs.Common.{◌≡◌, ◌+◌, ◌-◌, ◌*◌, ℕ, length, replicate, refl, ap, ◌∙◌, arith}
use Rattle.std.proofs.lemmas.List.{length-append, length-replicate}
use Rattle.ndx_index.specs.Slots.{Slots}
use Rattle.ndx_index.proofs.RunLaws.{append_pairs, blank_pairs}
use Rattle.ndx_index.proofs.pages.slots.PairSlots.push_blank.Goals as goal

pub invariant_of-self : goal.invariant_of-self
invariant_of-self c =
    let inside = c.self.inside in
    let runs = c.self.invariant in
    let n = c.args.n in
    let k = inside.key_len in
    let zero : ℕ = 0 in
    let more : length c.push_copies-2.new.run.items ≡ length inside.numbers.items + n =
    ap length c.push_copies-2.ensures.items ∙ length-append inside.numbers.items (replicate n zero) ∙ ap (λ (m : ℕ). length inside.numbers.items + m) (length-replicate n zero) in
    let long : length c.push_copies.new.run.items ≡ length inside.keys.items + n * k =
    ap length c.push_copies.ensures.items ∙ length-append inside.keys.items (replicate (n * k) zero) ∙ ap (λ (m : ℕ). length inside.keys.items + m) (length-replicate (n * k) zero) in
    let spread : (length inside.numbers.items + n) * k ≡ length inside.numbers.items * k + n * k = omega arith in
    let all : length inside.numbers.items + n + (inside.spare - n) ≡ length inside.numbers.items + inside.spare = omega (arith, ap (λ (s : Slots). s.spare) c.self.view_is, c.requires.room) in
    record {
      short = runs.short;
      fit = rw (more, long, spread, runs.fit) refl;
      keys_room = rw (more, all, c.push_copies.ensures.capacity) runs.keys_room;
      numbers_room = rw (more, all, c.push_copies-2.ensures.capacity) runs.numbers_room;
    }

pub returns-clause-pairs : goal.returns-clause-pairs
returns-clause-pairs c =
    let inside = c.self.inside in
    let zero : ℕ = 0 in
    rw (
      ← c.self.view_is,
      c.push_copies.ensures.items,
      c.push_copies-2.ensures.items,
      append_pairs inside.key_len inside.keys.items (replicate (c.args.n * inside.key_len) zero) inside.numbers.items (replicate c.args.n zero) c.self.invariant.fit,
      blank_pairs inside.key_len c.args.n,
    ) refl
