use Rattle.std.proofs.Common.{◌≡◌, ◌+◌, ◌-◌, ◌*◌, ◌≤◌, ◌∷◌, [], ℕ, List, length, refl, sym, ap, ◌∙◌, arith}
use Rattle.std.proofs.lemmas.List.{length-append, take_all}
use Rattle.ndx_index.specs.Slots.{Slots}
use Rattle.ndx_index.proofs.RunLaws.{append_pairs}
use Rattle.ndx_index.proofs.pages.slots.PairSlots.push.Goals as goal

pub invariant_of-self : goal.invariant_of-self
invariant_of-self c =
    let inside = c.self.inside in
    let runs = c.self.invariant in
    let k = inside.key_len in
    let key : List ℕ = c.args.key.now in
    let wide : length key ≡ k = c.requires.key ∙ sym (ap (λ (s : Slots). s.key_len) c.self.view_is) in
    let more : length c.push_reserved.new.self.items ≡ length inside.numbers.items + 1 = ap length c.push_reserved.ensures.items ∙ length-append inside.numbers.items (c.args.number ∷ []) in
    let long : length c.push_run.new.run.items ≡ length inside.keys.items + k =
    ap length c.push_run.ensures.items ∙ length-append inside.keys.items key ∙ ap (λ (m : ℕ). length inside.keys.items + m) wide in
    let spread : (length inside.numbers.items + 1) * k ≡ length inside.numbers.items * k + k = omega arith in
    let all : length inside.numbers.items + 1 + (inside.spare - 1) ≡ length inside.numbers.items + inside.spare = omega (arith, ap (λ (s : Slots). s.spare) c.self.view_is, c.requires.room) in
    record {
      short = runs.short;
      fit = rw (more, long, spread, runs.fit) refl;
      keys_room = rw (more, all) (omega (arith, runs.keys_room, c.push_run.ensures.capacity));
      numbers_room = rw (more, all, c.push_reserved.ensures.capacity) runs.numbers_room;
    }

pub returns-clause-pairs : goal.returns-clause-pairs
returns-clause-pairs c =
    let inside = c.self.inside in
    let key : List ℕ = c.args.key.now in
    let wide : length key ≤ inside.key_len = omega (arith, c.requires.key, ap (λ (s : Slots). s.key_len) c.self.view_is) in
    rw (
      ← c.self.view_is,
      c.push_run.ensures.items,
      c.push_reserved.ensures.items,
      append_pairs inside.key_len inside.keys.items key inside.numbers.items (c.args.number ∷ []) c.self.invariant.fit,
      take_all inside.key_len key wide,
    ) refl
