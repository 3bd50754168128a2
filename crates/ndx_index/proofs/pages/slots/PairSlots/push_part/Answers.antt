use Rattle.std.proofs.Common.{◌≡◌, ◌+◌, ◌-◌, ◌*◌, ◌≤◌, ℕ, length, refl, sym, ap, ◌∙◌, arith}
use Rattle.std.proofs.lemmas.List.{length-append}
use Rattle.ndx_index.specs.declared.pages.slots.PairSlots.TheInside.{Inside}
use Rattle.ndx_index.specs.declared.pair_list.part.ListPart.{ListPart}
use Rattle.ndx_index.specs.ListParts.{listed}
use Rattle.ndx_index.specs.Slots.{Slots, slots_view}
use Rattle.ndx_index.proofs.RunLaws.{append_pairs, length-pairs, times_le}
use Rattle.ndx_index.proofs.pages.slots.PairSlots.push_part.Goals as goal

-- both parts have room
record HasRoom (x : Inside) (part : ListPart) : Type 0 where
  count : length part.numbers.now ≤ x.spare
  same : part.key_len ≡ x.key_len
  bytes : length part.keys.now ≡ length part.numbers.now * x.key_len
  all : length x.numbers.items * x.key_len + length part.numbers.now * x.key_len ≤ (length x.numbers.items + x.spare) * x.key_len

has_room : (x : Inside) (now : Slots) (part : ListPart) → slots_view x ≡ now → part.key_len ≡ now.key_len → length (listed part) ≤ now.spare → HasRoom x part
has_room x now part e key room =
    let n : ℕ = length part.numbers.now in
    let count : n ≤ x.spare = omega (arith, room, length-pairs part.key_len part.keys.now part.numbers.now, ap (λ (s : Slots). s.spare) e) in
    let same : part.key_len ≡ x.key_len = key ∙ sym (ap (λ (s : Slots). s.key_len) e) in
    let spread : (length x.numbers.items + n) * x.key_len ≡ length x.numbers.items * x.key_len + n * x.key_len = omega arith in
    let more : length x.numbers.items + n ≤ length x.numbers.items + x.spare = omega (arith, count) in
    record {
      count = count;
      same = same;
      bytes = part.fit ∙ ap (λ (k : ℕ). n * k) same;
      all = rw (← spread) (times_le (length x.numbers.items + n) (length x.numbers.items + x.spare) x.key_len more);
    }

pub push_run-requires : goal.push_run-requires
push_run-requires c =
    let r = has_room c.self.inside c.args.self.now c.args.part c.self.view_is c.requires.key c.requires.room in
    record { room = omega (arith, r.all, r.bytes, c.self.invariant.fit, c.self.invariant.keys_room, c.self.inside.keys.ok.0) }

pub push_run-requires-2 : goal.push_run-requires-2
push_run-requires-2 c =
    let r = has_room c.self.inside c.args.self.now c.args.part c.self.view_is c.requires.key c.requires.room in
    record { room = omega (arith, r.count, c.self.invariant.numbers_room, c.self.inside.numbers.ok.0) }

pub overflow_sub-self : goal.overflow_sub-self
overflow_sub-self c = (has_room c.self.inside c.args.self.now c.args.part c.self.view_is c.requires.key c.requires.room).count

pub invariant_of-self : goal.invariant_of-self
invariant_of-self c =
    let inside = c.self.inside in
    let part = c.args.part in
    let runs = c.self.invariant in
    let k = inside.key_len in
    let n : ℕ = length part.numbers.now in
    let r = has_room inside c.args.self.now part c.self.view_is c.requires.key c.requires.room in
    let more : length c.push_run-2.new.run.items ≡ length inside.numbers.items + n = ap length c.push_run-2.ensures.items ∙ length-append inside.numbers.items part.numbers.now in
    let long : length c.push_run.new.run.items ≡ length inside.keys.items + length part.keys.now = ap length c.push_run.ensures.items ∙ length-append inside.keys.items part.keys.now in
    let spread : (length inside.numbers.items + n) * k ≡ length inside.numbers.items * k + n * k = omega arith in
    let all : length inside.numbers.items + n + (inside.spare - n) ≡ length inside.numbers.items + inside.spare = omega (arith, r.count) in
    record {
      short = runs.short;
      fit = rw (more, long, spread, r.bytes, runs.fit) refl;
      keys_room = rw (more, all) (omega (arith, runs.keys_room, c.push_run.ensures.capacity));
      numbers_room = rw (more, all) (omega (arith, runs.numbers_room, c.push_run-2.ensures.capacity));
    }

pub returns-clause-spare : goal.returns-clause-spare
returns-clause-spare c =
    let part = c.args.part in
    let r = has_room c.self.inside c.args.self.now part c.self.view_is c.requires.key c.requires.room in
    omega (arith, r.count, length-pairs part.key_len part.keys.now part.numbers.now, ap (λ (s : Slots). s.spare) c.self.view_is)

pub returns-clause-pairs : goal.returns-clause-pairs
returns-clause-pairs c =
    let inside = c.self.inside in
    let part = c.args.part in
    let r = has_room inside c.args.self.now part c.self.view_is c.requires.key c.requires.room in
    rw (
      ← c.self.view_is,
      c.push_run.ensures.items,
      c.push_run-2.ensures.items,
      append_pairs inside.key_len inside.keys.items part.keys.now inside.numbers.items part.numbers.now c.self.invariant.fit,
      r.same,
    ) refl
