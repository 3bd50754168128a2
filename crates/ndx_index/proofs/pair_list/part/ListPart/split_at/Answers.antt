use Rattle.std.proofs.Common.{◌*◌, ◌≤◌, ℕ, length, sym, arith}
use Rattle.ndx_index.specs.declared.pair_list.part.ListPart.{ListPart}
use Rattle.ndx_index.specs.ListParts.{listed}
use Rattle.ndx_index.proofs.RunLaws.{length-pairs, times_le, take_pairs, drop_pairs}
use Rattle.ndx_index.proofs.pair_list.part.ListPart.split_at.Goals as goal

within : (part : ListPart) (count : ℕ) → count ≤ length (listed part) → count ≤ length part.numbers.now
within part count inside = omega (arith, inside, length-pairs part.key_len part.keys.now part.numbers.now)

keys_within : (part : ListPart) (count : ℕ) → count ≤ length (listed part) → count * part.key_len ≤ length part.keys.now
keys_within part count inside = rw part.fit (times_le count (length part.numbers.now) part.key_len (within part count inside))

pub overflow_mul-count : goal.overflow_mul-count
overflow_mul-count c = omega (arith, keys_within c.args.self c.args.count c.requires.inside, c.ranges.self)

pub split_at-requires : goal.split_at-requires
split_at-requires c = keys_within c.args.self c.args.count c.requires.inside

pub split_at-requires-2 : goal.split_at-requires-2
split_at-requires-2 c = within c.args.self c.args.count c.requires.inside

pub returns-clause-front : goal.returns-clause-front
returns-clause-front c =
    let part = c.args.self in
    rw (c.split_at.ensures.front, c.split_at-2.ensures.front) (sym (take_pairs part.key_len c.args.count part.keys.now part.numbers.now))

pub returns-clause-rest : goal.returns-clause-rest
returns-clause-rest c =
    let part = c.args.self in
    rw (c.split_at.ensures.back, c.split_at-2.ensures.back) (sym (drop_pairs part.key_len c.args.count part.keys.now part.numbers.now))
