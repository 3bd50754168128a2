-- A part of a list of pairs whose keys have one length.
use Rattle.std.specs.Prelude.{List}
use Rattle.ndx_index.specs.declared.pair.Pair.{Pair}
use Rattle.ndx_index.specs.declared.pair_list.part.ListPart.{ListPart}
use Rattle.ndx_index.specs.Slots.{slot_pairs}

-- the pairs of a part of such a list, by their runs of bytes
abbrev pub listed : ListPart → List Pair
listed part = slot_pairs part.key_len part.keys.now part.numbers.now
