use Rattle.std.proofs.Common.{◌≡◌, ℕ, ◌+◌, ◌-◌, ◌*◌, ◌/◌, eqb}
use Rattle.std.specs.Prelude.{slice_index}
use Rattle.dbf_image.specs.Reading.{first_passing}
use Rattle.dbf_image.proofs.dbf.fields.descriptor_count.Given as goal
use Rattle.dbf_image.specs.declared.format.TheConstants.{DESCRIPTOR, HEADER, HEADER_END}

abbrev pub invariant-loop-i : goal.invariant-loop-i
invariant-loop-i l =
    let test = λ (i : ℕ). eqb (slice_index l.bytes (HEADER + DESCRIPTOR * i)) HEADER_END in
    first_passing test l.i ((l.end - 1) / DESCRIPTOR - l.i) ≡ first_passing test 0 ((l.end - 1) / DESCRIPTOR)
