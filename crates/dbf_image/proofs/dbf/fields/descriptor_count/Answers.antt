use Rattle.std.proofs.Common.{ℕ, ◌+◌, ◌-◌, ◌*◌, ◌/◌, eqb, ◌∙◌, arith}
use Rattle.std.specs.Prelude.{slice_index}
use Rattle.std.proofs.lemmas.Bool.{ne_eqb}
use Rattle.dbf_image.proofs.Chunks.{first_passing-next}
use Rattle.dbf_image.proofs.dbf.fields.descriptor_count.Goals as goal
use Rattle.dbf_image.specs.declared.format.TheConstants.{DESCRIPTOR, HEADER, HEADER_END}

pub loop-i-preserved : goal.loop-i-preserved
loop-i-preserved c =
    let test = λ (i : ℕ). eqb (slice_index c.args.bytes.now (HEADER + DESCRIPTOR * i)) HEADER_END in
    first_passing-next test c.loop-i.i ((c.args.end - 1) / DESCRIPTOR) (omega arith) (ne_eqb _ _ c.if-bytes-i-eq-HEADER_END.false) ∙ c.loop-i.invariant
