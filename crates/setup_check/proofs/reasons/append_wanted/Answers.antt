use Rattle.setup_check.proofs.AppendLaws.{three_parts}
use Rattle.setup_check.proofs.reasons.append_wanted.Goals as goal

pub returns : goal.returns
returns c = record { ok = three_parts _ _ _ _ _ _ _ c.in_ok-extend_from_slice.ensures.items c.in_ok-extend_from_slice-2.ensures.items c.in_ok-extend_from_slice-3.ensures.items }
