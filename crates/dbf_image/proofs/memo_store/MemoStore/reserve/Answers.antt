use Rattle.std.proofs.Common.{ap, sym, subst, ◌∙◌, arith}
use Rattle.dbf_image.specs.declared.memo_store.file_text.TheConstants.{FILE_TEXTS}
use Rattle.dbf_image.specs.MemoStore.{Texts, get_text}
use Rattle.dbf_image.specs.FileTexts.{AreBelow}
use Rattle.dbf_image.proofs.memo_store.MemoStore.reserve.Goals as goal

pub invariant_of-self : goal.invariant_of-self
invariant_of-self c =
    let old = c.self.invariant in
    let same = c.reserve.ensures.texts in
    record {
      inside = old.inside;
      few = old.few;
      below = subst (λ (t : Texts). AreBelow FILE_TEXTS t) (sym same) old.below;
      no_zero = ap (λ (t : Texts). get_text t 0) same ∙ old.no_zero;
      held = old.held;
      held_bounded = old.held_bounded;
      room = omega (arith, old.room, c.reserve.ensures.spare);
    }
