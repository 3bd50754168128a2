use Rattle.std.proofs.Common.{List, length, nat_cmp, refl, ap, sym, subst, ◌∙◌, arith}
use Rattle.std.specs.FinMap.{get-empty}
use Rattle.dbf_image.specs.declared.memo_store.file_text.FileText.{FileText}
use Rattle.dbf_image.specs.declared.memo_store.file_text.TheConstants.{FILE_TEXTS}
use Rattle.dbf_image.specs.FileTexts.{AreBelow}
use Rattle.dbf_image.specs.MemoStore.{Texts, get_text}
use Rattle.dbf_image.proofs.FileTextLaws.{none_below}
use Rattle.dbf_image.proofs.memo_store.MemoStore.new.Goals as goal

pub invariant_of-result : goal.invariant_of-result
invariant_of-result c =
    let none = c.new-2.ensures.items in
    let texts = c.new-3.ensures.texts in
    record {
      inside = rw none tt;
      few = omega (arith, ap (λ (ts : List FileText). length ts) none);
      below = subst (λ (t : Texts). AreBelow FILE_TEXTS t) (sym texts) (none_below FILE_TEXTS);
      no_zero = ap (λ (t : Texts). get_text t 0) texts ∙ get-empty nat_cmp 0;
      held = rw none refl;
      held_bounded = omega arith;
      room = omega arith;
    }
