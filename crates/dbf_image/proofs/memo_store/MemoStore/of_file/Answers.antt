use Rattle.std.proofs.Common.{List, length, nat_cmp, ap, sym, subst, ◌∙◌, arith}
use Rattle.std.specs.FinMap.{get-empty}
use Rattle.dbf_image.specs.declared.memo_store.file_text.FileText.{FileText}
use Rattle.dbf_image.specs.declared.memo_store.file_text.TheConstants.{FILE_TEXTS}
use Rattle.dbf_image.specs.FileTexts.{blocks_of_file, AreBelow}
use Rattle.dbf_image.specs.MemoStore.{Texts, get_text}
use Rattle.dbf_image.proofs.FileTextLaws.{none_below}
use Rattle.dbf_image.proofs.memo_store.MemoStore.of_file.Goals as goal

pub invariant_of-result : goal.invariant_of-result
invariant_of-result c =
    let texts = c.in_ok-reserve.ensures.texts ∙ c.new-blocks.ensures.texts in
    record {
      inside = c.requires.inside;
      few = c.requires.few;
      below = subst (λ (t : Texts). AreBelow FILE_TEXTS t) (sym texts) (none_below FILE_TEXTS);
      no_zero = ap (λ (t : Texts). get_text t 0) texts ∙ get-empty nat_cmp 0;
      held = c.blocks_of_file-held.ensures.value ∙ ap blocks_of_file c.deref.ensures.value;
      held_bounded = omega (arith, c.blocks_of_file-held.ensures.bounded, c.requires.few, ap (λ (ts : List FileText). length ts) c.deref.ensures.value);
      room = c.in_ok-reserve.ensures.ok;
    }
