use Rattle.std.proofs.Common.{◌*◌, ◌≤◌, ap, sym, subst, ◌∙◌, arith}
use Rattle.std.specs.FinMap as map
use Rattle.dbf_image.specs.declared.memo_store.file_text.TheConstants.{FILE_TEXTS}
use Rattle.dbf_image.specs.declared.format.TheConstants.{BLOCK}
use Rattle.dbf_image.specs.MemoStore.{Memos, Texts, all_bytes, get_text, used_blocks}
use Rattle.dbf_image.specs.FileTexts.{AreBelow, with_file_texts}
use Rattle.dbf_image.proofs.FileTextLaws.{below_put, put_beside}
use Rattle.dbf_image.proofs.MemoTotals.{used_insert}
use Rattle.dbf_image.proofs.StoreLaws.{bytes_of_store, low_text, zero_put}
use Rattle.dbf_image.proofs.memo_store.MemoStore.put.Goals as goal

pub put-requires-clause-room : goal.put-requires-clause-room
put-requires-clause-room c = omega (arith, c.requires.room, c.self.invariant.room, ap (λ (v : Memos). v.spare) c.self.view_is)

pub invariant_of-self : goal.invariant_of-self
invariant_of-self c =
    let old = c.self.invariant in
    let put = c.put.ensures in
    let texts = c.self.inside.blocks.texts in
    let spare : c.self.inside.held ≤ c.put.new.self.spare = omega (arith, c.requires.room, old.room, put.spare, ap (λ (v : Memos). v.spare) c.self.view_is) in
    record {
      inside = old.inside;
      few = old.few;
      below = subst (λ (t : Texts). AreBelow FILE_TEXTS t) (sym put.texts) (below_put FILE_TEXTS texts c.put.result c.args.text.now put.below old.below);
      no_zero = ap (λ (t : Texts). get_text t 0) put.texts ∙ zero_put texts c.put.result c.args.text.now put.positive old.no_zero;
      held = old.held;
      held_bounded = old.held_bounded;
      room = spare;
    }

pub returns-clause-fresh : goal.returns-clause-fresh
returns-clause-fresh c = low_text c.self.inside _ c.put.result c.self.view_is c.put.ensures.below ∙ c.put.ensures.fresh

pub returns-clause-texts : goal.returns-clause-texts
returns-clause-texts c =
    let x = c.self.inside in
    ap (with_file_texts x.file.items FILE_TEXTS x.texts.items) c.put.ensures.texts
    ∙ put_beside x.file.items FILE_TEXTS x.texts.items x.blocks.texts c.put.result c.args.text.now c.put.ensures.below c.self.invariant.below
    ∙ ap (λ (v : Memos). map.insert v.texts c.put.result c.args.text.now) c.self.view_is

pub returns-clause-spare : goal.returns-clause-spare
returns-clause-spare c = omega (arith, c.requires.room, c.self.invariant.room, c.put.ensures.spare, ap (λ (v : Memos). v.spare) c.self.view_is)

pub returns-clause-blocks : goal.returns-clause-blocks
returns-clause-blocks c =
    let x = c.self.inside in
    let more = ap used_blocks c.put.ensures.texts ∙ used_insert x.blocks.texts c.put.result c.args.text.now c.put.ensures.fresh in
    bytes_of_store _ (invariant_of-self c)
    ∙ ap (λ n. BLOCK * n) (omega (arith, more, c.put.ensures.spare))
    ∙ sym (bytes_of_store x c.self.invariant) ∙ ap all_bytes c.self.view_is
