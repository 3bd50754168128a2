use Rattle.std.proofs.Common.{◌≡◌, ◌*◌, List, nat_eq, refl, ap, sym, subst, ◌∙◌, arith}
use Rattle.std.proofs.lemmas.List.{with_items_is}
use Rattle.std.specs.List.{list_any}
use Rattle.std.specs.FinMap as map
use Rattle.dbf_image.specs.declared.memo_store.file_text.FileText.{FileText}
use Rattle.dbf_image.specs.declared.memo_store.file_text.TheConstants.{FILE_TEXTS}
use Rattle.dbf_image.specs.declared.format.TheConstants.{BLOCK}
use Rattle.dbf_image.specs.MemoStore.{Memos, all_bytes, blocks_of_all, used_blocks}
use Rattle.dbf_image.specs.Store.{texts_of}
use Rattle.dbf_image.specs.FileTexts.{blocks_of_file, with_file_texts, KeepsTexts}
use Rattle.dbf_image.proofs.FileTextLaws.{drop_beside}
use Rattle.dbf_image.proofs.FileTextMarks.{keeps_fewer}
use Rattle.dbf_image.proofs.MemoUse.{used_kept}
use Rattle.dbf_image.proofs.StoreLaws.{bytes_of_store, dropped_store, zero_of_all}
use Rattle.dbf_image.proofs.memo_store.MemoStore.drop_unused.Goals as goal

pub invariant_of-self : goal.invariant_of-self
invariant_of-self c =
    let x = c.self.inside in
    let us = c.keep_file_texts.new.texts in
    let keeps = subst (λ (l : List FileText). KeepsTexts l us c.args.numbers.now) c.deref_mut.ensures.value c.keep_file_texts.ensures.keeps in
    let is = with_items_is x.texts us (c.keep_file_texts.ensures.keeps.same_length ∙ c.deref_mut.ensures.len) in
    dropped_store x _ c.args.numbers.now c.self.invariant refl (subst (λ (l : List FileText). KeepsTexts x.texts.items l c.args.numbers.now) (sym is) keeps)
    c.drop_unused.ensures.texts c.drop_unused.ensures.spare (c.blocks_of_file-self-inside.ensures.value ∙ ap blocks_of_file c.deref.ensures.value)

pub returns-clause-texts : goal.returns-clause-texts
returns-clause-texts c =
    let x = c.self.inside in
    let us = c.keep_file_texts.new.texts in
    let keeps = subst (λ (l : List FileText). KeepsTexts l us c.args.numbers.now) c.deref_mut.ensures.value c.keep_file_texts.ensures.keeps in
    let is = with_items_is x.texts us (c.keep_file_texts.ensures.keeps.same_length ∙ c.deref_mut.ensures.len) in
    ap (λ (l : List FileText). with_file_texts x.file.items FILE_TEXTS l c.drop_unused.new.self.texts) is
    ∙ drop_beside x.file.items x.texts.items us x.blocks.texts c.drop_unused.new.self.texts c.args.numbers.now c.self.invariant.below keeps c.drop_unused.ensures.texts
    ∙ ap (λ (v : Memos). map.retain_keys v.texts (λ q. list_any (nat_eq q) c.args.numbers.now)) c.self.view_is

pub returns-clause-spare : goal.returns-clause-spare
returns-clause-spare c =
    let x = c.self.inside in
    let us = c.keep_file_texts.new.texts in
    let keeps = subst (λ (l : List FileText). KeepsTexts l us c.args.numbers.now) c.deref_mut.ensures.value c.keep_file_texts.ensures.keeps in
    let is = with_items_is x.texts us (c.keep_file_texts.ensures.keeps.same_length ∙ c.deref_mut.ensures.len) in
    let held : c.blocks_of_file-self-inside.result ≡ blocks_of_file us = c.blocks_of_file-self-inside.ensures.value ∙ ap blocks_of_file (c.deref.ensures.value ∙ is) in
    let fewer = keeps_fewer x.texts.items us c.args.numbers.now keeps in
    omega (arith, held, fewer, c.self.invariant.held, c.drop_unused.ensures.spare, ap (λ (v : Memos). v.spare) c.self.view_is)

pub returns-clause-blocks : goal.returns-clause-blocks
returns-clause-blocks c =
    bytes_of_store _ (invariant_of-self c)
    ∙ ap (λ n. BLOCK * n) c.drop_unused.ensures.blocks
    ∙ sym (bytes_of_store c.self.inside c.self.invariant) ∙ ap all_bytes c.self.view_is

pub returns-clause-used : goal.returns-clause-used
returns-clause-used c =
    let x = c.self.inside in
    let numbers = c.args.numbers.now in
    let most = used_kept (with_file_texts x.file.items FILE_TEXTS x.texts.items x.blocks.texts) numbers (zero_of_all x.file.items x.texts.items x.blocks.texts c.self.invariant.no_zero) in
    let is = ap used_blocks (returns-clause-texts c ∙ ap (λ (v : Memos). map.retain_keys v.texts (λ q. list_any (nat_eq q) numbers)) (sym c.self.view_is)) in
    let view = ap (λ (v : Memos). blocks_of_all (texts_of v.texts numbers)) c.self.view_is in
    omega (arith, most, is, view)
