use Rattle.std.proofs.Common.{refl, sym, ◌∙◌}
use Rattle.dbf_image.specs.Store.{text_of}
use Rattle.dbf_image.proofs.BlockLaws.{block_put, block_none}
use Rattle.dbf_image.proofs.MemoNumbers.{some_number, text_held}
use Rattle.byte_io.specs.Laws.Puts.{more_nil, more_all_three}
use Rattle.dbf_image.proofs.dbt.write.put_block.Goals as goal

pub returns-then-length-eq0 : goal.returns-then-length-eq0
returns-then-length-eq0 g c =
    let text = text_of c.args.texts.now.texts c.args.number in
    let none = sym c.memo_length-length.ensures.value ∙ c.if-length-eq0.true in
    record { put = (refl, rw (block_none text none) (sym (more_nil c.args.out.now.wanted))) }

pub put_text-requires : goal.put_text-requires
put_text-requires g c =
    let some = some_number c.args.texts.now.texts c.args.number (rw c.memo_length-length.ensures.value at c.if-length-eq0.false) in
    record { held = c.requires.memo.held some }

pub returns : goal.returns
returns g c =
    let texts = c.args.texts.now.texts in
    let some = some_number texts c.args.number (rw c.memo_length-length.ensures.value at c.if-length-eq0.false) in
    let text = rw (text_held texts c.args.number some) at c.put_text.ensures.put.1 in
    let whole = block_put (text_of texts c.args.number) c.memo_length-length.result c.fill_of.result c.memo_length-length.ensures.value c.if-length-eq0.false c.fill_of.ensures.value c.fill_of.ensures.bounded in
    record {
      put = (
        c.put-2.ensures.put.0 ∙ (c.put.ensures.put.0 ∙ c.put_text.ensures.put.0),
        rw (c.put-2.ensures.put.1, c.put.ensures.put.1, text, c.split_at.ensures.front) (more_all_three _ _ _ _ _ whole),
      );
    }
