use Rattle.std.proofs.Common.{[], ◌∷◌, drop, length, refl, sym, ◌∙◌, arith}
use Rattle.std.proofs.lemmas.Bool.{eqb-true}
use Rattle.std.proofs.lemmas.List.{length-drop}
use Rattle.dbf_image.specs.Store.{texts_of}
use Rattle.byte_io.specs.Laws.Puts.{more_parts}
use Rattle.dbf_image.proofs.Steps.{plain_bytes, plain_blocks}
use Rattle.dbf_image.proofs.dbf.rows.put_record.Goals as goal

pub returns-then-is_empty-clause-put : goal.returns-then-is_empty-clause-put
returns-then-is_empty-clause-put g c =
    let parts = c.args.parts in
    let none = eqb-true (length parts.memos.now) 0 (sym c.if-is_empty.ensures) in
    let bytes = drop 1 parts.records.now in
    let same = plain_bytes c.args.fields.now bytes (texts_of parts.texts.now.texts parts.memos.now) c.args.first (omega (arith, none, c.requires.many)) (omega (arith, length-drop 1 parts.records.now, c.requires.whole)) in
    (c.put-then-is_empty.ensures.put.0 ∙ c.put.ensures.put.0, more_parts c.args.out.now.wanted c.put.new.self.wanted c.put-then-is_empty.new.self.wanted (c.flag_of.result ∷ []) c.split_at.result.1.now _ c.put-then-is_empty.ensures.put.1 c.put.ensures.put.1 (rw (c.flag_of.ensures.value, c.split_at.ensures.back, same) refl))

pub returns-then-is_empty-clause-next : goal.returns-then-is_empty-clause-next
returns-then-is_empty-clause-next g c =
    let parts = c.args.parts in
    let none = eqb-true (length parts.memos.now) 0 (sym c.if-is_empty.ensures) in
    omega (arith, plain_blocks c.args.fields.now (drop 1 parts.records.now) (texts_of parts.texts.now.texts parts.memos.now) (omega (arith, none, c.requires.many)))
