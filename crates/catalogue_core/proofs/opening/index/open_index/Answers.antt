use Rattle.std.proofs.Common.{◌≡◌, ℕ, ◌+◌, List, length, map, false, Ok, Err, sym, ap, subst, ◌∙◌}
use Rattle.std.proofs.lemmas.List.{length-map}
use Rattle.std.proofs.lemmas.Result.{IfErr-weaker}
use Rattle.dbf_fields.specs.declared.field.Field.{Field}
use Rattle.catalogue_core.specs.declared.opening.OpenFault.TheVariants.{BadExpression}
use Rattle.catalogue_core.specs.Opening.{is_index, next_table, next_index, Reading, IndexOpening}
use Rattle.catalogue_core.specs.Tables.{named_table}
use Rattle.catalogue_core.proofs.IndexLaws.{index_read}
use Rattle.catalogue_core.proofs.opening.index.open_index.Goals as goal

pub returns-clause-refused : goal.returns-clause-refused
returns-clause-refused c =
    let earlier = map named_table c.args.earlier.now in
    let content = c.args.table.now.content in
    let s = c.args.source in
    let t : ℕ = length c.args.earlier.now + 1 in
    let i : ℕ = c.index_count.result + 1 in
    let table : t ≡ next_table earlier = ap (λ (n : ℕ). n + 1) (sym (length-map c.args.earlier.now named_table)) in
    let index : i ≡ next_index content = ap (λ (n : ℕ). n + 1) c.index_count.ensures.count in
    let new : is_index earlier content s.name ≡ false = sym c.is_taken.ensures.value ∙ c.if-is_taken.false in
    let read : Reading content.table.schema s.file.expr (BadExpression t i) (Ok c.in-Ok.expr) =
    subst (λ (fs : List Field). Reading fs s.file.expr (BadExpression t i) (Ok c.in-Ok.expr)) c.schema.ensures.value
    (subst (λ (text : List ℕ). Reading c.schema.result.now text (BadExpression t i) (Ok c.in-Ok.expr)) c.as_slice.ensures.value c.in-Ok.ensures.read) in
    IfErr-weaker c.keep_index.result _ (λ fault. IndexOpening c.args.reindex earlier content s (Err fault))
    (λ fault made. index_read c.args.reindex earlier content s t i table index new c.in-Ok.expr read (Err fault) made) c.keep_index.ensures.refused
