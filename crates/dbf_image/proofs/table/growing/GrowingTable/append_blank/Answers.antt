use Rattle.std.proofs.Common.{◌≡◌, ◌+◌, ℕ, [], take, replicate, ap, ◌∙◌}
use Rattle.std.proofs.lemmas.List.{take-replicate}
use Rattle.dbf_fields.specs.Field.{widths}
use Rattle.dbf_fields.specs.declared.format.TheConstants.{BLANK, MAX_RECORD_BYTES}
use Rattle.dbf_image.specs.Table.{blank_row}
use Rattle.dbf_image.specs.Growing.{Growing}
use Rattle.dbf_image.specs.Store.{row_with}
use Rattle.dbf_image.proofs.Edits.{row_blank}
use Rattle.dbf_image.proofs.table.growing.GrowingTable.append_blank.Goals as goal

pub returns : goal.returns
returns c =
    let schema = c.args.self.now.table.schema in
    let n = c.record_length-size.result in
    let size : n ≡ 1 + widths schema = c.record_length-size.ensures.value ∙ ap (λ (g : Growing). 1 + widths g.table.schema) c.self.view_is in
    let most : ℕ = 1 + MAX_RECORD_BYTES in
    let blank : row_with schema (take n (replicate most BLANK)) [] ≡ blank_row schema = rw (take-replicate {X = ℕ} n most BLANK c.record_length-size.ensures.short, size) (row_blank schema) in
    record { value = rw blank at c.append_record.ensures.value }
