use Rattle.std.proofs.Common.{◌≡◌, List, ℕ, sym, ap, ◌∙◌}
use Rattle.dbf_image.specs.Store.{texts_of, rows_of}
use Rattle.dbf_image.proofs.Groups.{early_by_header, early_by_fields, early_passed, refused_by_header, refused_by_fields, refused_by_records, refused_by_memos, decided_by_memos, err_exit}
use Rattle.dbf_image.proofs.PartLaws.{passes_without}
use Rattle.dbf_image.proofs.DbfLaws.{rows_read, tests_read}
use Rattle.dbf_image.proofs.dbf.read.table_at.Goals as goal

pub returns-in_err-header-clause-refused : goal.returns-in_err-header-clause-refused
returns-in_err-header-clause-refused c = rw (← c.as_slice-file.ensures.value) (err_exit _ _ c.from_residual.ensures.1 (refused_by_header c.as_slice-file.result.now c.args.dbt _ c.in_err-header.ensures.refused))

pub returns-in_err-schema-clause-refused : goal.returns-in_err-schema-clause-refused
returns-in_err-schema-clause-refused c = rw (← c.as_slice-file.ensures.value) (err_exit _ _ c.from_residual-in_err-schema.ensures.1 (refused_by_fields c.as_slice-file.result.now c.args.dbt _ c.in_ok-header.ensures.accepted c.in_err-schema.ensures.refused))

pub returns-in_err-check_records-clause-refused : goal.returns-in_err-check_records-clause-refused
returns-in_err-check_records-clause-refused c = rw (← c.as_slice-file.ensures.value) (err_exit _ _ c.from_residual-in_err-check_records.ensures.1 (refused_by_records c.as_slice-file.result.now c.args.dbt _ c.in_ok-header.ensures.accepted c.in_ok-schema.ensures.accepted c.in_err-check_records.ensures.refused))

pub returns-in_err-texts-clause-refused : goal.returns-in_err-texts-clause-refused
returns-in_err-texts-clause-refused c =
    let tests = tests_read c.as_slice-file.result.now c.args.dbt c.in_ok-schema.schema c.in_ok-header.header _ c.in_ok-header.ensures.value c.in_ok-schema.ensures.value (c.in_ok-check_records.ensures.wide ∙ c.record_length-size.ensures.value) c.records_at-bytes.ensures.value in
    rw (← c.as_slice-file.ensures.value) (err_exit _ _ c.from_residual-in_err-texts.ensures.1 (refused_by_memos c.as_slice-file.result.now c.args.dbt _ c.in_ok-header.ensures.accepted c.in_ok-schema.ensures.accepted c.in_ok-check_records.ensures.accepted (rw tests at c.in_err-texts.ensures.refused)))

pub returns-in_err-header-clause-early : goal.returns-in_err-header-clause-early
returns-in_err-header-clause-early c = rw (← c.as_slice-file.ensures.value) (err_exit _ _ c.from_residual.ensures.1 (λ first. early_by_header c.as_slice-file.result.now _ first c.in_err-header.ensures.refused))

pub returns-in_err-schema-clause-early : goal.returns-in_err-schema-clause-early
returns-in_err-schema-clause-early c = rw (← c.as_slice-file.ensures.value) (err_exit _ _ c.from_residual-in_err-schema.ensures.1 (λ first. early_by_fields c.as_slice-file.result.now _ first c.in_ok-header.ensures.accepted c.in_err-schema.ensures.early))

pub returns-in_err-check_records-clause-early : goal.returns-in_err-check_records-clause-early
returns-in_err-check_records-clause-early c = rw (← c.as_slice-file.ensures.value) (err_exit _ _ c.from_residual-in_err-check_records.ensures.1 (λ first. early_passed c.as_slice-file.result.now _ first c.in_ok-header.ensures.accepted c.in_ok-schema.ensures.accepted))

pub returns-in_err-texts-clause-early : goal.returns-in_err-texts-clause-early
returns-in_err-texts-clause-early c = rw (← c.as_slice-file.ensures.value) (err_exit _ _ c.from_residual-in_err-texts.ensures.1 (λ first. early_passed c.as_slice-file.result.now _ first c.in_ok-header.ensures.accepted c.in_ok-schema.ensures.accepted))

pub returns-clause-accepted : goal.returns-clause-accepted
returns-clause-accepted c =
    let tests = tests_read c.as_slice-file.result.now c.args.dbt c.in_ok-schema.schema c.in_ok-header.header _ c.in_ok-header.ensures.value c.in_ok-schema.ensures.value (c.in_ok-check_records.ensures.wide ∙ c.record_length-size.ensures.value) c.records_at-bytes.ensures.value in
    rw (← c.as_slice-file.ensures.value) (passes_without c.as_slice-file.result.now c.args.dbt (decided_by_memos c.as_slice-file.result.now c.args.dbt c.in_ok-header.ensures.accepted c.in_ok-schema.ensures.accepted c.in_ok-check_records.ensures.accepted ∙ rw tests at c.in_ok-texts.ensures.accepted))

pub returns-clause-value : goal.returns-clause-value
returns-clause-value c =
    let schema = c.in_ok-schema.schema in
    let header = c.in_ok-header.header in
    let same : c.records_of-records.result.items ≡ c.records_at-bytes.result.now = c.records_of-records.ensures.items ∙ sym (rw c.as_slice-file.ensures.value at c.records_at-bytes.ensures.value) in
    let rows = ap (λ (bs : List ℕ). rows_of schema header.record_count bs (texts_of c.in_ok-texts.texts.texts c.in_ok-texts.memos.items)) same ∙ c.in_ok-texts.ensures.value in
    rw (← c.as_slice-file.ensures.value) (c.new.ensures.value
    ∙ rows_read c.as_slice-file.result.now c.args.dbt schema header c.records_at-bytes.result.now _ c.in_ok-header.ensures.value c.in_ok-schema.ensures.value (c.in_ok-check_records.ensures.wide ∙ c.record_length-size.ensures.value) c.records_at-bytes.ensures.value rows)
