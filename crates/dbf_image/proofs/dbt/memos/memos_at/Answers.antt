use Rattle.std.proofs.Common.{◌≡◌, ◌+◌, true, false, [], ap, sym, ◌∙◌, inr}
use Rattle.std.specs.Prelude.{unwrap_or}
use Rattle.dbf_fields.specs.Field.{widths}
use Rattle.dbf_image.specs.Table.{has_memos}
use Rattle.dbf_image.specs.DbfText.{chunks}
use Rattle.dbf_image.specs.Store.{texts_of}
use Rattle.dbf_image.proofs.MemoRows.{plain_passes, plain_rows, plain_store, missing, tests_in}
use Rattle.dbf_image.proofs.dbt.memos.memos_at.Goals as goal

pub returns-then-not-has_memos-clause-accepted : goal.returns-then-not-has_memos-clause-accepted
returns-then-not-has_memos-clause-accepted c =
    let schema = c.args.schema.now in
    let none : has_memos schema ≡ false = ap has_memos (sym c.fields.ensures.fields) ∙ sym c.has_memos.ensures.value ∙ c.if-not-has_memos.true in
    plain_passes c.args.dbt schema (chunks (1 + widths schema) c.args.count c.args.bytes.now) none

pub returns-then-not-has_memos-clause-value : goal.returns-then-not-has_memos-clause-value
returns-then-not-has_memos-clause-value c =
    let schema = c.args.schema.now in
    let none : has_memos schema ≡ false = ap has_memos (sym c.fields.ensures.fields) ∙ sym c.has_memos.ensures.value ∙ c.if-not-has_memos.true in
    plain_rows (unwrap_or c.args.dbt []) schema (chunks (1 + widths schema) c.args.count c.args.bytes.now) (texts_of c.new.result.texts c.new-then-not-has_memos.result.items) none

pub returns-then-not-has_memos-clause-kept : goal.returns-then-not-has_memos-clause-kept
returns-then-not-has_memos-clause-kept c =
    let schema = c.args.schema.now in
    let none : has_memos schema ≡ false = ap has_memos (sym c.fields.ensures.fields) ∙ sym c.has_memos.ensures.value ∙ c.if-not-has_memos.true in
    plain_store schema c.args.count c.args.bytes.now c.new.result.texts c.new-then-not-has_memos.result.items c.requires.records none c.new-then-not-has_memos.ensures.items

pub returns-in_default-clause-refused : goal.returns-in_default-clause-refused
returns-in_default-clause-refused c =
    let schema = c.args.schema.now in
    let some : has_memos schema ≡ true = ap has_memos (sym c.fields.ensures.fields) ∙ sym c.has_memos.ensures.value ∙ c.if-not-has_memos.false in
    inr (rw (c.in_default.is, c.into.ensures) (missing schema (chunks (1 + widths schema) c.args.count c.args.bytes.now) some))

pub returns-clause-accepted : goal.returns-clause-accepted
returns-clause-accepted c =
    let schema = c.args.schema.now in
    rw (c.in-Some.is, tests_in c.in-Some.dbt schema (chunks (1 + widths schema) c.args.count c.args.bytes.now)) c.memos_in.ensures.accepted

pub returns-clause-refused : goal.returns-clause-refused
returns-clause-refused c =
    let schema = c.args.schema.now in
    rw (c.in-Some.is, tests_in c.in-Some.dbt schema (chunks (1 + widths schema) c.args.count c.args.bytes.now)) c.memos_in.ensures.refused
