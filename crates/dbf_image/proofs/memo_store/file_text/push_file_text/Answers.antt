use Rattle.std.proofs.Common.{◌≢◌, true, arith}
use Rattle.dbf_image.specs.declared.memo_store.file_text.FileText.{FileText}
use Rattle.dbf_image.proofs.FileTextLaws.{push_keeps, push_memo, push_text}
use Rattle.dbf_image.proofs.memo_store.file_text.push_file_text.Goals as goal

pub returns-clause-others : goal.returns-clause-others
returns-clause-others c = λ file.
    let t : FileText = record { start = c.args.span.start; length = c.args.span.length; kept = true } in
    let some : t.length ≢ 0 = λ none. absurd (omega (arith, none)) in
    rw c.in_ok-push.ensures.items (push_keeps file c.args.texts.now.items t some)

pub returns-clause-memo : goal.returns-clause-memo
returns-clause-memo c = λ file may.
    let t : FileText = record { start = c.args.span.start; length = c.args.span.length; kept = true } in
    let some : t.length ≢ 0 = λ none. absurd (omega (arith, none)) in
    rw (c.in_ok-push.ensures.items, c.len-2.ensures, c.args.texts.now.ok.0) (push_memo file c.args.texts.now.items t some may)

pub returns-clause-value : goal.returns-clause-value
returns-clause-value c = λ file.
    let t : FileText = record { start = c.args.span.start; length = c.args.span.length; kept = true } in
    let some : t.length ≢ 0 = λ none. absurd (omega (arith, none)) in
    rw (c.in_ok-push.ensures.items, c.len-2.ensures, c.args.texts.now.ok.0) (push_text file c.args.texts.now.items t some)
