use Rattle.std.proofs.Common.{Some, ap, sym, ◌∙◌}
use Rattle.audit_program.proofs.ComparingLaws.{all_compared, fewer_found, more_found, one_compared, other_found}
use Rattle.journal_file.specs.WholeText.{read_word, sum_as}
use Rattle.audit_program.proofs.comparing.find_other.Goals as goal

pub returns-in_default-clause-found : goal.returns-in_default-clause-found
returns-in_default-clause-found c told lines =
    more_found read_word told c.args.files.now c.loop-file.file-index c.loop-file.rest.now c.file-item.result (c.loop-file.invariant told lines) c.loop-file-test.true c.file-item.is c.in_default.ensures.none
    ∙ ap Some (sym c.as_slice.ensures.value)

pub returns-then-not-has_content-clause-found : goal.returns-then-not-has_content-clause-found
returns-then-not-has_content-clause-found c told lines =
    other_found read_word told c.args.files.now c.loop-file.file-index c.loop-file.rest.now c.in-Some.told.rest.now (sum_as c.in-Some.told.path.now c.in-Some.told.length c.in-Some.told.digest.now) c.file-item.result
    (c.loop-file.invariant told lines) c.loop-file-test.true c.file-item.is c.in-Some.ensures.found (sym c.has_content.ensures.value ∙ c.if-not-has_content.true)
    ∙ ap Some (sym c.as_slice-then-not-has_content.ensures.value)

pub loop-file-preserved : goal.loop-file-preserved
loop-file-preserved c told lines =
    one_compared read_word told c.args.files.now c.loop-file.file-index c.loop-file.rest.now c.in-Some.told.rest.now (sum_as c.in-Some.told.path.now c.in-Some.told.length c.in-Some.told.digest.now) c.file-item.result
    (c.loop-file.invariant told lines) c.loop-file-test.true c.file-item.is c.in-Some.ensures.found (sym c.has_content.ensures.value ∙ c.if-not-has_content.false)

pub returns-in-Some-cut_read_sum-clause-found : goal.returns-in-Some-cut_read_sum-clause-found
returns-in-Some-cut_read_sum-clause-found c told lines =
    let cut = c.in-Some-cut_read_sum.told in
    fewer_found read_word told c.args.files.now c.loop-file.file-index c.loop-file.rest.now cut.rest.now (sum_as cut.path.now cut.length cut.digest.now) (c.loop-file.invariant told lines) c.loop-file-test.false
    c.in-Some-cut_read_sum.ensures.found

pub returns-in-None-clause-none : goal.returns-in-None-clause-none
returns-in-None-clause-none c told lines =
    all_compared read_word told c.args.files.now c.loop-file.file-index c.loop-file.rest.now (c.loop-file.invariant told lines) c.loop-file-test.false c.in-None.ensures.none
