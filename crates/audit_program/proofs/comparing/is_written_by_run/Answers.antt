use Rattle.std.proofs.Common.{sym, ◌∙◌}
use Rattle.audit_program.proofs.ComparingLaws.{is_among, is_not_among, one_passed}
use Rattle.journal_file.specs.WholeText.{sum_as, wrote_word}
use Rattle.audit_program.proofs.comparing.is_written_by_run.Goals as goal

pub returns-then-is_file : goal.returns-then-is_file
returns-then-is_file c =
    let told = c.in-Some.told in
    record {
      value = λ wrote lines.
          sym (is_among wrote_word wrote c.args.file.now (sum_as told.path.now told.length told.digest.now) c.loop-told.rest.now told.rest.now (c.loop-told.invariant wrote lines) c.in-Some.ensures.found
          (sym c.is_file.ensures.value ∙ c.if-is_file.true));
    }

pub loop-told-preserved : goal.loop-told-preserved
loop-told-preserved c wrote lines =
    let told = c.in-Some.told in
    one_passed wrote_word wrote c.args.file.now (sum_as told.path.now told.length told.digest.now) c.loop-told.rest.now told.rest.now (c.loop-told.invariant wrote lines) c.in-Some.ensures.found
    (sym c.is_file.ensures.value ∙ c.if-is_file.false)

pub returns : goal.returns
returns c = record { value = λ wrote lines. sym (is_not_among wrote_word wrote c.args.file.now c.loop-told.rest.now (c.loop-told.invariant wrote lines) c.in_default.ensures.none) }
