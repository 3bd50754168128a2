use Rattle.audit_program.proofs.AskingLaws.{audit_day, audit_load, audit_refusal}
use Rattle.audit_program.proofs.asking.refuse_open_setup.Goals as goal

pub returns-in-Err-clause-open : goal.returns-in-Err-clause-open
returns-in-Err-clause-open g c told =
    audit_day (g.B.Beside.answers c.args.system.now) (g.S.Source.files c.args.source.now) c.args.options.now c.in-Err.why c.refused.result
    c.refused.ensures.value c.in-Err.ensures.refused told

pub returns-in-Err-clause-refused : goal.returns-in-Err-clause-refused
returns-in-Err-clause-refused g c =
    audit_refusal (g.B.Beside.answers c.args.system.now) (g.S.Source.files c.args.source.now) c.args.options.now c.in-Err.why c.refused.result
    c.refused.ensures.value c.in-Err.ensures.refused

pub returns-in-Err-clause-failure : goal.returns-in-Err-clause-failure
returns-in-Err-clause-failure g c =
    audit_load (g.S.Source.files c.args.source.now) c.args.options.now (g.S.Source.failures c.args.source.now)
    (g.S.Source.failures c.refuse_open_inputs.new.source) c.in-Err.why c.refused.result c.refused.ensures.value c.in-Err.ensures.failure
