use Rattle.program_frame.proofs.InputDays.{input_day, works_refusal}
use Rattle.office_run.specs.WholeRun.{IsServeFault}
use Rattle.server_program.proofs.Serving.{read_is_served}
use Rattle.server_program.proofs.job.ServeJobJob.refuse_open_day.Goals as goal

pub returns-clause-open : goal.returns-clause-open
returns-clause-open g c told =
    input_day (g.B.Beside.answers c.args.system.now) (g.S.Source.files c.args.source.now) c.args.self.now.options.setup.now c.refuse_open_inputs.result
    c.refuse_open_inputs.ensures.refused told

pub returns-clause-refused : goal.returns-clause-refused
returns-clause-refused g c =
    works_refusal (g.B.Beside.answers c.args.system.now) (g.S.Source.files c.args.source.now) c.args.self.now.options.setup.now
    (IsServeFault (g.S.Source.files c.args.source.now) c.args.self.now.options.setup.now c.args.self.now.options.reindex c.args.self.now.options.today.year) _
    c.refuse_open_inputs.result (λ fault unread. read_is_served _ _ _ _ fault unread) c.refuse_open_inputs.ensures.refused
