use Rattle.std.proofs.Common.{refl, true}
use Rattle.program_frame.proofs.InPlaceLaws.{unplaced_load}
use Rattle.program_frame.proofs.InputDays.{place_day, place_refusal}
use Rattle.table_maker.specs.LoadedTable.{IsLoadDay}
use Rattle.table_maker.proofs.load_job.LoadJobJob.refuse_open_day.Goals as goal

pub returns-in-Err-clause-open : goal.returns-in-Err-clause-open
returns-in-Err-clause-open g c told =
    place_day (g.B.Beside.answers c.args.system.now) (IsLoadDay (g.B.Beside.answers c.args.system.now) c.args.self.now true) _ c.in-Err.fault c.from.result
    c.from.ensures c.in-Err.ensures.refused told

pub returns-in-Err-clause-refused : goal.returns-in-Err-clause-refused
returns-in-Err-clause-refused g c =
    place_refusal (g.B.Beside.answers c.args.system.now) (IsLoadDay (g.B.Beside.answers c.args.system.now) c.args.self.now true) _ _ c.in-Err.fault
    c.from.result c.from.ensures c.in-Err.ensures.refused

pub returns-in-Err-clause-failure : goal.returns-in-Err-clause-failure
returns-in-Err-clause-failure g c = unplaced_load _ _ _ c.in-Err.fault c.from.result c.from.ensures refl
