use Rattle.std.proofs.Common.{ap, arith, Ok}
use Rattle.audit.proofs.AuditLaws.{no_entry, no_station, no_command, only_first, outside, on_err, readable}
use Rattle.audit.proofs.read.read_entry.Goals as goal

pub returns-in_default-clause-none : goal.returns-in_default-clause-none
returns-in_default-clause-none c _ = no_entry c.args.stations c.args.text.now (omega arith) (omega arith) c.in_default.ensures.none

pub returns-then-not-is_station-clause-none : goal.returns-then-not-is_station-clause-none
returns-then-not-is_station-clause-none c _ =
    no_station c.args.stations c.args.text.now _ _ _ _ (omega arith) (omega arith) c.in-Some.ensures.found
    (outside c.is_station.result _ _ c.is_station.ensures.value c.if-not-is_station.true)

pub returns-in-None-clause-none : goal.returns-in-None-clause-none
returns-in-None-clause-none c _ =
    no_command c.args.stations c.args.text.now _ _ _ _ (omega arith) (omega arith) c.in-Some.ensures.found (c.in_ok-command_of.ensures.none (ap Ok c.in-None.is))

pub returns-in-Some-2-clause-only : goal.returns-in-Some-2-clause-only
returns-in-Some-2-clause-only c =
    only_first c.args.stations c.args.text.now _ _ _ _ _ (omega arith) (omega arith) c.in-Some.ensures.found (rw c.in-Some-2.is at c.in_ok-command_of.ensures.found)

pub returns-in_err-command_of-clause-early : goal.returns-in_err-command_of-clause-early
returns-in_err-command_of-clause-early c =
    let station = c.is_station.ensures.value.0 c.if-not-is_station.false in
    on_err _ (readable c.args.stations c.args.text.now _ _ _ _ c.in-Some.ensures.found station.0 station.1 c.in_err-command_of.ensures.early)
