use Rattle.std.proofs.Common.{◌≡◌, false, sym}
use Rattle.station_lines.specs.Setup.{may_follow}
use Rattle.station_lines.specs.SetupReading.{entry_of}
use Rattle.station_lines.proofs.SetupLaws.LineLaws.{bad_after, unplaced}
use Rattle.station_lines.proofs.SetupLaws.TableLaws.{one_more, short_table}
use Rattle.station_lines.proofs.setup.add_line.Goals as goal

pub may_follow_tables-requires : goal.may_follow_tables-requires
may_follow_tables-requires c = record { short = short_table c.args.line.now c.in-Good.said c.in-Good.ensures.judged }

pub returns-then-not-may_follow_tables-clause-bad : goal.returns-then-not-may_follow_tables-clause-bad
returns-then-not-may_follow_tables-clause-bad c e =
    let barred : may_follow c.args.entries.now.items (entry_of c.in-Good.said) ≡ false =
    sym (c.if-not-may_follow_tables.ensures.value c.args.entries.now.items c.requires.tables) in
    unplaced c.args.entries.now.items c.args.line.now (entry_of c.in-Good.said) c.in-Good.ensures.judged barred

pub returns-in-Bad-clause-bad : goal.returns-in-Bad-clause-bad
returns-in-Bad-clause-bad c e = bad_after c.args.entries.now.items c.args.line.now c.in-Bad.ensures.judged

pub returns-in_ok-push-in-Good-clause-tables : goal.returns-in_ok-push-in-Good-clause-tables
returns-in_ok-push-in-Good-clause-tables c e =
    one_more _ _ _ _ c.in_ok-entry-in-Good.entry c.requires.tables c.in_ok-add_table-in-Good.ensures.added c.in_ok-push-in-Good.ensures.items
