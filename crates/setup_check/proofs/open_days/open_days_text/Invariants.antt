use Rattle.std.proofs.Common.{◌≡◌, take}
use Rattle.setup_check.proofs.DayLaws.{HasToldDays}
use Rattle.setup_check.proofs.open_days.open_days_text.Given as goal

abbrev pub invariant-loop-path : goal.invariant-loop-path
invariant-loop-path g l =
    let files = g.S.Source.files in
    let failures = g.S.Source.failures in
    record {
      told : HasToldDays (files l.fn.source) (failures l.fn.source) (failures l.source) (take l.path-index l.path-items) l.text.items;
      kept : files l.source ≡ files l.fn.source;
    }
