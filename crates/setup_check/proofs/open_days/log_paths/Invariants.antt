use Rattle.std.proofs.Common.{◌≡◌, drop}
use Rattle.setup_check.specs.OpenDays.{log_paths, with_logs}
use Rattle.setup_check.proofs.open_days.log_paths.Given as goal

-- the paths so far, and those of the entries that are left
abbrev pub invariant-loop-entry : goal.invariant-loop-entry
invariant-loop-entry l = record {
  paths : with_logs l.paths.items (drop l.entry-index l.entries) ≡ log_paths l.entries;
  known : l.known ≡ l.paths.items;
}
