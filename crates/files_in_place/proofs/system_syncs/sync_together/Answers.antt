use Rattle.std.proofs.Common.{subst}
use Rattle.std.specs.List.{All}
use Rattle.files_in_place.proofs.Opened.{open_synced}
use Rattle.files_in_place.proofs.system_syncs.sync_together.Goals as goal

pub returns-clause-synced : goal.returns-clause-synced
returns-clause-synced g c =
    let said = g.R.SystemCalls.answers in
    let synced = subst (All said.syncs) c.deref.ensures.value c.in_ok-sync_all.ensures.said in
    λ k d lt. open_synced said _ _ synced (c.in_ok-files.ensures.opened k d lt)
