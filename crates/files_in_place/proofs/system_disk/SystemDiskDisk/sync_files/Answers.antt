use Rattle.std.proofs.Common.{◌≡◌, ◌++◌, ◌⊎◌, ℕ, List, OnOk, subst, rules}
use Rattle.std.specs.List.{All}
use Rattle.files_in_place.specs.System.{HasSynced, HasNoBytes}
use Rattle.files_in_place.proofs.system_disk.SystemDiskDisk.sync_files.Goals as goal

pub returns-clause-synced : goal.returns-clause-synced
returns-clause-synced g c =
    let said = g.R.SystemCalls.answers in
    let folder : c.as_str.result.now ≡ c.args.self.now.path = search rules in
    let P : List ℕ → Type 0 = λ path. OnOk c.sync_each-outcome.result (All (λ name. HasSynced said (path ++ name) ⊎ HasNoBytes said (path ++ name)) c.args.names.now) in
    rw c.told_of_sync.ensures.same (subst P folder c.sync_each-outcome.ensures.synced)
