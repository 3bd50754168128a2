use Rattle.std.proofs.Common.{◌⊎◌, ◌++◌, length}
use Rattle.std.specs.List.{All, Contains}
use Rattle.files_in_place.specs.Folder.{Name}
use Rattle.files_in_place.specs.System.{HasSynced, HasNoBytes}
use Rattle.files_in_place.proofs.system_syncs.sync_each.Given as goal

-- the files that are left decide
abbrev pub invariant-loop-rest : goal.invariant-loop-rest
invariant-loop-rest g l =
    let said = g.R.SystemCalls.answers in
    let IsDone : Name → Type 0 = λ name. HasSynced said (l.fn.folder ++ name) ⊎ HasNoBytes said (l.fn.folder ++ name) in
    record {
      left : All IsDone l.rest → All IsDone l.fn.names;
      among : (name : Name) → Contains l.rest name → Contains l.fn.names name;
    }

abbrev pub decreases-loop-rest : goal.decreases-loop-rest
decreases-loop-rest g l = length l.rest
