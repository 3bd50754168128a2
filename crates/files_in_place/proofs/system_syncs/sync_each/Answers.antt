use Rattle.std.proofs.Common.{◌≡◌, ◌⊎◌, ◌++◌, length, arith, rules}
use Rattle.files_in_place.specs.Folder.{Name}
use Rattle.files_in_place.specs.System.{HasSynced, HasNoBytes}
use Rattle.files_in_place.proofs.Each.{among_back, all_split}
use Rattle.files_in_place.proofs.system_syncs.sync_each.Goals as goal

pub loop-rest-preserved : goal.loop-rest-preserved
loop-rest-preserved g c =
    let said = g.R.SystemCalls.answers in
    let IsDone : Name → Type 0 = λ name. HasSynced said (c.args.folder.now ++ name) ⊎ HasNoBytes said (c.args.folder.now ++ name) in
    let some = rw c.split_at.ensures.front at c.in_ok-sync_together.ensures.synced in
    record {
      left = rw c.split_at.ensures.back (λ others. c.loop-rest.invariant.left (all_split IsDone c.loop-rest.rest.now _ some others));
      among = rw c.split_at.ensures.back (λ name others. c.loop-rest.invariant.among name (among_back c.loop-rest.rest.now _ name others));
    }

pub returns-clause-synced : goal.returns-clause-synced
returns-clause-synced g c =
    let none : length c.loop-rest.rest.now ≡ 0 = search rules in
    c.loop-rest.invariant.left (λ k d lt. absurd (omega (arith, none)))
