use Rattle.std.proofs.Common.{ℕ, ◌≡◌, ◌+◌, ◌++◌, List, length, drop, option_map, subst, ◌∙◌, ap}
use Rattle.files_in_place.specs.Folder.{Folder, SameBut}
use Rattle.files_in_place.proofs.Runs.{started, runs_on}
use Rattle.disk_in_place.specs.InPlace.{MayTear, written_over}
use Rattle.live_log.specs.Logs.{IsLogPut}
use Rattle.live_log.proofs.Putting.{first_is, group_fits, after_fits, nothing_yet, after_moment, gate_fits, gate_moment, is_put, next_offset, still_clean}
use Rattle.live_log.proofs.group.put_group.Goals as goal

pub split_at-requires : goal.split_at-requires
split_at-requires g c = group_fits c.requires.group.0 c.args.bytes.now c.requires.group.1

pub write_synced-requires-clause-there : goal.write_synced-requires-clause-there
write_synced-requires-clause-there g c keeps =
    after_fits g.D.Disk.meaning c.args.name.now c.args.offset c.args.disk.now (c.requires.between keeps)

pub write_synced-requires-2-clause-there : goal.write_synced-requires-2-clause-there
write_synced-requires-2-clause-there g c keeps =
    let m = g.D.Disk.meaning in
    let old = c.args.disk.now in
    let name = c.args.name.now in
    let b = c.requires.between keeps in
    let bytes = c.args.bytes.now in
    let next = c.write_synced.new.disk in
    let written : m.seen next name ≡ option_map (λ content. written_over (c.args.offset + 1) (drop 1 bytes) content) (m.seen old name) =
    c.in_ok-write_synced.ensures.done keeps ∙ ap (λ (t : List ℕ). option_map (λ content. written_over (c.args.offset + 1) t content) (m.seen old name)) c.split_at.ensures.back in
    gate_fits m name c.args.offset old b b.head b.entries c.requires.group.0 bytes b.log c.requires.group.1 next written c.write_synced.ensures.others

pub returns-in_err-write_synced-clause-any_moment : goal.returns-in_err-write_synced-clause-any_moment
returns-in_err-write_synced-clause-any_moment g c keeps head es group log is =
    let m = g.D.Disk.meaning in
    let old = c.args.disk.now in
    let name = c.args.name.now in
    let b = c.requires.between keeps in
    let P = IsLogPut name head (m.seen old) es group in
    let begun = started m old P (λ (f : Folder) left. nothing_yet m name c.args.offset old b head es group c.args.bytes.now log is f left) in
    runs_on m old old c.write_synced.new.disk P _ begun (c.write_synced.ensures.any_moment keeps)
    (λ (f : Folder) t. after_moment m name c.args.offset old b head es group c.args.bytes.now log is _ f t)

pub returns-in_err-write_synced-2-clause-any_moment : goal.returns-in_err-write_synced-2-clause-any_moment
returns-in_err-write_synced-2-clause-any_moment g c keeps head es group log is =
    let m = g.D.Disk.meaning in
    let old = c.args.disk.now in
    let name = c.args.name.now in
    let b = c.requires.between keeps in
    let bytes = c.args.bytes.now in
    let next = c.write_synced.new.disk in
    let P = IsLogPut name head (m.seen old) es group in
    let begun = started m old P (λ (f : Folder) left. nothing_yet m name c.args.offset old b head es group bytes log is f left) in
    let after = runs_on m old old next P _ begun (c.write_synced.ensures.any_moment keeps)
    (λ (f : Folder) t. after_moment m name c.args.offset old b head es group bytes log is _ f t) in
    let written : m.seen next name ≡ option_map (λ content. written_over (c.args.offset + 1) (drop 1 bytes) content) (m.seen old name) =
    c.in_ok-write_synced.ensures.done keeps ∙ ap (λ (t : List ℕ). option_map (λ content. written_over (c.args.offset + 1) t content) (m.seen old name)) c.split_at.ensures.back in
    let one : length c.split_at.result.0.now ≡ 1 = ap length c.split_at.ensures.front ∙ ap length (first_is group bytes is) in
    runs_on m old next c.write_synced-2.new.disk P _ after (c.write_synced-2.ensures.any_moment keeps)
    (λ (f : Folder) t. gate_moment m name c.args.offset old b head es group bytes log is next written c.write_synced.ensures.others f (subst (λ (k : ℕ). MayTear name c.args.offset k (m.seen next) f) one t))

pub returns-clause-any_moment : goal.returns-clause-any_moment
returns-clause-any_moment g c keeps head es group log is =
    let m = g.D.Disk.meaning in
    let old = c.args.disk.now in
    let name = c.args.name.now in
    let b = c.requires.between keeps in
    let bytes = c.args.bytes.now in
    let next = c.write_synced.new.disk in
    let P = IsLogPut name head (m.seen old) es group in
    let begun = started m old P (λ (f : Folder) left. nothing_yet m name c.args.offset old b head es group bytes log is f left) in
    let after = runs_on m old old next P _ begun (c.write_synced.ensures.any_moment keeps)
    (λ (f : Folder) t. after_moment m name c.args.offset old b head es group bytes log is _ f t) in
    let written : m.seen next name ≡ option_map (λ content. written_over (c.args.offset + 1) (drop 1 bytes) content) (m.seen old name) =
    c.in_ok-write_synced.ensures.done keeps ∙ ap (λ (t : List ℕ). option_map (λ content. written_over (c.args.offset + 1) t content) (m.seen old name)) c.split_at.ensures.back in
    let one : length c.split_at.result.0.now ≡ 1 = ap length c.split_at.ensures.front ∙ ap length (first_is group bytes is) in
    runs_on m old next c.write_synced-2.new.disk P _ after (c.write_synced-2.ensures.any_moment keeps)
    (λ (f : Folder) t. gate_moment m name c.args.offset old b head es group bytes log is next written c.write_synced.ensures.others f (subst (λ (k : ℕ). MayTear name c.args.offset k (m.seen next) f) one t))

pub returns-clause-put : goal.returns-clause-put
returns-clause-put g c keeps head es group log is =
    let m = g.D.Disk.meaning in
    let old = c.args.disk.now in
    let name = c.args.name.now in
    let b = c.requires.between keeps in
    let bytes = c.args.bytes.now in
    let next = c.write_synced.new.disk in
    let written : m.seen next name ≡ option_map (λ content. written_over (c.args.offset + 1) (drop 1 bytes) content) (m.seen old name) =
    c.in_ok-write_synced.ensures.done keeps ∙ ap (λ (t : List ℕ). option_map (λ content. written_over (c.args.offset + 1) t content) (m.seen old name)) c.split_at.ensures.back in
    is_put m name c.args.offset old b head es group bytes log is next written c.write_synced.ensures.others c.write_synced-2.new.disk
    (c.in_ok-write_synced-2.ensures.done keeps ∙ ap (λ (t : List ℕ). option_map (λ content. written_over c.args.offset t content) (m.seen next name)) c.split_at.ensures.front)

pub returns-clause-between : goal.returns-clause-between
returns-clause-between g c keeps =
    let m = g.D.Disk.meaning in
    let old = c.args.disk.now in
    let name = c.args.name.now in
    let b = c.requires.between keeps in
    let bytes = c.args.bytes.now in
    let group = c.requires.group.0 in
    let is = c.requires.group.1 in
    let next = c.write_synced.new.disk in
    let last = c.write_synced-2.new.disk in
    let written : m.seen next name ≡ option_map (λ content. written_over (c.args.offset + 1) (drop 1 bytes) content) (m.seen old name) =
    c.in_ok-write_synced.ensures.done keeps ∙ ap (λ (t : List ℕ). option_map (λ content. written_over (c.args.offset + 1) t content) (m.seen old name)) c.split_at.ensures.back in
    let others : SameBut name (m.seen old) (m.seen last) = λ x other. c.write_synced-2.ensures.others x other ∙ c.write_synced.ensures.others x other in
    record {
      head = b.head;
      entries = b.entries ++ group;
      log = is_put m name c.args.offset old b b.head b.entries group bytes b.log is next written c.write_synced.ensures.others last
          (c.in_ok-write_synced-2.ensures.done keeps ∙ ap (λ (t : List ℕ). option_map (λ content. written_over c.args.offset t content) (m.seen next name)) c.split_at.ensures.front);
      offset_is = ap (λ (t : List ℕ). c.args.offset + length t) c.split_at.ensures.back ∙ next_offset m name c.args.offset old b b.head b.entries group bytes b.log is next written c.write_synced.ensures.others;
      synced = c.in_ok-write_synced-2.ensures.synced keeps;
      clean = still_clean m name c.args.offset old b last others;
    }
