use Rattle.std.proofs.Common.{length}
use Rattle.files_in_place.specs.Folder.{Folder}
use Rattle.files_in_place.proofs.Runs.{started, goes_on}
use Rattle.disk_in_place.specs.InPlace.{MayTear}
use Rattle.disk_in_place.proofs.Tearing.{not_torn, torn_seen, still_named, synced_again}
use Rattle.disk_in_place.proofs.writing.write_synced.Goals as goal

pub sync_in_place-requires : goal.sync_in_place-requires
sync_in_place-requires g c = record {
  named = λ keeps.
      still_named g.D.Disk.meaning c.args.name.now c.args.offset (length c.args.bytes.now) c.args.disk.now c.write_at.new.self (c.requires.synced keeps) c.write_at.ensures.writes (c.requires.there keeps);
}

pub returns-in_err-write_at-clause-any_moment : goal.returns-in_err-write_at-clause-any_moment
returns-in_err-write_at-clause-any_moment g c keeps =
    let m = g.D.Disk.meaning in
    let old = c.args.disk.now in
    let mid = c.write_at.new.self in
    let synced = c.requires.synced keeps in
    let n = length c.args.bytes.now in
    let P = MayTear c.args.name.now c.args.offset n (m.seen old) in
    let begun = started m old P (λ (f : Folder) left. not_torn c.args.name.now c.args.offset n (m.seen old) f (synced.only f left)) in
    goes_on m old old mid P begun c.write_at.ensures.writes.time (torn_seen m c.args.name.now c.args.offset n old mid synced c.write_at.ensures.writes)

pub returns-in_err-sync_in_place-clause-any_moment : goal.returns-in_err-sync_in_place-clause-any_moment
returns-in_err-sync_in_place-clause-any_moment g c keeps =
    let m = g.D.Disk.meaning in
    let old = c.args.disk.now in
    let mid = c.write_at.new.self in
    let synced = c.requires.synced keeps in
    let n = length c.args.bytes.now in
    let P = MayTear c.args.name.now c.args.offset n (m.seen old) in
    let torn = torn_seen m c.args.name.now c.args.offset n old mid synced c.write_at.ensures.writes in
    let begun = started m old P (λ (f : Folder) left. not_torn c.args.name.now c.args.offset n (m.seen old) f (synced.only f left)) in
    let written = goes_on m old old mid P begun c.write_at.ensures.writes.time torn in
    goes_on m old mid c.sync_in_place.new.self P written c.sync_in_place.ensures.only.time (λ (f : Folder) left. torn f (c.sync_in_place.ensures.only.crash f left))

pub returns-clause-any_moment : goal.returns-clause-any_moment
returns-clause-any_moment g c keeps =
    let m = g.D.Disk.meaning in
    let old = c.args.disk.now in
    let mid = c.write_at.new.self in
    let synced = c.requires.synced keeps in
    let n = length c.args.bytes.now in
    let P = MayTear c.args.name.now c.args.offset n (m.seen old) in
    let torn = torn_seen m c.args.name.now c.args.offset n old mid synced c.write_at.ensures.writes in
    let begun = started m old P (λ (f : Folder) left. not_torn c.args.name.now c.args.offset n (m.seen old) f (synced.only f left)) in
    let written = goes_on m old old mid P begun c.write_at.ensures.writes.time torn in
    goes_on m old mid c.sync_in_place.new.self P written c.sync_in_place.ensures.only.time (λ (f : Folder) left. torn f (c.sync_in_place.ensures.only.crash f left))

pub returns-clause-synced : goal.returns-clause-synced
returns-clause-synced g c keeps =
    let m = g.D.Disk.meaning in
    synced_again m c.args.name.now c.args.offset (length c.args.bytes.now) c.args.disk.now c.write_at.new.self (c.requires.synced keeps) c.write_at.ensures.writes c.sync_in_place.new.self c.sync_in_place.ensures.only
    c.in_ok-sync_in_place.ensures.whole (c.in_ok-sync_in_place.ensures.durable keeps)
