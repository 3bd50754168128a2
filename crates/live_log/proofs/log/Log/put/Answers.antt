use Rattle.std.proofs.Common.{ℕ, List, ◌++◌, map, sym, ◌∙◌, ap, subst, arith}
use Rattle.station_lines.specs.JournalLines.{line_parts}
use Rattle.live_log.specs.Logs.{LogValue, HasLog}
use Rattle.files_in_place.specs.Disk.{IsSyncedDisk}
use Rattle.live_log.proofs.Putting.{nothing_put, too_long}
use Rattle.live_log.proofs.GroupLaws.{is_group}
use Rattle.live_log.proofs.log.Log.put.Goals as goal

pub put_group-requires-clause-group : goal.put_group-requires-clause-group
put_group-requires-clause-group g c =
    (map line_parts c.args.entries.now, is_group c.args.entries.now c.as_slice-group.result.now (c.as_slice-group.ensures.value ∙ c.in_ok-bytes.ensures.bytes) c.in_ok-bytes.ensures.small c.requires.some)

pub returns-then-group-self-clause-too_long : goal.returns-then-group-self-clause-too_long
returns-then-group-self-clause-too_long g c keeps is before log =
    let m = g.D.Disk.meaning in
    let here : HasLog c.self.inside.name c.args.self.now.head before (m.seen c.self.inside.disk) =
    subst (λ (l : LogValue _). HasLog l.name c.args.self.now.head before (m.seen l.disk)) (sym c.self.view_is) log in
    let group = is_group c.args.entries.now c.as_slice-group.result.now (c.as_slice-group.ensures.value ∙ c.in_ok-bytes.ensures.bytes) c.in_ok-bytes.ensures.small c.requires.some in
    too_long m c.self.inside.name c.self.inside.offset c.self.inside.disk (c.self.invariant.1 keeps c.if-not-self.false) c.args.self.now.head before (map line_parts c.args.entries.now) c.as_slice-group.result.now here group (omega arith)

pub returns-in_err-bytes-clause-any_moment : goal.returns-in_err-bytes-clause-any_moment
returns-in_err-bytes-clause-any_moment g c keeps takes before log =
    let m = g.D.Disk.meaning in
    let synced = subst (λ (l : LogValue _). IsSyncedDisk m l.disk) c.self.view_is (c.self.invariant.1 keeps c.if-not-self.false).synced in
    nothing_put m c.args.self.now.name c.args.self.now.disk c.args.self.now.head before (map line_parts c.args.entries.now) synced log

pub returns-then-group-self-clause-any_moment : goal.returns-then-group-self-clause-any_moment
returns-then-group-self-clause-any_moment g c keeps takes before log =
    let m = g.D.Disk.meaning in
    let synced = subst (λ (l : LogValue _). IsSyncedDisk m l.disk) c.self.view_is (c.self.invariant.1 keeps c.if-not-self.false).synced in
    nothing_put m c.args.self.now.name c.args.self.now.disk c.args.self.now.head before (map line_parts c.args.entries.now) synced log

pub returns-clause-put : goal.returns-clause-put
returns-clause-put g c keeps before log =
    let m = g.D.Disk.meaning in
    let head = c.args.self.now.head in
    let here : HasLog c.as_slice.result.now head before (m.seen c.self.inside.disk) =
    subst (λ (n : List ℕ). HasLog n head before (m.seen c.self.inside.disk)) (sym c.as_slice.ensures.value)
    (subst (λ (l : LogValue _). HasLog l.name head before (m.seen l.disk)) (sym c.self.view_is) log) in
    let group = is_group c.args.entries.now c.as_slice-group.result.now (c.as_slice-group.ensures.value ∙ c.in_ok-bytes.ensures.bytes)
    c.in_ok-bytes.ensures.small c.requires.some in
    subst (λ (n : List ℕ). HasLog n head (before ++ map line_parts c.args.entries.now) (m.seen c.put_group.new.disk))
    (c.as_slice.ensures.value ∙ ap (λ (l : LogValue _). l.name) c.self.view_is)
    (c.in_ok-self-inside.ensures.put keeps head before (map line_parts c.args.entries.now) here group)
