use Rattle.std.proofs.Common.{◌≡◌, false, IsSome, rules, subst, sym, ◌∙◌, inl, inr}
use Rattle.files_in_place.specs.Folder.{Name, Folder, is_reserved, temporary}
use Rattle.files_in_place.specs.Disk.{SameButTwo, HasMoved, IsDurable}
use Rattle.files_in_place.specs.Recovery.{KeepsRecovery}
use Rattle.files_in_place.proofs.Runs.{one_reads, then_call}
use Rattle.files_in_place.proofs.Meaning.{same_name, temporary_longer, goes_on_step, can_shrinks, finish_kept, finish_follows, finish_seen, finish_can}
use Rattle.files_in_place.proofs.recovery.finish_one.Goals as goal

pub rename-requires-clause-durable : goal.rename-requires-clause-durable
rename-requires-clause-durable g c promised =
    let m = g.D.Disk.meaning in
    let free : is_reserved c.args.name.now ≡ false = c.requires.free promised in
    let lies : c.as_slice-2.result.now ≡ temporary c.args.name.now = search rules in
    let found = c.in_ok-has.ensures.found promised in
    let there : IsSome (m.seen c.args.disk.now (temporary c.args.name.now)) = search (rules, found) in
    let can = can_shrinks (m.seen c.args.disk.now) (m.may_leave c.args.disk.now) (m.may_leave c.has.new.self) (c.requires.can promised) c.has.ensures.only.crash in
    subst (λ (f : Folder). IsDurable c.as_slice-2.result.now f (m.may_leave c.has.new.self)) (sym c.has.ensures.only.seen)
    (finish_kept c.args.name.now (m.seen c.args.disk.now) (m.may_leave c.has.new.self) can free (c.requires.listed promised) there c.as_slice-2.result.now lies)

pub returns-in_err-rename-clause-steps : goal.returns-in_err-rename-clause-steps
returns-in_err-rename-clause-steps g c promised =
    let m = g.D.Disk.meaning in
    let free : is_reserved c.args.name.now ≡ false = c.requires.free promised in
    let lies : c.as_slice-2.result.now ≡ temporary c.args.name.now = search rules in
    let found = c.in_ok-has.ensures.found promised in
    let there : IsSome (m.seen c.args.disk.now (temporary c.args.name.now)) = search (rules, found) in
    let can = can_shrinks (m.seen c.args.disk.now) (m.may_leave c.args.disk.now) (m.may_leave c.has.new.self) (c.requires.can promised) c.has.ensures.only.crash in
    let asked = one_reads m KeepsRecovery goes_on_step _ _ c.has.ensures.only in
    then_call m KeepsRecovery goes_on_step _ _ _ asked c.rename.ensures.moves.time
    (finish_follows c.args.name.now (m.seen c.args.disk.now) (m.may_leave c.has.new.self) can free (c.requires.listed promised) there c.as_slice-2.result.now (m.may_leave c.rename.new.self) lies c.rename.ensures.moves.crash)

pub returns-clause-steps : goal.returns-clause-steps
returns-clause-steps g c promised =
    let m = g.D.Disk.meaning in
    let free : is_reserved c.args.name.now ≡ false = c.requires.free promised in
    let lies : c.as_slice-2.result.now ≡ temporary c.args.name.now = search rules in
    let found = c.in_ok-has.ensures.found promised in
    let there : IsSome (m.seen c.args.disk.now (temporary c.args.name.now)) = search (rules, found) in
    let can = can_shrinks (m.seen c.args.disk.now) (m.may_leave c.args.disk.now) (m.may_leave c.has.new.self) (c.requires.can promised) c.has.ensures.only.crash in
    let asked = one_reads m KeepsRecovery goes_on_step _ _ c.has.ensures.only in
    then_call m KeepsRecovery goes_on_step _ _ _ asked c.rename.ensures.moves.time
    (finish_follows c.args.name.now (m.seen c.args.disk.now) (m.may_leave c.has.new.self) can free (c.requires.listed promised) there c.as_slice-2.result.now (m.may_leave c.rename.new.self) lies c.rename.ensures.moves.crash)

pub returns-clause-keeps : goal.returns-clause-keeps
returns-clause-keeps g c promised =
    let m = g.D.Disk.meaning in
    let free : is_reserved c.args.name.now ≡ false = c.requires.free promised in
    let lies : c.as_slice-2.result.now ≡ temporary c.args.name.now = search rules in
    let found = c.in_ok-has.ensures.found promised in
    let there : IsSome (m.seen c.args.disk.now (temporary c.args.name.now)) = search (rules, found) in
    let can = can_shrinks (m.seen c.args.disk.now) (m.may_leave c.args.disk.now) (m.may_leave c.has.new.self) (c.requires.can promised) c.has.ensures.only.crash in
    let moved = subst (λ (f : Folder). HasMoved c.as_slice-2.result.now c.args.name.now f (m.seen c.rename.new.self)) c.has.ensures.only.seen (c.in_ok-rename.ensures.done promised) in
    let others = subst (λ (f : Folder). SameButTwo c.as_slice-2.result.now c.args.name.now f (m.seen c.rename.new.self)) c.has.ensures.only.seen c.rename.ensures.moves.others in
    finish_seen c.args.name.now (m.seen c.args.disk.now) (m.may_leave c.has.new.self) can free (c.requires.listed promised) there c.as_slice-2.result.now (m.seen c.rename.new.self) lies moved others

pub returns-clause-can : goal.returns-clause-can
returns-clause-can g c promised =
    let m = g.D.Disk.meaning in
    let free : is_reserved c.args.name.now ≡ false = c.requires.free promised in
    let lies : c.as_slice-2.result.now ≡ temporary c.args.name.now = search rules in
    let found = c.in_ok-has.ensures.found promised in
    let there : IsSome (m.seen c.args.disk.now (temporary c.args.name.now)) = search (rules, found) in
    let can = can_shrinks (m.seen c.args.disk.now) (m.may_leave c.args.disk.now) (m.may_leave c.has.new.self) (c.requires.can promised) c.has.ensures.only.crash in
    let moved = subst (λ (f : Folder). HasMoved c.as_slice-2.result.now c.args.name.now f (m.seen c.rename.new.self)) c.has.ensures.only.seen (c.in_ok-rename.ensures.done promised) in
    let others = subst (λ (f : Folder). SameButTwo c.as_slice-2.result.now c.args.name.now f (m.seen c.rename.new.self)) c.has.ensures.only.seen c.rename.ensures.moves.others in
    finish_can c.args.name.now (m.seen c.args.disk.now) (m.may_leave c.has.new.self) can free (c.requires.listed promised) there c.as_slice-2.result.now (m.seen c.rename.new.self) (m.may_leave c.rename.new.self) lies moved others c.rename.ensures.moves.crash

pub returns-clause-whole : goal.returns-clause-whole
returns-clause-whole g c promised =
    let m = g.D.Disk.meaning in
    let lies : c.as_slice-2.result.now ≡ temporary c.args.name.now = search rules in
    λ n was. elim (same_name n c.args.name.now) [
      | inl same ↦ subst (λ (name : Name). m.is_whole c.rename.new.self name) (sym same)
          (c.in_ok-rename.ensures.moved (subst (λ (name : Name). m.is_whole c.has.new.self name) (sym lies) (c.has.ensures.only.whole (temporary c.args.name.now) (c.requires.on_disk promised))))
      | inr other ↦ c.rename.ensures.moves.whole n other (c.has.ensures.only.whole n was)
    ]

pub rename-requires-clause-other : goal.rename-requires-clause-other
rename-requires-clause-other g c =
    let lies : c.as_slice-2.result.now ≡ temporary c.args.name.now = search rules in
    λ same. temporary_longer c.args.name.now (sym lies ∙ same)

pub returns-in_err-has-clause-steps : goal.returns-in_err-has-clause-steps
returns-in_err-has-clause-steps g c promised = one_reads g.D.Disk.meaning KeepsRecovery goes_on_step _ _ c.has.ensures.only

pub returns-then-not-branch-clause-steps : goal.returns-then-not-branch-clause-steps
returns-then-not-branch-clause-steps g c promised = one_reads g.D.Disk.meaning KeepsRecovery goes_on_step _ _ c.has.ensures.only
