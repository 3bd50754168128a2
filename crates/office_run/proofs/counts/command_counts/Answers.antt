use Rattle.std.proofs.Common.{◌≡◌, ◌<◌, ◌≤◌, ℕ, ◌+◌, ◌-◌, Some, sym, subst, ◌∙◌, arith}
use Rattle.std.specs.List.{slice_get}
use Rattle.std.proofs.lemmas.List.{get_or_read_under}
use Rattle.catalogue_core.specs.Replay.{IsOfStation}
use Rattle.office_run.proofs.CountLaws.{few, of_station, with_done, with_refused}
use Rattle.office_run.proofs.counts.command_counts.Goals.{then-is_refusal, else-is_refusal}
use Rattle.office_run.proofs.counts.command_counts.Goals as goal

pub overflow_add-index_mut : goal.overflow_add-index_mut
overflow_add-index_mut c =
    let journal = c.args.closed.now.journal in
    let i = c.loop-index.index in
    let e = c.entry-entry.result.now in
    let back : i + 1 - 1 ≡ i = omega arith in
    let at : slice_get journal i ≡ Some e = subst (λ (k : ℕ). slice_get journal k ≡ Some e) back c.entry-entry.ensures.value in
    let stands : IsOfStation c.args.closed.now.opened e = of_station c.args.closed.now.opened journal i e c.entry_count-all.ensures.of_stations at in
    let within : e.station - 1 < c.args.stations = omega (arith, stands.0, stands.1, c.requires.stations) in
    let small = few _ journal i _ _ (e.station - 1) within c.loop-index.invariant in
    let read = get_or_read_under c.loop-index.refused_by_station.items (e.station - 1) c.args.stations c.index_mut.result.now 0 c.index_mut.ensures.value within (sym c.loop-index.invariant.each.each_station) in
    omega (arith, small, read, c.entry_count-all.ensures.count_bounded)

pub loop-index-preserved : goal.loop-index-preserved
loop-index-preserved c =
    let journal = c.args.closed.now.journal in
    let i = c.loop-index.index in
    let e = c.entry-entry.result.now in
    let back : i + 1 - 1 ≡ i = omega arith in
    let at : slice_get journal i ≡ Some e = subst (λ (k : ℕ). slice_get journal k ≡ Some e) back c.entry-entry.ensures.value in
    let stands : IsOfStation c.args.closed.now.opened e = of_station c.args.closed.now.opened journal i e c.entry_count-all.ensures.of_stations at in
    let most : e.station ≤ c.args.stations = omega (arith, stands.1, c.requires.stations) in
    let within : e.station - 1 < c.args.stations = omega (arith, stands.0, most) in
    elim c.if-is_refusal.branch [
      | then-is_refusal w ↦
          let read = get_or_read_under c.loop-index.refused_by_station.items (e.station - 1) c.args.stations w.index_mut.result.now 0 w.index_mut.ensures.value within (sym c.loop-index.invariant.each.each_station) in
          let counted = with_refused c.args.stations journal i c.loop-index.refused c.loop-index.refused_by_station.items e at (sym c.is_refusal.ensures.value ∙ w.if-is_refusal.true) stands.0 most c.loop-index.invariant in
          rw (w.refused-is, w.refused_by_station-is, read) counted
      | else-is_refusal w ↦
          rw (w.refused-is, w.refused_by_station-is)
          (with_done c.args.stations journal i c.loop-index.refused c.loop-index.refused_by_station.items e at (sym c.is_refusal.ensures.value ∙ w.if-is_refusal.false) c.loop-index.invariant)
    ]
