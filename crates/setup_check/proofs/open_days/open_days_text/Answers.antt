use Rattle.std.proofs.Common.{◌≡◌, ℕ, ◌+◌, List, [], ◌∷◌, ◌++◌, take, ap, sym, ◌∙◌}
use Rattle.std.proofs.lemmas.List.{take_more}
use Rattle.setup_check.proofs.DayLaws.{days_more}
use Rattle.setup_check.proofs.open_days.open_days_text.Goals as goal

pub loop-path-preserved : goal.loop-path-preserved
loop-path-preserved g c =
    let files = g.S.Source.files c.args.source.now in
    let failures = g.S.Source.failures in
    let paths = c.deref-path-items.result.now in
    let i = c.loop-path.path-index in
    let path = c.path-item.result in
    let before = c.loop-path.invariant in
    let taken : take (i + 1) paths ≡ take i paths ++ path ∷ [] = take_more paths i path c.loop-path-test.true ∙ ap (λ (p : List ℕ). take i paths ++ p ∷ []) (sym c.path-item.is) in
    let found = rw (c.as_slice.ensures.value, before.kept) at c.in_ok-finding.ensures.found in
    let grows = rw c.as_slice-in-loop-path.ensures.value at c.in_ok-append_day.ensures.ok in
    record {
      told = rw taken
          (days_more files (failures c.args.source.now) (failures c.loop-path.source) (failures c.look_at_log.new.source) (take i paths) c.loop-path.text.items c.append_day.new.text.items path
          c.in_ok-finding.finding before.told found grows);
      kept = c.look_at_log.ensures.kept ∙ before.kept;
    }
