use Rattle.std.proofs.Common.{◌≡◌, List, ℕ, Some, ◌∙◌, ◌++◌, ap, refl, sym, rules}
use Rattle.live_log.specs.Gates.{log_of}
use Rattle.live_day.specs.Days.{parts_of}
use Rattle.live_day.proofs.starting.start_day.Goals as goal

pub new-log-requires-clause-whole : goal.new-log-requires-clause-whole
new-log-requires-clause-whole g c =
    (log_of (parts_of c.args.catalogue.journal), c.requires.log, record { entries = parts_of c.args.catalogue.journal; is = refl; small = c.requires.small })

pub new-requires-clause-logged : goal.new-requires-clause-logged
new-requires-clause-logged g c keeps =
    let there : g.D.Disk.meaning.seen c.new-log.result.disk c.new-log.result.name ≡ Some c.args.log.now = search rules in
    let is : c.args.log.now ≡ c.new-log.result.head ++ log_of (parts_of c.args.catalogue.journal) =
    c.requires.log ∙ ap (λ (h : List ℕ). h ++ log_of (parts_of c.args.catalogue.journal)) (sym c.new-log.ensures.head) in
    record { there = there ∙ ap (λ (l : List ℕ). Some l) is; small = c.requires.small }
