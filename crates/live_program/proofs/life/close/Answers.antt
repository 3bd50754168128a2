use Rattle.std.proofs.Common.{◌≡◌, ◌∙◌, ap, true}
use Rattle.live_log.specs.Logs.{LogValue}
use Rattle.live_program.proofs.life.close.Goals as goal

pub close_day-ended-requires-clause-synced : goal.close_day-ended-requires-clause-synced
close_day-ended-requires-clause-synced g c promised =
    let takes : c.into_parts-catalogue.result.1.takes ≡ true = ap (λ (log : LogValue g.row.D.Denot). log.takes) c.into_parts-catalogue.ensures.log ∙ c.into_parts-catalogue.ensures.takes c.requires.takes in
    c.into_disk.ensures.synced promised takes

pub close_day-ended-requires-clause-clean : goal.close_day-ended-requires-clause-clean
close_day-ended-requires-clause-clean g c promised =
    let takes : c.into_parts-catalogue.result.1.takes ≡ true = ap (λ (log : LogValue g.row.D.Denot). log.takes) c.into_parts-catalogue.ensures.log ∙ c.into_parts-catalogue.ensures.takes c.requires.takes in
    c.into_disk.ensures.clean promised takes

pub returns-clause-count : goal.returns-clause-count
returns-clause-count g c = rw (← c.into_parts-catalogue.ensures.history) c.close_day-ended.ensures.count

pub returns-clause-fault : goal.returns-clause-fault
returns-clause-fault g c = rw (← c.into_parts-catalogue.ensures.history) c.close_day-ended.ensures.fault

pub returns-clause-placed : goal.returns-clause-placed
returns-clause-placed g c promised =
    let disk : c.into_disk.result ≡ c.args.day.log.disk = c.into_disk.ensures.disk ∙ ap (λ (log : LogValue g.row.D.Denot). log.disk) c.into_parts-catalogue.ensures.log in
    rw (← disk, ← c.into_parts-catalogue.ensures.history) (c.close_day-ended.ensures.placed promised)

pub returns-clause-any_moment : goal.returns-clause-any_moment
returns-clause-any_moment g c promised =
    let disk : c.into_disk.result ≡ c.args.day.log.disk = c.into_disk.ensures.disk ∙ ap (λ (log : LogValue g.row.D.Denot). log.disk) c.into_parts-catalogue.ensures.log in
    rw (← disk, ← c.into_parts-catalogue.ensures.history) (c.close_day-ended.ensures.any_moment promised)
