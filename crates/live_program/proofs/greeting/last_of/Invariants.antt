use Rattle.std.proofs.Common.{◌≡◌, option_map, take}
use Rattle.live_program.specs.Greetings.{last_entry}
use Rattle.live_program.proofs.greeting.last_of.Given as goal

abbrev pub invariant-loop-entry : goal.invariant-loop-entry
invariant-loop-entry l = option_map (λ e. e.now) l.last ≡ last_entry l.station (take l.entry-index l.journal)
