use Rattle.std.proofs.Common.{map}
use Rattle.live_stations.proofs.words.options_in.Goals as goal

pub returns-clause-untaken : goal.returns-clause-untaken
returns-clause-untaken g c = λ is_none. c.is_of_memory.ensures.no (map g.T.AsStr.text c.args.words.now) c.in-Err.ensures.fault c.if-is_of_memory.false
