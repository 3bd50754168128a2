use Rattle.live_log.proofs.GateLaws.{one}
use Rattle.live_log.proofs.gates.gates_hold.Goals as goal

pub returns-clause-one : goal.returns-clause-one
returns-clause-one c log a b p q = one log a b p q
