use Rattle.std.proofs.Common.{rules}
use Rattle.shared_catalogue.proofs.Moves.{begins}
use Rattle.shared_catalogue.proofs.lot.Lot.new.Goals as goal

pub ruled-requires : goal.ruled-requires
ruled-requires c = (search rules, (search rules, begins))
