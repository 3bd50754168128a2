use Rattle.std.proofs.Common.{refl}
use Rattle.std.proofs.Math.Bool.{and-true}
use Rattle.lock_table.specs.Locks.{free_record}
use Rattle.lock_table.proofs.list_of_one.Goals as goal

pub returns : goal.returns
returns c = record { free = λ locks station table number. and-true (free_record locks station table number); taken = λ locks station table number. refl }
