use Rattle.std.proofs.Common.{refl}
use Rattle.setup_check.proofs.table_places.TablePlaces.new.Goals as goal

pub returns : goal.returns
returns c = record { value = λ name. rw c.new.ensures.empty refl }
