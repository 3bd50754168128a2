use Rattle.memory_disk.specs.Seen.{seen_after}
use Rattle.memory_disk.specs.Laws.{seen_may_stay}
use Rattle.memory_disk.proofs.laws.files_written_over_may_be_torn.Goals as goal

pub returns : goal.returns
returns c before name offset bytes left tear = (seen_after before, seen_may_stay before, tear)
