use Rattle.std.proofs.Common.{refl}
use Rattle.byte_io.specs.Laws.Sinks.{front_by, front_from, front_then, on_err}
use Rattle.byte_io.specs.Laws.OfBytes.{slice_is_bytes}
use Rattle.office_run.specs.Closing.{file_named}
use Rattle.folders.proofs.ByteLaws.{file_on_ok}
use Rattle.office_run.proofs.close.write_file.Goals as goal

pub returns-in_err-begin-clause-front : goal.returns-in_err-begin-clause-front
returns-in_err-begin-clause-front g c = on_err _ (front_from _ _ _ _ c.in_err-begin.ensures.no_file_begun refl)

pub returns-clause-kept : goal.returns-clause-kept
returns-clause-kept g c = front_then _ _ _ (front_by _ _ _ c.in_ok-begin.ensures.begun) c.write_content.ensures.kept

pub returns-clause-bytes : goal.returns-clause-bytes
returns-clause-bytes g c = file_on_ok _ (file_named c.args.name.now c.args.content.now) (slice_is_bytes c.args.name.now c.type_inv.name) c.write_content.ensures.bytes
