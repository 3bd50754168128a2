use Rattle.files_in_place.proofs.WrittenFiles.{put_holds_written}
use Rattle.files_in_place.proofs.written.files_hold_what_was_written.Goals as goal

pub returns : goal.returns
returns c = put_holds_written
