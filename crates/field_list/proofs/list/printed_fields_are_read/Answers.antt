use Rattle.field_list.proofs.PrintedLaws.{printed_read}
use Rattle.field_list.proofs.list.printed_fields_are_read.Goals as goal

pub returns : goal.returns
returns c = record { read_back = printed_read }
