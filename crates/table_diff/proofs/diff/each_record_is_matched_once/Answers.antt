use Rattle.table_diff.proofs.KeyMatching.{olds_matched, news_matched}
use Rattle.table_diff.proofs.diff.each_record_is_matched_once.Goals as goal

pub returns : goal.returns
returns c = record { old_records = olds_matched; new_records = news_matched }
