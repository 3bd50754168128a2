use Rattle.lock_table.specs.Laws.{apart_record, apart_records, apart_whole, apart_without, apart_without_all}
use Rattle.lock_table.proofs.stations_stay_apart.Goals as goal

pub returns : goal.returns
returns c = record { records = apart_record; listed = apart_records; file = apart_whole; released = apart_without; all_released = apart_without_all }
