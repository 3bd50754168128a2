use Rattle.setup_check.proofs.PlaceLaws.{table_placed, index_unplaced, station_unplaced}
use Rattle.setup_check.proofs.table_places.TablePlaces.add.Goals as goal

pub returns-in-Table : goal.returns-in-Table
returns-in-Table c = record {
  added = λ entries is are.
      let table = c.in-Table in
      rw table.is (table_placed _ c.args.self.now c.add_name.new.self entries table.name table.dbf table.dbt c.args.place c.add_name.ensures.added is are);
}

pub returns-in-Index : goal.returns-in-Index
returns-in-Index c = record { added = λ entries is are. rw c.in-Index.is (index_unplaced c.args.self.now entries _ _ _ are) }

pub returns-in-Station : goal.returns-in-Station
returns-in-Station c = record { added = λ entries is are. rw c.in-Station.is (station_unplaced c.args.self.now entries _ are) }
