use Rattle.lock_table.specs.Laws.{held_new, held_own, held_others, held_with, listed_is_held, own_is_listed, others_with_records, listed_or_held, held_without, left_without, held_without_all, left_without_all}
use Rattle.lock_table.proofs.other_locks_stay.Goals as goal

pub returns : goal.returns
returns c = record {
  new_is_held = held_new;
  alone = held_own;
  others_stay = held_others;
  taken = held_with;
  listed_are_held = listed_is_held;
  listed_alone = own_is_listed;
  others_stay_beside = others_with_records;
  taken_listed = listed_or_held;
  released = held_without;
  others_left = left_without;
  all_released = held_without_all;
  all_others_left = left_without_all;
}
