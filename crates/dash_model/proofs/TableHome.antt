-- The rows of the table for the messages that the home of a line takes.
use Rattle.std.proofs.Common.{refl}
use Rattle.dash_model.specs.Maps.{without, with_member}
use Rattle.dash_model.specs.Requests.{invals_to}
use Rattle.dash_model.specs.Row.{row}
use Rattle.dash_model.specs.TableHome.{RowsOfRead, RowsOfReadEx, RowsOfWriteBack, RowsOfSharingBack, RowsOfTransfer, RowsOfHome}

read : RowsOfRead
unfolding row with_member
read = record {
  of_an_uncached_line = λ d. refl;
  of_a_shared_line = λ d. refl;
  of_a_line_that_it_shares = λ d. refl;
  of_a_dirty_line = λ d. refl;
  nothing_away_from_the_home = λ d. refl;
  nothing_of_a_line_outside_memory = λ d. refl;
}

read_ex : RowsOfReadEx
unfolding row without invals_to
read_ex = record {
  of_an_uncached_line = λ d. refl;
  of_a_shared_line = λ d. refl;
  of_a_line_that_it_shares = λ d. refl;
  of_a_line_that_it_alone_shares = λ d. refl;
  of_a_dirty_line = λ d. refl;
  nothing_away_from_the_home = λ d. refl;
  nothing_of_a_line_outside_memory = λ d. refl;
}

write_back : RowsOfWriteBack
unfolding row
write_back = record {
  from_the_owner = λ d. refl;
  nothing_from_another_cluster = λ d. refl;
  nothing_of_an_uncached_line = λ d. refl;
  nothing_of_a_shared_line = λ d. refl;
  nothing_away_from_the_home = λ d. refl;
}

sharing_back : RowsOfSharingBack
unfolding row with_member
sharing_back = record {
  from_the_owner = λ d. refl;
  sharers_stand_in_their_order = λ d. refl;
  nothing_from_another_cluster = λ d. refl;
  nothing_of_an_uncached_line = λ d. refl;
  nothing_for_a_cluster_that_is_not_there = λ d. refl;
  nothing_away_from_the_home = λ d. refl;
}

transfer : RowsOfTransfer
unfolding row
transfer = record {
  from_the_owner = λ d. refl;
  nothing_from_another_cluster = λ d. refl;
  nothing_of_a_shared_line = λ d. refl;
  nothing_for_a_cluster_that_is_not_there = λ d. refl;
  nothing_away_from_the_home = λ d. refl;
}

pub rows_of_home : RowsOfHome
rows_of_home = record { read = read; read_ex = read_ex; write_back = write_back; sharing_back = sharing_back; transfer = transfer }
