-- The rows of the table for the other messages of lines.
use Rattle.std.proofs.Common.{refl}
use Rattle.dash_model.specs.Maps.{member}
use Rattle.dash_model.specs.Row.{row}
use Rattle.dash_model.specs.TableMessages.{RowsOfFwdRead, RowsOfFwdReadEx, RowsOfInval, RowsOfData, RowsOfDataEx, RowsOfAck, RowsOfNak, RowsOfMessages}

fwd_read : RowsOfFwdRead
unfolding row member
fwd_read = record {
  at_the_owner = λ d. refl;
  refused_where_the_line_is_pending = λ d. refl;
  refused_without_an_owner = λ d. refl;
  refused_without_a_copy = λ d. refl;
  nothing_for_a_cluster_that_is_not_there = λ d. refl;
  nothing_of_a_line_outside_memory = λ d. refl;
}

fwd_read_ex : RowsOfFwdReadEx
unfolding row member
fwd_read_ex = record {
  at_the_owner = λ d. refl;
  refused_where_the_line_is_pending = λ d. refl;
  refused_without_an_owner = λ d. refl;
  nothing_for_a_cluster_that_is_not_there = λ d. refl;
  nothing_of_a_line_outside_memory = λ d. refl;
}

inval : RowsOfInval
unfolding row member
inval = record {
  every_holder_is_cleared = λ d. refl;
  without_a_copy_too = λ d. refl;
  a_slot_that_asked_to_read_is_poisoned = λ d. refl;
  what_came_to_read_is_refused = λ d. refl;
  what_was_prefetched_is_closed = λ d. refl;
  a_poisoned_slot_stays = λ d. refl;
  a_refused_slot_stays = λ d. refl;
  a_slot_that_is_to_own_stays = λ d. refl;
  nothing_for_a_cluster_that_is_not_there = λ d. refl;
  nothing_of_a_line_outside_memory = λ d. refl;
}

data_to_read : RowsOfData
unfolding row
data_to_read = record {
  to_a_slot_that_asked = λ d. refl;
  to_a_poisoned_slot = λ d. refl;
  to_a_poisoned_prefetch = λ d. refl;
  nothing_to_a_refused_slot = λ d. refl;
  nothing_to_a_slot_that_is_to_own = λ d. refl;
  nothing_to_no_slot = λ d. refl;
}

data_ex : RowsOfDataEx
unfolding row
data_ex = record {
  none_is_to_come = λ d. refl;
  all_have_come = λ d. refl;
  some_are_to_come = λ d. refl;
  nothing_to_a_slot_that_reads = λ d. refl;
  nothing_to_a_slot_where_it_came = λ d. refl;
  nothing_to_a_refused_slot = λ d. refl;
  nothing_to_no_slot = λ d. refl;
}

ack : RowsOfAck
unfolding row
ack = record {
  one_more_came = λ d. refl;
  one_more_of_those_expected = λ d. refl;
  the_last_one = λ d. refl;
  nothing_of_a_line_that_is_not_pending = λ d. refl;
  nothing_where_one_more_does_not_fit = λ d. refl;
  a_transfer_is_acknowledged = λ d. refl;
  one_more_of_those_expected_by_the_home = λ d. refl;
  the_last_one_by_the_home = λ d. refl;
  nothing_by_the_home_of_a_line_that_is_not_pending = λ d. refl;
  nothing_by_the_home_where_one_more_does_not_fit = λ d. refl;
}

nak : RowsOfNak
unfolding row
nak = record {
  a_slot_that_asked_to_read = λ d. refl;
  a_poisoned_slot = λ d. refl;
  a_slot_that_asked_to_own_keeps_its_entry = λ d. refl;
  a_prefetch_to_read_is_closed = λ d. refl;
  a_prefetch_to_own_is_closed_with_its_entry = λ d. refl;
  nothing_where_the_line_came = λ d. refl;
  nothing_where_it_is_refused = λ d. refl;
  nothing_to_no_slot = λ d. refl;
}

pub rows_of_messages : RowsOfMessages
rows_of_messages = record { fwd_read = fwd_read; fwd_read_ex = fwd_read_ex; inval = inval; data_to_read = data_to_read; data_ex = data_ex; ack = ack; nak = nak }
