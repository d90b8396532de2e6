-- The rows of the table for the other messages of lines: equations on concrete scenes.
use Rattle.dash_msg.specs.declared.parcel.Sent.{Sent}
use Rattle.dash_event.specs.declared.event.Kind.{Kind}
use Rattle.std.specs.Prelude.{ℕ, None, Some, [], ◌∷◌, List}
use Rattle.dash_msg.specs.declared.msg.Msg.TheVariants.{FwdRead, FwdReadEx, Inval, SharingBack, Transfer, Data, DataEx, Ack, TransferAck, Nak}
use Rattle.dash_model.specs.Maps.{most_got}
use Rattle.dash_model.specs.Config.{cluster_id, line_id}
use Rattle.dash_model.specs.Net.{to}
use Rattle.dash_model.specs.Cell.{Held, Asked, Poisoned, Came, Refused, Slot, NoSlot, Reads, Owns, Acks, Counting, Expects}
use Rattle.dash_model.specs.TableParts.{Scene, Makes, Leaves, old, new, calm, line}
use Rattle.dash_model.specs.TableCode.{addi}
use Rattle.dash_model.specs.TableHome.{from}
use Rattle.dash_model.specs.TableLines.{both_reserved}

-- harts 2 and 3 hold line 6, with hart 2 as its owner, and have words of it reserved
abbrev pub owned : Scene
owned = both_reserved (record (calm addi) { copy = Held (2 ∷ 3 ∷ []) (Some 2) new })

-- they hold it without an owner
abbrev pub shared : Scene
shared = both_reserved (record (calm addi) { copy = Held (2 ∷ 3 ∷ []) None new })

-- a request of cluster r to read is passed on
abbrev pub forwards : ℕ → Kind
forwards r = from 2 (FwdRead line (cluster_id r))

-- one to own
abbrev pub forwards_to_own : ℕ → Kind
forwards_to_own r = from 2 (FwdReadEx line (cluster_id r))

-- the copies are void, since cluster r becomes the owner
abbrev pub invalidates : ℕ → Kind
invalidates r = from 2 (Inval line (cluster_id r))

-- the answer to a request: a copy
abbrev pub answers : Kind
answers = from 2 (Data line old)

-- the line to own, with so many acknowledgements to come
abbrev pub gives : ℕ → Kind
gives n = from 2 (DataEx line old n)

-- or that it is refused
abbrev pub refuses : Kind
refuses = from 2 (Nak line)

-- cluster 3 acknowledges an invalidation
abbrev pub acknowledges : Kind
acknowledges = from 3 (Ack line)

-- the home acknowledges a transfer
abbrev pub confirms : Kind
confirms = from 2 (TransferAck line)

-- cluster 3 is told that its request is refused
abbrev pub nak_to_3 : List Sent
nak_to_3 = to 3 (Nak line) ∷ []

-- or that the copies are gone
abbrev pub ack_to_3 : List Sent
ack_to_3 = to 3 (Ack line) ∷ []

-- line 6 is pending besides
abbrev pub and_pending : Acks → Scene → Scene
and_pending acks s = record s { acks = acks }

-- FwdRead for cluster 3: an owner whose line is not pending gives a copy, and is no owner any more
pub record RowsOfFwdRead : Type 0 where
  pub at_the_owner : Makes 1 (forwards 3) owned shared (to 3 (Data line new) ∷ to 2 (SharingBack line new (cluster_id 3)) ∷ [])
  pub refused_where_the_line_is_pending : Makes 1 (forwards 3) (and_pending (Expects 1 0 []) owned) (and_pending (Expects 1 0 []) owned) nak_to_3
  pub refused_without_an_owner : Makes 1 (forwards 3) shared shared nak_to_3
  pub refused_without_a_copy : Makes 1 (forwards 3) (calm addi) (calm addi) nak_to_3
  pub nothing_for_a_cluster_that_is_not_there : Leaves 1 (forwards 4) owned
  pub nothing_of_a_line_outside_memory : Leaves 1 (from 2 (FwdRead (line_id 4096) (cluster_id 3))) owned

-- FwdReadEx for cluster 3: such an owner gives the line, and no copy is left in its cluster
pub record RowsOfFwdReadEx : Type 0 where
  pub at_the_owner : Makes 1 (forwards_to_own 3) owned (calm addi) (to 3 (DataEx line new 1) ∷ to 2 (Transfer line (cluster_id 3)) ∷ [])
  pub refused_where_the_line_is_pending : Makes 1 (forwards_to_own 3) (and_pending (Counting 0 []) owned) (and_pending (Counting 0 []) owned) nak_to_3
  pub refused_without_an_owner : Makes 1 (forwards_to_own 3) shared shared nak_to_3
  pub nothing_for_a_cluster_that_is_not_there : Leaves 1 (forwards_to_own 4) owned
  pub nothing_of_a_line_outside_memory : Leaves 1 (from 2 (FwdReadEx (line_id 4096) (cluster_id 3))) owned

-- nothing is held, and this slot has line 6
abbrev pub slotted : Slot → Scene
slotted slot = record (calm addi) { slot = slot }

-- a slot that is to own, with these acknowledgements
abbrev pub owning_with : Acks → Scene
owning_with acks = and_pending acks (slotted (Owns 0 2 Asked))

-- Inval for cluster 3: no copy is left, a slot that is to read is poisoned or refused, and cluster 3 is told
pub record RowsOfInval : Type 0 where
  pub every_holder_is_cleared : Makes 1 (invalidates 3) shared (calm addi) ack_to_3
  pub without_a_copy_too : Makes 1 (invalidates 3) (calm addi) (calm addi) ack_to_3
  pub a_slot_that_asked_to_read_is_poisoned : Makes 1 (invalidates 3) (slotted (Reads 0 2 Asked)) (slotted (Reads 0 2 Poisoned)) ack_to_3
  pub what_came_to_read_is_refused : Makes 1 (invalidates 3) (slotted (Reads 0 2 (Came old))) (slotted (Reads 0 2 Refused)) ack_to_3
  pub what_was_prefetched_is_closed : Makes 1 (invalidates 3) (slotted (Reads 4 2 (Came old))) (slotted NoSlot) ack_to_3
  pub a_poisoned_slot_stays : Makes 1 (invalidates 3) (slotted (Reads 0 2 Poisoned)) (slotted (Reads 0 2 Poisoned)) ack_to_3
  pub a_refused_slot_stays : Makes 1 (invalidates 3) (slotted (Reads 0 2 Refused)) (slotted (Reads 0 2 Refused)) ack_to_3
  pub a_slot_that_is_to_own_stays : Makes 1 (invalidates 3) (owning_with (Counting 0 [])) (owning_with (Counting 0 [])) ack_to_3
  pub nothing_for_a_cluster_that_is_not_there : Leaves 1 (invalidates 4) shared
  pub nothing_of_a_line_outside_memory : Leaves 1 (from 2 (Inval (line_id 4096) (cluster_id 3))) shared

-- Data: it comes to a slot that reads; a poisoned one is refused
pub record RowsOfData : Type 0 where
  pub to_a_slot_that_asked : Makes 1 answers (slotted (Reads 0 2 Asked)) (slotted (Reads 0 2 (Came old))) []
  pub to_a_poisoned_slot : Makes 1 answers (slotted (Reads 0 2 Poisoned)) (slotted (Reads 0 2 Refused)) []
  pub to_a_poisoned_prefetch : Makes 1 answers (slotted (Reads 4 2 Poisoned)) (slotted NoSlot) []
  pub nothing_to_a_refused_slot : Leaves 1 answers (slotted (Reads 0 2 Refused))
  pub nothing_to_a_slot_that_is_to_own : Leaves 1 answers (slotted (Owns 0 2 Asked))
  pub nothing_to_no_slot : Leaves 1 answers (calm addi)

-- the line came to it
abbrev pub came_with : Acks → Scene
came_with acks = and_pending acks (slotted (Owns 0 2 (Came old)))

-- DataEx: it comes to a slot that is to own, and says how many acknowledgements are to come
pub record RowsOfDataEx : Type 0 where
  pub none_is_to_come : Makes 1 (gives 0) (owning_with (Counting 0 [])) (slotted (Owns 0 2 (Came old))) []
  pub all_have_come : Makes 1 (gives 2) (owning_with (Counting 2 [])) (slotted (Owns 0 2 (Came old))) []
  pub some_are_to_come : Makes 1 (gives 2) (owning_with (Counting 1 (3 ∷ []))) (came_with (Expects 2 1 (3 ∷ []))) []
  pub nothing_to_a_slot_that_reads : Leaves 1 (gives 0) (and_pending (Counting 0 []) (slotted (Reads 0 2 Asked)))
  pub nothing_to_a_slot_where_it_came : Leaves 1 (gives 0) (came_with (Counting 0 []))
  pub nothing_to_a_refused_slot : Leaves 1 (gives 0) (and_pending (Counting 0 []) (slotted (Owns 0 2 Refused)))
  pub nothing_to_no_slot : Leaves 1 (gives 0) (calm addi)

-- line 6 is pending in this way
abbrev pub pending : Acks → Scene
pending acks = and_pending acks (calm addi)

-- Ack and TransferAck: one more came; with the last that is expected the entry goes
pub record RowsOfAck : Type 0 where
  pub one_more_came : Makes 1 acknowledges (pending (Counting 0 (2 ∷ []))) (pending (Counting 1 (2 ∷ []))) []
  pub one_more_of_those_expected : Makes 1 acknowledges (pending (Expects 3 1 (2 ∷ []))) (pending (Expects 3 2 (2 ∷ []))) []
  pub the_last_one : Makes 1 acknowledges (pending (Expects 3 2 (2 ∷ []))) (calm addi) []
  pub nothing_of_a_line_that_is_not_pending : Leaves 1 acknowledges (calm addi)
  pub nothing_where_one_more_does_not_fit : Leaves 1 acknowledges (pending (Counting most_got []))
  pub a_transfer_is_acknowledged : Makes 1 confirms (pending (Counting 0 (2 ∷ []))) (pending (Counting 1 (2 ∷ []))) []
  pub one_more_of_those_expected_by_the_home : Makes 1 confirms (pending (Expects 2 0 [])) (pending (Expects 2 1 [])) []
  pub the_last_one_by_the_home : Makes 1 confirms (pending (Expects 1 0 (2 ∷ []))) (calm addi) []
  pub nothing_by_the_home_of_a_line_that_is_not_pending : Leaves 1 confirms (calm addi)
  pub nothing_by_the_home_where_one_more_does_not_fit : Leaves 1 confirms (pending (Counting most_got []))

-- Nak: a slot that waits is refused
pub record RowsOfNak : Type 0 where
  pub a_slot_that_asked_to_read : Makes 1 refuses (slotted (Reads 0 2 Asked)) (slotted (Reads 0 2 Refused)) []
  pub a_poisoned_slot : Makes 1 refuses (slotted (Reads 0 2 Poisoned)) (slotted (Reads 0 2 Refused)) []
  pub a_slot_that_asked_to_own_keeps_its_entry : Makes 1 refuses (owning_with (Counting 0 [])) (and_pending (Counting 0 []) (slotted (Owns 0 2 Refused))) []
  pub a_prefetch_to_read_is_closed : Makes 1 refuses (slotted (Reads 4 2 Asked)) (calm addi) []
  pub a_prefetch_to_own_is_closed_with_its_entry : Makes 1 refuses (and_pending (Counting 0 []) (slotted (Owns 4 2 Asked))) (calm addi) []
  pub nothing_where_the_line_came : Leaves 1 refuses (slotted (Reads 0 2 (Came old)))
  pub nothing_where_it_is_refused : Leaves 1 refuses (slotted (Reads 0 2 Refused))
  pub nothing_to_no_slot : Leaves 1 refuses (pending (Counting 0 []))

-- these rows
pub record RowsOfMessages : Type 0 where
  pub fwd_read : RowsOfFwdRead
  pub fwd_read_ex : RowsOfFwdReadEx
  pub inval : RowsOfInval
  pub data_to_read : RowsOfData
  pub data_ex : RowsOfDataEx
  pub ack : RowsOfAck
  pub nak : RowsOfNak
