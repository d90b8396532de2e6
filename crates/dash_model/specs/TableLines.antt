-- The rows of the table for what a cluster does to a line by itself: equations on concrete scenes, and what each row needs.
use Rattle.std.specs.Prelude.{ℕ, true, false, None, Some, [], ◌∷◌}
use Rattle.dash_event.specs.declared.event.Kind.{Kind}
use Rattle.dash_event.specs.declared.event.Kind.TheVariants as kind
use Rattle.dash_msg.specs.declared.msg.Msg.TheVariants.{Read, ReadEx, WriteBack}
use Rattle.dash_model.specs.Config.{hart_id}
use Rattle.dash_model.specs.Net.{to}
use Rattle.dash_model.specs.Cell.{Held, Asked, Poisoned, Came, Refused, Reads, Owns, Counting, Expects}
use Rattle.dash_model.specs.TableParts.{Scene, empty, Makes, May, Never, old, new, calm, line}
use Rattle.dash_model.specs.TableCode.{addi, lw, lw_other, lr, sc, amoadd, half, whole, far_away}
use Rattle.dash_model.specs.TableHarts.{acks_full}
use Rattle.dash_model.specs.TableAccesses.{holding, owning, waiting}

-- hart 2 takes the line from its cluster, to read
abbrev pub reads : Kind
reads = kind.BusRead (hart_id 2) line

-- hart 3 has a copy, and is no owner
abbrev pub beside_a_holder : ℕ → Scene
beside_a_holder word = record (calm word) { copy = Held (3 ∷ []) None new }

-- hart 3 is the owner
abbrev pub beside_an_owner : ℕ → Scene
beside_an_owner word = record (calm word) { copy = Held (3 ∷ []) (Some 3) new }

-- hart 2 holds line 22, which has the same index
abbrev pub without_room : Scene → Scene
without_room s = record s { other = record empty { copy = Held (2 ∷ []) None old } }

-- BusRead: the hart needs a copy, its cluster has one, and it has room
pub record RowsOfBusRead : Type 0 where
  pub it_may_happen : May 1 reads (beside_a_holder lw)
  pub it_is_a_holder_too : Makes 1 reads (beside_a_holder lw) (record (calm lw) { copy = Held (2 ∷ 3 ∷ []) None new }) []
  pub also_beside_an_owner_who_stays_the_owner : Makes 1 reads (beside_an_owner lw) (record (calm lw) { copy = Held (2 ∷ 3 ∷ []) (Some 3) new }) []
  pub also_with_a_line_of_another_index : May 1 reads (record (beside_a_holder lw) { apart = record empty { copy = Held (2 ∷ []) None old } })
  pub an_lr_may_too : May 1 reads (beside_a_holder lr)
  pub never_where_it_is_a_holder : Never 1 reads (record (calm lw) { copy = Held (2 ∷ 3 ∷ []) None new })
  pub never_where_the_cluster_has_no_copy : Never 1 reads (calm lw)
  pub never_without_room : Never 1 reads (without_room (beside_a_holder lw))
  pub never_where_a_store_has_the_bytes : Never 1 reads (waiting (whole ∷ []) (beside_a_holder lw))
  pub never_where_a_store_has_some_of_them : Never 1 reads (waiting (half ∷ []) (beside_a_holder lw))
  pub an_lr_never_past_a_store_to_its_word : Never 1 reads (waiting (whole ∷ []) (beside_a_holder lr))
  pub never_for_a_load_of_another_line : Never 1 reads (beside_a_holder lw_other)
  pub never_for_an_atomic_operation : Never 1 reads (beside_a_holder amoadd)
  pub never_at_another_cluster : Never 2 reads (beside_a_holder lw)

-- hart 2 takes the line from its cluster, to own
abbrev pub owns : Kind
owns = kind.BusOwn (hart_id 2) line

-- hart 2 beside the owner, hart 3, both of whom have line 6 in L1 and the word at 104 of it reserved
abbrev pub both_reserved : Scene → Scene
both_reserved s = record s { reserved = Some 104; l1 = Some 6; reserved_beside = Some 104; l1_beside = Some 6 }

-- hart 2 alone has them
abbrev pub one_reserved : Scene → Scene
one_reserved s = record s { reserved = Some 104; l1 = Some 6 }

-- BusOwn: the hart needs to own for its instruction or its oldest store, its cluster has an owner, and it has room
pub record RowsOfBusOwn : Type 0 where
  pub for_an_atomic_operation : May 1 owns (beside_an_owner amoadd)
  pub for_an_sc_on_its_reservation : May 1 owns (record (beside_an_owner sc) { reserved = Some 100 })
  pub for_the_oldest_store : May 1 owns (waiting (half ∷ far_away ∷ []) (beside_an_owner addi))
  pub also_where_it_owns_beside_another_holder : May 1 owns (record (calm amoadd) { copy = Held (2 ∷ 3 ∷ []) (Some 2) new })
  pub it_is_the_only_holder_and_every_other_is_cleared : Makes 1 owns (both_reserved (record (calm amoadd) { copy = Held (2 ∷ 3 ∷ []) (Some 3) new })) (one_reserved (owning amoadd)) []
  pub a_reservation_in_another_line_stays : Makes 1 owns (record (beside_an_owner amoadd) { reserved_beside = Some 8 }) (record (owning amoadd) { reserved_beside = Some 8 }) []
  pub never_in_state_M : Never 1 owns (owning amoadd)
  pub never_where_the_cluster_has_no_owner : Never 1 owns (beside_a_holder amoadd)
  pub never_without_room : Never 1 owns (without_room (beside_an_owner amoadd))
  pub never_for_an_sc_without_its_reservation : Never 1 owns (record (beside_an_owner sc) { reserved = Some 104 })
  pub never_for_a_load : Never 1 owns (beside_an_owner lw)
  pub never_for_a_store_that_is_not_the_oldest : Never 1 owns (waiting (far_away ∷ half ∷ []) (beside_an_owner addi))
  pub never_at_another_cluster : Never 2 owns (beside_an_owner amoadd)

-- hart 2 gives line 6 up
abbrev pub evicts : Kind
evicts = kind.Evict (hart_id 2) line

-- line 22, which has the same index, came to hart 2's front slot
abbrev pub wanting : Scene → Scene
wanting s = record s { other = record empty { slot = Reads 0 2 (Came old) } }

-- hart 2 and hart 3 hold line 6, and hart 2 is the owner
abbrev pub owning_beside : Scene
owning_beside = record (calm addi) { copy = Held (2 ∷ 3 ∷ []) (Some 2) new }

-- Evict: the hart holds the line and wants another one of its index, and the line is not pending or the hart not its owner
pub record RowsOfEvict : Type 0 where
  pub a_holder_for_a_line_that_came : May 1 evicts (wanting (holding addi))
  pub a_holder_for_a_line_to_read_in_its_cluster : May 1 evicts (record (holding lw_other) { other = record empty { copy = Held (3 ∷ []) None old } })
  pub an_owner_may_too : May 1 evicts (wanting owning_beside)
  pub a_holder_beside_an_owner_while_the_line_is_pending : May 1 evicts (wanting (record (calm addi) { copy = Held (2 ∷ 3 ∷ []) (Some 3) new; acks = Expects 1 0 [] }))
  pub an_owner_never_while_the_line_is_pending : Never 1 evicts (wanting (record owning_beside { acks = Expects 1 0 [] }))
  pub never_where_it_is_no_holder : Never 1 evicts (wanting (beside_a_holder addi))
  pub never_where_nothing_is_wanted : Never 1 evicts (holding addi)
  pub never_for_what_another_hart_wants : Never 1 evicts (record (holding addi) { other = record empty { slot = Reads 0 3 (Came old) } })
  pub never_for_a_line_that_has_not_come : Never 1 evicts (record (holding addi) { other = record empty { slot = Reads 0 2 Asked } })
  pub never_for_a_line_to_read_that_its_cluster_has_not_got : Never 1 evicts (holding lw_other)
  pub never_for_a_line_of_another_index : Never 1 evicts (record (holding addi) { apart = record empty { slot = Reads 0 2 (Came old) } })
  pub never_for_the_line_itself : Never 1 evicts (record (holding addi) { slot = Owns 0 2 (Came old) })
  pub never_at_another_cluster : Never 2 evicts (wanting (holding addi))
  pub the_owner_leaves_no_copy_and_writes_back : Makes 1 evicts (both_reserved (wanting owning_beside)) (wanting (calm addi)) (to 2 (WriteBack line new) ∷ [])
  pub a_holder_leaves_the_others : Makes 1 evicts (both_reserved (wanting (record (calm addi) { copy = Held (2 ∷ 3 ∷ []) None new }))) (record (wanting (beside_a_holder addi)) { reserved_beside = Some 104; l1_beside = Some 6 }) []
  pub a_holder_leaves_the_owner : Makes 1 evicts (wanting (record (calm addi) { copy = Held (2 ∷ 3 ∷ []) (Some 3) new })) (wanting (beside_an_owner addi)) []
  pub the_last_holder_leaves_no_copy : Makes 1 evicts (wanting (holding addi)) (wanting (calm addi)) []

-- slot n asks to read line 6, for hart 2
abbrev pub asks_to_read : ℕ → Kind
asks_to_read n = kind.Ask n (hart_id 2) line false

-- it asks to own
abbrev pub asks_to_own : ℕ → Kind
asks_to_own n = kind.Ask n (hart_id 2) line true

-- Ask: the slot is empty, and no slot has the line; the front slot asks to read what the cluster has no copy of, and the front slot or the store slot to own what the cluster has no owner of, where the acknowledgements have room
pub record RowsOfAsk : Type 0 where
  pub the_front_slot_to_read : May 1 (asks_to_read 0) (calm lw)
  pub it_asks_the_home : Makes 1 (asks_to_read 0) (calm lw) (record (calm lw) { slot = Reads 0 2 Asked }) (to 2 (Read line) ∷ [])
  pub it_needs_no_room_for_acknowledgements : May 1 (asks_to_read 0) (acks_full (calm lw))
  pub never_to_read_what_the_cluster_has : Never 1 (asks_to_read 0) (beside_a_holder lw)
  pub never_to_read_for_nothing : Never 1 (asks_to_read 0) (calm addi)
  pub never_to_read_by_the_store_slot : Never 1 (asks_to_read 2) (calm lw)
  pub never_by_a_slot_that_is_not_empty : Never 1 (asks_to_read 0) (record (calm lw) { other = record empty { slot = Reads 0 2 Refused } })
  pub never_for_a_line_in_a_slot : Never 1 (asks_to_read 0) (record (calm lw) { slot = Reads 4 2 Asked })
  pub never_at_another_cluster : Never 2 (asks_to_read 0) (calm lw)
  pub the_front_slot_to_own : May 1 (asks_to_own 0) (holding amoadd)
  pub an_entry_of_acknowledgements_begins : Makes 1 (asks_to_own 0) (holding amoadd) (record (holding amoadd) { slot = Owns 0 2 Asked; acks = Counting 0 [] }) (to 2 (ReadEx line) ∷ [])
  pub never_to_own_what_the_cluster_owns : Never 1 (asks_to_own 0) (beside_an_owner amoadd)
  pub never_to_own_without_room_for_acknowledgements : Never 1 (asks_to_own 0) (acks_full (calm amoadd))
  pub never_to_own_for_a_load : Never 1 (asks_to_own 0) (calm lw)
  pub never_to_own_for_an_sc_without_its_reservation : Never 1 (asks_to_own 0) (calm sc)
  pub the_store_slot_to_own : May 1 (asks_to_own 2) (waiting (half ∷ []) (calm addi))
  pub never_for_a_store_by_the_front_slot : Never 1 (asks_to_own 0) (waiting (half ∷ []) (calm addi))
  pub never_for_a_store_that_is_not_the_oldest : Never 1 (asks_to_own 2) (waiting (far_away ∷ half ∷ []) (calm addi))
  pub never_for_a_store_where_the_cluster_owns : Never 1 (asks_to_own 2) (waiting (half ∷ []) (beside_an_owner addi))
  pub never_for_a_store_without_room_for_acknowledgements : Never 1 (asks_to_own 2) (acks_full (waiting (half ∷ []) (calm addi)))

-- slot 0 asks again
abbrev pub asks_again : Kind
asks_again = kind.Again 0 line

-- Again: the slot is refused
pub record RowsOfAgain : Type 0 where
  pub it_may_happen : May 1 asks_again (record (calm lw) { slot = Reads 0 2 Refused })
  pub a_read_goes_to_the_home : Makes 1 asks_again (record (calm lw) { slot = Reads 0 2 Refused }) (record (calm lw) { slot = Reads 0 2 Asked }) (to 2 (Read line) ∷ [])
  pub one_to_own_goes_there_too : Makes 1 asks_again (record (calm lw) { slot = Owns 0 2 Refused; acks = Counting 0 [] }) (record (calm lw) { slot = Owns 0 2 Asked; acks = Counting 0 [] }) (to 2 (ReadEx line) ∷ [])
  pub never_where_it_asked : Never 1 asks_again (record (calm lw) { slot = Reads 0 2 Asked })
  pub never_where_it_is_poisoned : Never 1 asks_again (record (calm lw) { slot = Reads 0 2 Poisoned })
  pub never_where_it_came : Never 1 asks_again (record (calm lw) { slot = Owns 0 2 (Came new) })
  pub never_by_another_slot : Never 1 asks_again (record (calm lw) { slot = Reads 1 3 Refused })
  pub never_by_no_slot : Never 1 asks_again (calm lw)

-- slot 0 of hart 2 has its line installed
abbrev pub installs : Kind
installs = kind.Install 0 (hart_id 2) line

-- the line came to slot 0, to read
abbrev pub came : Scene
came = record (calm lw) { slot = Reads 0 2 (Came new) }

-- it came to own, while acknowledgements are to come
abbrev pub came_to_own : Scene
came_to_own = record (calm lw) { slot = Owns 0 2 (Came new); acks = Expects 2 1 [] }

-- the hart is the owner, and no slot has the line
abbrev pub installed : Scene
installed = record (calm lw) { copy = Held (2 ∷ []) (Some 2) new; acks = Expects 2 1 [] }

-- Install: the line came to the slot, whose hart has room
pub record RowsOfInstall : Type 0 where
  pub a_line_to_read : May 1 installs came
  pub the_hart_is_the_only_holder : Makes 1 installs came (record (calm lw) { copy = Held (2 ∷ []) None new }) []
  pub a_line_to_own : May 1 installs came_to_own
  pub the_hart_is_the_owner : Makes 1 installs came_to_own installed []
  pub every_other_holder_is_cleared : Makes 1 installs (both_reserved (record came_to_own { copy = Held (2 ∷ 3 ∷ []) None old })) (one_reserved installed) []
  pub a_stranger_keeps_no_reservation_in_the_line : Makes 1 installs (record came_to_own { reserved = Some 104 }) installed []
  pub but_one_in_another_line : Makes 1 installs (record came_to_own { reserved = Some 8 }) (record installed { reserved = Some 8 }) []
  pub never_where_it_has_not_come : Never 1 installs (record (calm lw) { slot = Reads 0 2 Asked })
  pub never_for_another_slot : Never 1 installs (record (calm lw) { slot = Reads 4 2 (Came new) })
  pub never_for_another_hart : Never 1 installs (record (calm lw) { slot = Reads 0 3 (Came new) })
  pub never_without_room : Never 1 installs (without_room came)
  pub never_at_another_cluster : Never 2 installs came

-- these rows
pub record RowsOfLines : Type 0 where
  pub bus_read : RowsOfBusRead
  pub bus_own : RowsOfBusOwn
  pub evict : RowsOfEvict
  pub ask : RowsOfAsk
  pub again : RowsOfAgain
  pub install : RowsOfInstall
