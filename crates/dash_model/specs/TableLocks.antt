-- The rows of the table for lock words: equations on concrete scenes, and what each row needs. The home of lock word 0, at address 65536, is cluster 0.
use Rattle.std.specs.Prelude.{ℕ, true, false, Some, List, [], ◌∷◌, ◌++◌}
use Rattle.dash_event.specs.declared.access.Op.TheVariants as op
use Rattle.dash_event.specs.declared.access.Seen.TheVariants as seen
use Rattle.dash_event.specs.declared.event.Kind.{Kind}
use Rattle.dash_event.specs.declared.event.Kind.TheVariants as kind
use Rattle.dash_msg.specs.declared.msg.Msg.TheVariants.{LockAsk, Unlock, LockGrant, UnlockAck}
use Rattle.dash_model.specs.Maps.{most}
use Rattle.dash_model.specs.Config.{hart_id, cluster_id}
use Rattle.dash_model.specs.Net.{to}
use Rattle.dash_model.specs.Part.{Waiter}
use Rattle.dash_model.specs.TableParts.{Scene, Makes, Leaves, May, Never, at, calm, Becomes}
use Rattle.dash_model.specs.TableCode.{addi, lock, unlock, release}
use Rattle.dash_model.specs.TableHome.{from}

-- hart 5, of cluster 2, asks for 7 with its fourth instruction
abbrev pub first : Waiter
first = record { hart = 5; number = 4; value = 7 }

-- hart 1, of cluster 0, asks for 9 with its second
abbrev pub second : Waiter
second = record { hart = 1; number = 2; value = 9 }

-- lock word 0 has this value and count, and these wait for it
abbrev pub locked : ℕ → ℕ → List Waiter → Scene
locked value count queue =
    record (calm addi) { lock = record { value = value; count = count; queue = queue } }

-- the access of hart h that takes the word
abbrev pub taking : ℕ → ℕ → ℕ → ℕ → Kind
taking h number value shown =
    kind.Grant (record { hart = hart_id h; number = number; op = op.Ask; labels = record { aq = true; rl = false }; word = at 65536; mask = 15; read = Some 0; written = Some value; seen = seen.Lock shown })

-- Grant: a lock word of this home is 0, and somebody waits for it
pub record RowsOfGrant : Type 0 where
  pub it_may_happen : May 0 (taking 5 4 7 8) (locked 0 8 (first ∷ second ∷ []))
  pub the_first_leaves_and_the_word_is_what_it_asked_for : Makes 0 (taking 5 4 7 8) (locked 0 8 (first ∷ second ∷ [])) (locked 7 9 (second ∷ [])) (to 2 (LockGrant (hart_id 5)) ∷ [])
  pub a_count_stays_at_its_greatest : Makes 0 (taking 5 4 7 most) (locked 0 most (first ∷ [])) (locked 7 most []) (to 2 (LockGrant (hart_id 5)) ∷ [])
  pub never_of_a_word_that_is_not_0 : Never 0 (taking 5 4 7 8) (locked 3 8 (first ∷ second ∷ []))
  pub never_where_nobody_waits : Never 0 (taking 5 4 7 8) (locked 0 8 [])
  pub never_to_the_second : Never 0 (taking 1 2 9 8) (locked 0 8 (first ∷ second ∷ []))
  pub never_with_another_value : Never 0 (taking 5 4 9 8) (locked 0 8 (first ∷ second ∷ []))
  pub never_with_another_count : Never 0 (taking 5 4 7 9) (locked 0 8 (first ∷ second ∷ []))
  pub never_away_from_the_home : Never 1 (taking 5 4 7 8) (locked 0 8 (first ∷ second ∷ []))

-- the access of hart h that gives the word at an address back
abbrev pub freeing : ℕ → ℕ → ℕ → ℕ → Kind
freeing h word value shown =
    kind.Free (cluster_id 2) (record { hart = hart_id h; number = 6; op = op.Unlock; labels = release; word = at word; mask = 15; read = Some value; written = Some 0; seen = seen.Lock shown })

-- Free: of a hart of the machine, and of a lock word of this home
pub record RowsOfFree : Type 0 where
  pub it_may_happen : May 0 (freeing 5 65536 3 8) (locked 3 8 (second ∷ []))
  pub the_word_is_0_and_its_hart_is_told_what_it_was : Makes 0 (freeing 5 65536 3 8) (locked 3 8 (second ∷ [])) (locked 0 9 (second ∷ [])) (to 2 (UnlockAck (hart_id 5) 3) ∷ [])
  pub a_count_stays_at_its_greatest : Makes 0 (freeing 5 65536 3 most) (locked 3 most []) (locked 0 most []) (to 2 (UnlockAck (hart_id 5) 3) ∷ [])
  pub also_of_a_word_that_is_0 : May 0 (freeing 5 65536 0 8) (locked 0 8 [])
  pub never_of_a_hart_that_is_not_there : Never 0 (freeing 8 65536 3 8) (locked 3 8 [])
  pub never_of_a_word_outside_the_lock_region : Never 0 (freeing 5 65540 3 8) (locked 3 8 [])
  pub never_of_an_address_within_a_word : Never 0 (freeing 5 65538 3 8) (locked 3 8 [])
  pub never_away_from_the_home : Never 1 (freeing 5 65536 3 8) (locked 3 8 [])
  pub never_with_another_value : Never 0 (freeing 5 65536 4 8) (locked 3 8 [])
  pub never_with_another_count : Never 0 (freeing 5 65536 3 9) (locked 3 8 [])

-- hart h asks for the word at an address
abbrev pub ask_of : ℕ → ℕ → Kind
ask_of h word = from 2 (LockAsk (hart_id h) 4 (at word) 7)

-- six that wait, where the machine has eight harts
abbrev pub six : List Waiter
six = second ∷ second ∷ second ∷ second ∷ second ∷ second ∷ []

-- LockAsk: the hart waits behind the others, of whom there are fewer than harts
pub record RowsOfLockAsk : Type 0 where
  pub it_waits_behind_the_others : Makes 0 (ask_of 5 65536) (locked 0 8 (second ∷ [])) (locked 0 8 (second ∷ first ∷ [])) []
  pub the_last_for_whom_there_is_room : Makes 0 (ask_of 5 65536) (locked 3 8 (second ∷ six)) (locked 3 8 (second ∷ six ++ first ∷ [])) []
  pub nothing_where_as_many_wait_as_there_are_harts : Leaves 0 (ask_of 5 65536) (locked 3 8 (second ∷ second ∷ six))
  pub nothing_of_a_hart_that_is_not_there : Leaves 0 (ask_of 8 65536) (locked 0 8 [])
  pub nothing_of_a_word_outside_the_lock_region : Leaves 0 (ask_of 5 65540) (locked 0 8 [])
  pub nothing_of_an_address_within_a_word : Leaves 0 (ask_of 5 65538) (locked 0 8 [])
  pub nothing_away_from_the_home : Leaves 1 (ask_of 5 65536) (locked 0 8 [])

-- hart h gives the word at an address back
abbrev pub unlock_of : ℕ → ℕ → Kind
unlock_of h word = from 2 (Unlock (hart_id h) 6 (at word))

-- Unlock: it is taken by Free, unless its hart or word is none of this home
pub record RowsOfUnlock : Type 0 where
  pub never_where_it_can_be_freed : Never 0 (unlock_of 5 65536) (locked 3 8 [])
  pub of_a_hart_that_is_not_there : May 0 (unlock_of 8 65536) (locked 3 8 [])
  pub of_a_word_that_is_none : May 0 (unlock_of 5 65540) (locked 3 8 [])
  pub away_from_its_home : May 1 (unlock_of 5 65536) (locked 3 8 [])
  pub then_nothing_happens : Leaves 0 (unlock_of 8 65536) (locked 3 8 [])
  pub nor_away_from_its_home : Leaves 1 (unlock_of 5 65536) (locked 3 8 [])

-- hart 2 waits for the answer to its lock instruction
abbrev pub sent : ℕ → Scene
sent word = record (calm word) { asked = true }

-- LockGrant and UnlockAck: a hart whose lock instruction was sent does it
pub record RowsOfLockAnswers : Type 0 where
  pub a_grant_may_be_taken : May 1 (from 0 (LockGrant (hart_id 2))) (sent lock)
  pub then_the_hart_retires : Becomes 1 (from 0 (LockGrant (hart_id 2))) (sent lock) (λ next. record (calm lock) { core = next })
  pub nothing_where_none_was_sent : Leaves 1 (from 0 (LockGrant (hart_id 2))) (calm lock)
  pub nothing_of_a_hart_of_another_cluster : Leaves 0 (from 0 (LockGrant (hart_id 2))) (sent lock)
  pub an_answer_to_an_unlock_may_be_taken : May 1 (from 0 (UnlockAck (hart_id 2) 3)) (sent unlock)
  pub then_its_hart_retires : Becomes 1 (from 0 (UnlockAck (hart_id 2) 3)) (sent unlock) (λ next. record (calm unlock) { core = next })
  pub nothing_of_an_unlock_where_none_was_sent : Leaves 1 (from 0 (UnlockAck (hart_id 2) 3)) (calm unlock)
  pub nothing_of_an_unlock_of_another_cluster : Leaves 0 (from 0 (UnlockAck (hart_id 2) 3)) (sent unlock)

-- these rows
pub record RowsOfLocks : Type 0 where
  pub grant : RowsOfGrant
  pub free : RowsOfFree
  pub lock_ask : RowsOfLockAsk
  pub unlock : RowsOfUnlock
  pub lock_answers : RowsOfLockAnswers
