-- The rows of the table for the instructions that access memory: equations on concrete scenes, and what each row needs.
use Rattle.std.specs.Prelude.{ℕ, None, Some, List, [], ◌∷◌}
use Rattle.dash_base.specs.declared.line.Line.{Line}
use Rattle.dash_event.specs.declared.access.Op.TheVariants as op
use Rattle.dash_event.specs.declared.access.Seen.{Seen}
use Rattle.dash_event.specs.declared.access.Seen.TheVariants as seen
use Rattle.dash_event.specs.declared.event.Kind.{Kind}
use Rattle.dash_event.specs.declared.event.Kind.TheVariants as kind
use Rattle.write_buffer.specs.declared.entry.Entry.{Entry as Stored}
use Rattle.dash_model.specs.Maps.{most}
use Rattle.dash_model.specs.Config.{hart_id, line_id}
use Rattle.dash_model.specs.Cell.{Held, Asked, Refused, Reads, Owns, Counting, Expects}
use Rattle.dash_model.specs.TableParts.{Scene, empty, Makes, May, Never, at, new, calm, Becomes, line}
use Rattle.dash_model.specs.TableCode.{access, addi, lw, sw, lr, sc, amoadd, amoadd_rl, loads, reserves, stores, adds, swaps, fails, plain, release, half, whole, far_away}
use Rattle.dash_model.specs.TableHarts.{owing, owing_beside}

-- hart 2 is the only holder of line 6, which has no owner, and its instruction is this
abbrev pub holding : ℕ → Scene
holding word = record (calm word) { copy = Held (2 ∷ []) None new }

-- hart 2 is its owner too
abbrev pub owning : ℕ → Scene
owning word = record (calm word) { copy = Held (2 ∷ []) (Some 2) new }

-- with stores that wait, the oldest first
abbrev pub waiting : List Stored → Scene → Scene
waiting stores s = record s { buffer = stores }

-- Load: from the newest store to the word that waits, where it has all bytes; or from the cluster's copy, where none waits and the hart is a holder
pub record RowsOfLoad : Type 0 where
  pub from_the_copy : May 1 (loads 2 2 (seen.Line 7)) (holding lw)
  pub then_the_line_enters_L1 : Becomes 1 (loads 2 2 (seen.Line 7)) (holding lw) (λ next. record (holding lw) { core = next; l1 = Some 6 })
  pub at_level_1_where_L1_has_it : May 1 (loads 1 2 (seen.Line 7)) (record (holding lw) { l1 = Some 6 })
  pub never_at_level_2_then : Never 1 (loads 2 2 (seen.Line 7)) (record (holding lw) { l1 = Some 6 })
  pub never_at_level_1_else : Never 1 (loads 1 2 (seen.Line 7)) (holding lw)
  pub never_of_what_another_hart_holds : Never 1 (loads 2 2 (seen.Line 7)) (record (holding lw) { copy = Held (3 ∷ []) None new })
  pub never_of_another_value : Never 1 (loads 2 3 (seen.Line 7)) (holding lw)
  pub never_of_another_version : Never 1 (loads 2 2 (seen.Line 6)) (holding lw)
  pub from_a_store_that_has_the_bytes : May 1 (loads 0 9 (seen.Own 2)) (waiting (whole ∷ []) (holding lw))
  pub from_the_newest_one : May 1 (loads 0 9 (seen.Own 2)) (waiting (half ∷ whole ∷ []) (holding lw))
  pub also_where_it_is_no_holder : May 1 (loads 0 9 (seen.Own 2)) (waiting (whole ∷ []) (calm lw))
  pub then_L1_stays_as_it_is : Becomes 1 (loads 0 9 (seen.Own 2)) (waiting (whole ∷ []) (holding lw)) (λ next. record (waiting (whole ∷ []) (holding lw)) { core = next })
  pub never_from_the_copy_past_a_store : Never 1 (loads 2 2 (seen.Line 7)) (waiting (whole ∷ []) (holding lw))
  pub never_while_a_store_has_some_of_the_bytes : (level value : ℕ) (shown : Seen) → Never 1 (loads level value shown) (waiting (whole ∷ half ∷ []) (holding lw))
  pub past_a_store_to_another_word : May 1 (loads 2 2 (seen.Line 7)) (waiting (far_away ∷ []) (holding lw))
  pub never_of_a_hart_of_another_cluster : Never 2 (loads 2 2 (seen.Line 7)) (holding lw)
  pub never_of_an_addition : Never 1 (loads 2 2 (seen.Line 7)) (holding addi)
  pub an_lr_from_the_copy : May 1 (reserves 2 2 (seen.Line 7)) (holding lr)
  pub then_the_word_is_reserved : Becomes 1 (reserves 2 2 (seen.Line 7)) (holding lr) (λ next. record (holding lr) { core = next; l1 = Some 6; reserved = Some 100 })
  pub an_lr_never_from_a_store : Never 1 (reserves 0 9 (seen.Own 2)) (waiting (whole ∷ []) (holding lr))
  pub an_lr_never_past_a_store : Never 1 (reserves 2 2 (seen.Line 7)) (waiting (whole ∷ []) (holding lr))
  pub an_lr_never_of_what_another_hart_holds : Never 1 (reserves 2 2 (seen.Line 7)) (record (holding lr) { copy = Held (3 ∷ []) None new })

-- what the store leaves in the buffer
abbrev pub stored : Stored
stored = record { number = 4; word = at 100; mask = 15; value = 7 }

-- Store: the buffer is not full
pub record RowsOfStore : Type 0 where
  pub it_may_happen : May 1 (stores 7) (waiting (half ∷ []) (calm sw))
  pub it_waits_behind_the_others : Becomes 1 (stores 7) (waiting (half ∷ []) (calm sw)) (λ next. record (calm sw) { core = next; buffer = half ∷ stored ∷ [] })
  pub never_into_a_full_buffer : Never 1 (stores 7) (waiting (half ∷ far_away ∷ []) (calm sw))
  pub never_of_another_value : Never 1 (stores 8) (calm sw)
  pub never_of_a_hart_of_another_cluster : Never 2 (stores 7) (calm sw)
  pub never_of_an_addition : Never 1 (stores 7) (calm addi)

-- hart 2 is the owner and only holder of a line of this content
abbrev pub with_line : Line → Scene → Scene
with_line content s = record s { copy = Held (2 ∷ []) (Some 2) content }

-- a commit of the store with this number, in line 6
abbrev pub commits : ℕ → ℕ → Kind
commits number version = kind.Commit (hart_id 2) number line version

-- the stores to half of the word at 100 and to a word of line 0 wait
abbrev pub ready : Scene
ready = waiting (half ∷ far_away ∷ []) (owning addi)

-- the line after the first of them
abbrev pub committed : Line
committed = record { words = 1 ∷ 9 ∷ 3 ∷ 4 ∷ []; version = 8 }

-- the scene afterwards
abbrev pub done : Scene
done = with_line committed (record ready { buffer = far_away ∷ [] })

-- Commit: of the oldest store, in state M
pub record RowsOfCommit : Type 0 where
  pub it_may_happen : May 1 (commits 1 8) ready
  pub the_next_version_has_the_store : Makes 1 (commits 1 8) ready done []
  pub it_may_happen_while_the_line_is_pending : May 1 (commits 1 8) (record ready { acks = Counting 0 [] })
  pub then_it_is_owed_the_acknowledgements : Makes 1 (commits 1 8) (record ready { acks = Expects 2 1 (3 ∷ []) }) (record done { acks = Expects 2 1 (2 ∷ 3 ∷ []) }) []
  pub also_where_it_is_not_known_how_many_come : Makes 1 (commits 1 8) (record ready { acks = Counting 1 [] }) (record done { acks = Counting 1 (2 ∷ []) }) []
  pub a_version_stays_at_its_greatest : Makes 1 (commits 1 most) (with_line (record new { version = most }) ready) (with_line (record committed { version = most }) done) []
  pub never_without_an_owner : Never 1 (commits 1 8) (record ready { copy = Held (2 ∷ []) None new })
  pub never_beside_another_holder : Never 1 (commits 1 8) (record ready { copy = Held (2 ∷ 3 ∷ []) (Some 2) new })
  pub never_where_another_hart_owns : Never 1 (commits 1 8) (record ready { copy = Held (3 ∷ []) (Some 3) new })
  pub never_where_no_store_waits : Never 1 (commits 1 8) (record ready { buffer = [] })
  pub never_of_a_store_that_is_not_the_oldest : Never 1 (commits 1 8) (record ready { buffer = far_away ∷ half ∷ [] })
  pub never_of_a_store_in_another_line : Never 1 (commits 3 8) (record ready { buffer = far_away ∷ [] })
  pub never_with_another_number : Never 1 (commits 3 8) ready
  pub never_as_another_version : Never 1 (commits 1 9) ready
  pub never_of_a_hart_of_another_cluster : Never 2 (commits 1 8) ready

-- the line after an SC that writes 7
abbrev pub swapped : Line
swapped = record { words = 1 ∷ 7 ∷ 3 ∷ 4 ∷ []; version = 8 }

-- Rmw: state M, the line is not pending, and no store to the word waits; with rl no store waits and nothing is owed to the hart; an SC needs its reservation
pub record RowsOfRmw : Type 0 where
  pub it_may_happen : May 1 (adds plain 2 9 8) (owning amoadd)
  pub the_next_version_has_the_sum : Becomes 1 (adds plain 2 9 8) (record (owning amoadd) { reserved = Some 104 }) (λ next. with_line committed (record (owning amoadd) { core = next; reserved = Some 104 }))
  pub past_a_store_to_another_word : May 1 (adds plain 2 9 8) (waiting (far_away ∷ []) (owning amoadd))
  pub also_while_it_is_owed_an_acknowledgement : May 1 (adds plain 2 9 8) (owing (owning amoadd))
  pub never_without_an_owner : Never 1 (adds plain 2 9 8) (holding amoadd)
  pub never_beside_another_holder : Never 1 (adds plain 2 9 8) (record (owning amoadd) { copy = Held (2 ∷ 3 ∷ []) (Some 2) new })
  pub never_of_a_pending_line : Never 1 (adds plain 2 9 8) (record (owning amoadd) { acks = Expects 2 1 [] })
  pub never_past_a_store_to_the_word : Never 1 (adds plain 2 9 8) (waiting (half ∷ []) (owning amoadd))
  pub never_as_a_commit_of_another_line : Never 1 (kind.Rmw (access op.Amo plain (Some 2) (Some 9) (seen.Line 7)) (line_id 22) 8) (record (owning amoadd) { other = record empty { copy = Held (2 ∷ []) (Some 2) new } })
  pub never_of_another_value : Never 1 (adds plain 3 10 8) (owning amoadd)
  pub never_as_another_version : Never 1 (adds plain 2 9 9) (owning amoadd)
  pub never_of_a_hart_of_another_cluster : Never 2 (adds plain 2 9 8) (owning amoadd)
  pub never_of_an_addition : Never 1 (adds plain 2 9 8) (owning addi)
  pub a_release_may_happen : May 1 (adds release 2 9 8) (owning amoadd_rl)
  pub a_release_where_another_hart_is_owed : May 1 (adds release 2 9 8) (owing_beside (owning amoadd_rl))
  pub a_release_never_while_a_store_waits : Never 1 (adds release 2 9 8) (waiting (far_away ∷ []) (owning amoadd_rl))
  pub a_release_never_while_it_is_owed_an_acknowledgement : Never 1 (adds release 2 9 8) (owing (owning amoadd_rl))
  pub an_sc_on_its_reservation : May 1 swaps (record (owning sc) { reserved = Some 100 })
  pub then_the_reservation_is_gone : Becomes 1 swaps (record (owning sc) { reserved = Some 100 }) (λ next. with_line swapped (record (owning sc) { core = next }))
  pub an_sc_never_without_one : Never 1 swaps (owning sc)
  pub an_sc_never_on_another_word : Never 1 swaps (record (owning sc) { reserved = Some 104 })

-- ScFail: the word is not reserved, and the front slot is empty
pub record RowsOfScFail : Type 0 where
  pub without_a_reservation : May 1 fails (calm sc)
  pub with_one_of_another_word : May 1 fails (record (calm sc) { reserved = Some 104 })
  pub the_reservation_is_cleared : Becomes 1 fails (record (calm sc) { reserved = Some 104 }) (λ next. record (calm sc) { core = next })
  pub never_with_its_reservation : Never 1 fails (record (calm sc) { reserved = Some 100 })
  pub never_while_its_front_slot_is_open : Never 1 fails (record (calm sc) { slot = Owns 0 2 Refused })
  pub never_while_that_slot_has_another_line : Never 1 fails (record (calm sc) { other = record empty { slot = Reads 0 2 Asked } })
  pub also_while_another_slot_is_open : May 1 fails (record (calm sc) { slot = Owns 1 3 Asked })
  pub never_with_a_value : Never 1 (kind.ScFail (access op.Cond plain None (Some 7) seen.Nothing)) (calm sc)
  pub never_of_another_atomic_operation : Never 1 fails (calm amoadd)
  pub never_of_a_hart_of_another_cluster : Never 2 fails (calm sc)

-- these rows
pub record RowsOfAccesses : Type 0 where
  pub load : RowsOfLoad
  pub store : RowsOfStore
  pub commit : RowsOfCommit
  pub rmw : RowsOfRmw
  pub sc_fail : RowsOfScFail
