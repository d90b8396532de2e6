-- The rows of the table for the instructions that use no line: equations on concrete scenes, and what each row needs.
use Rattle.std.specs.Prelude.{◌≡◌, ℕ, ◌++◌, None, Some, [], ◌∷◌, true}
use Rattle.dash_base.specs.declared.end.End.TheVariants.{Exited, Trapped}
use Rattle.dash_base.specs.declared.end.Trap.TheVariants.{Break}
use Rattle.dash_event.specs.declared.event.Kind.{Kind}
use Rattle.dash_event.specs.declared.event.Kind.TheVariants as kind
use Rattle.dash_msg.specs.declared.msg.Msg.{Msg}
use Rattle.dash_msg.specs.declared.msg.Msg.TheVariants.{Read, ReadEx, LockAsk, Unlock}
use Rattle.dash_base.specs.declared.need.HintKind.{HintKind}
use Rattle.dash_base.specs.declared.need.HintKind.TheVariants.{Exclusive, Shared}
use Rattle.hart_core.specs.HartState.{HartState}
use Rattle.dash_base.specs.declared.need.Need.TheVariants as needed
use Rattle.dash_model.specs.Config.{hart_id}
use Rattle.dash_model.specs.Net.{to}
use Rattle.dash_model.specs.Cell.{Held, Asked, Reads, Owns, Counting}
use Rattle.dash_model.specs.Machine.{Machine, Step, after}
use Rattle.dash_model.specs.TableParts.{Scene, empty, outcome, Makes, May, Never, at, new, hart_with, calm, config_of, Becomes, line}
use Rattle.dash_model.specs.TableCode.{addi, fence_writes, fence_reads, prefetch_i, prefetch_r, prefetch_w, prefetch_outside, ecall, ebreak, lw, lock, unlock, half}

-- an addition retires
abbrev pub alu_event : ℕ → Kind
alu_event pc = kind.Alu (hart_id 2) pc

-- Alu: of the hart's own cluster, at its pc, where its instruction is such a one, and it has neither ended nor spent its budget
pub record RowsOfAlu : Type 0 where
  pub it_may_happen : May 1 (alu_event 4096) (calm addi)
  pub it_retires : Becomes 1 (alu_event 4096) (calm addi) (λ next. record (calm addi) { core = next })
  pub never_of_a_hart_of_another_cluster : Never 2 (alu_event 4096) (calm addi)
  pub never_at_another_pc : Never 1 (alu_event 4100) (calm addi)
  pub never_of_a_load : Never 1 (alu_event 4096) (calm lw)
  pub never_after_the_end : Never 1 (alu_event 4096) (record (calm addi) { core = record (hart_with 93) { end = Exited 0 } })
  pub never_past_the_budget : Never 1 (alu_event 4096) (record (calm addi) { core = record (hart_with 93) { retired = 9 } })

-- a fence retires
abbrev pub fence_event : Kind
fence_event = kind.Fence (hart_id 2) 4096

-- line 22 is pending, and its acknowledgements are owed to hart 2
abbrev pub owing : Scene → Scene
owing s = record s { other = record empty { acks = Counting 0 (2 ∷ []) } }

-- they are owed to hart 3 alone
abbrev pub owing_beside : Scene → Scene
owing_beside s = record s { other = record empty { acks = Counting 0 (3 ∷ []) } }

-- Fence: one that waits needs that no store waits and nothing is owed to the hart
pub record RowsOfFence : Type 0 where
  pub it_may_happen : May 1 fence_event (calm fence_writes)
  pub it_retires : Becomes 1 fence_event (calm fence_writes) (λ next. record (calm fence_writes) { core = next })
  pub also_where_another_hart_is_owed : May 1 fence_event (owing_beside (calm fence_writes))
  pub never_while_a_store_waits : Never 1 fence_event (record (calm fence_writes) { buffer = half ∷ [] })
  pub never_while_it_is_owed_an_acknowledgement : Never 1 fence_event (owing (calm fence_writes))
  pub one_that_passes_needs_neither : May 1 fence_event (owing (record (calm fence_reads) { buffer = half ∷ [] }))
  pub never_of_an_addition : Never 1 fence_event (calm addi)

-- a prefetch that opens slot 4, which is the only prefetch slot
abbrev pub with_slot_4 : Kind
with_slot_4 = kind.Hint (hart_id 2) 4096 (Some 4)

-- a prefetch that opens no slot
abbrev pub without_slot : Kind
without_slot = kind.Hint (hart_id 2) 4096 None

-- what a prefetch makes, where its instruction needs this
abbrev pub Prefetches : HintKind → ℕ → Kind → Scene → (HartState → Scene) → Msg → Type 0
Prefetches what address k s made sent =
    (next : HartState) → outcome 1 k (record { need = needed.Hint what address; next = next }) s ≡ record { scene = made next; sent = to 2 sent ∷ [] }

-- hart 3's prefetch is under way, of line 22, in the only prefetch slot of the cluster
abbrev pub slot_taken : Scene → Scene
slot_taken s = record s { other = record empty { slot = Reads 4 3 Asked } }

-- line 22 is pending, so that the acknowledgements have no room
abbrev pub acks_full : Scene → Scene
acks_full s = record s { other = record empty { acks = Counting 0 [] } }

-- Hint: the slot is the one that the prefetch opens, and none where it opens none
pub record RowsOfHint : Type 0 where
  pub one_for_reads_opens_a_slot : May 1 with_slot_4 (calm prefetch_r)
  pub so_it_does_open_it : Never 1 without_slot (calm prefetch_r)
  pub the_slot_asks_to_read : Prefetches Shared 96 with_slot_4 (calm prefetch_r) (λ next. record (calm prefetch_r) { core = next; slot = Reads 4 2 Asked }) (Read line)
  pub one_for_writes_opens_a_slot : May 1 with_slot_4 (calm prefetch_w)
  pub the_slot_asks_to_own : Prefetches Exclusive 96 with_slot_4 (calm prefetch_w) (λ next. record (calm prefetch_w) { core = next; slot = Owns 4 2 Asked; acks = Counting 0 [] }) (ReadEx line)
  pub without_a_slot_it_retires : Becomes 1 without_slot (calm prefetch_i) (λ next. record (calm prefetch_i) { core = next })
  pub never_by_another_slot : Never 1 (kind.Hint (hart_id 2) 4096 (Some 5)) (calm prefetch_r)
  pub never_by_a_front_slot : Never 1 (kind.Hint (hart_id 2) 4096 (Some 0)) (calm prefetch_r)
  pub one_for_fetches_opens_none : May 1 without_slot (calm prefetch_i)
  pub never_by_a_slot_for_fetches : Never 1 with_slot_4 (calm prefetch_i)
  pub one_outside_memory_opens_none : May 1 without_slot (calm prefetch_outside)
  pub never_by_a_slot_outside_memory : Never 1 with_slot_4 (calm prefetch_outside)
  pub one_of_a_line_in_a_slot_opens_none : May 1 without_slot (record (calm prefetch_r) { slot = Reads 0 2 Asked })
  pub never_of_a_line_in_a_slot : Never 1 with_slot_4 (record (calm prefetch_r) { slot = Reads 0 2 Asked })
  pub one_without_an_empty_slot_opens_none : May 1 without_slot (slot_taken (calm prefetch_r))
  pub never_by_a_slot_that_is_taken : Never 1 with_slot_4 (slot_taken (calm prefetch_r))
  pub one_for_reads_of_a_line_that_is_there_opens_none : May 1 without_slot (record (calm prefetch_r) { copy = Held (3 ∷ []) None new })
  pub never_for_reads_of_a_line_that_is_there : Never 1 with_slot_4 (record (calm prefetch_r) { copy = Held (3 ∷ []) None new })
  pub one_for_writes_opens_a_slot_beside_a_copy : May 1 with_slot_4 (record (calm prefetch_w) { copy = Held (3 ∷ []) None new })
  pub one_for_writes_of_a_line_with_an_owner_opens_none : May 1 without_slot (record (calm prefetch_w) { copy = Held (3 ∷ []) (Some 3) new })
  pub never_for_writes_of_a_line_with_an_owner : Never 1 with_slot_4 (record (calm prefetch_w) { copy = Held (3 ∷ []) (Some 3) new })
  pub one_for_writes_without_room_for_acknowledgements_opens_none : May 1 without_slot (acks_full (calm prefetch_w))
  pub never_for_writes_without_room_for_acknowledgements : Never 1 with_slot_4 (acks_full (calm prefetch_w))
  pub one_for_reads_needs_no_such_room : May 1 with_slot_4 (acks_full (calm prefetch_r))

-- a byte for the console
abbrev pub put_event : ℕ → Kind
put_event byte = kind.Put (hart_id 2) 4096 byte

-- a call that puts a byte
abbrev pub putting : Scene
putting = record (calm ecall) { core = hart_with 1 }

-- Put: the low byte of a0 joins the console
pub record RowsOfPut : Type 0 where
  pub it_may_happen : May 1 (put_event 65) putting
  pub it_retires : Becomes 1 (put_event 65) putting (λ next. record putting { core = next })
  pub never_of_another_byte : Never 1 (put_event 66) putting
  pub never_of_a_call_that_ends : Never 1 (put_event 65) (calm ecall)
  pub the_byte_joins_the_console : (m : Machine) (g : Step) → g.event.kind ≡ put_event 65 → (after (config_of ecall) m g).console ≡ m.console ++ 65 ∷ []

-- Stop: an exit or a trap
pub record RowsOfStop : Type 0 where
  pub an_exit_may_happen : May 1 (kind.Stop (hart_id 2) 4096 (Exited 65)) (calm ecall)
  pub a_trap_may_happen : May 1 (kind.Stop (hart_id 2) 4096 (Trapped Break 0)) (calm ebreak)
  pub the_end_is_set : Becomes 1 (kind.Stop (hart_id 2) 4096 (Exited 65)) (calm ecall) (λ next. record (calm ecall) { core = next })
  pub never_with_another_code : Never 1 (kind.Stop (hart_id 2) 4096 (Exited 66)) (calm ecall)
  pub never_of_an_addition : Never 1 (kind.Stop (hart_id 2) 4096 (Exited 65)) (calm addi)

-- the message of a lock instruction
abbrev pub asking : ℕ → Kind
asking number = kind.LockSend (hart_id 2) (LockAsk (hart_id 2) number (at 65536) 7)

-- the message that gives the word back
abbrev pub giving_back : Kind
giving_back = kind.LockSend (hart_id 2) (Unlock (hart_id 2) 4 (at 65536))

-- LockSend: once for each lock instruction; and of an Unlock where no store waits and nothing is owed to the hart
pub record RowsOfLockSend : Type 0 where
  pub an_ask_may_be_sent : May 1 (asking 4) (calm lock)
  pub also_with_stores_that_wait_and_what_is_owed : May 1 (asking 4) (owing (record (calm lock) { buffer = half ∷ [] }))
  pub it_goes_to_the_home_of_the_word : Makes 1 (asking 4) (calm lock) (record (calm lock) { asked = true }) (to 0 (LockAsk (hart_id 2) 4 (at 65536) 7) ∷ [])
  pub never_twice : Never 1 (asking 4) (record (calm lock) { asked = true })
  pub never_with_another_number : Never 1 (asking 5) (calm lock)
  pub never_of_an_addition : Never 1 (asking 4) (calm addi)
  pub never_at_another_cluster : Never 2 (asking 4) (calm lock)
  pub an_unlock_may_be_sent : May 1 giving_back (calm unlock)
  pub it_goes_there_too : Makes 1 giving_back (calm unlock) (record (calm unlock) { asked = true }) (to 0 (Unlock (hart_id 2) 4 (at 65536)) ∷ [])
  pub an_unlock_never_twice : Never 1 giving_back (record (calm unlock) { asked = true })
  pub an_unlock_never_while_a_store_waits : Never 1 giving_back (record (calm unlock) { buffer = half ∷ [] })
  pub an_unlock_never_while_its_hart_is_owed : Never 1 giving_back (owing (calm unlock))
  pub an_unlock_where_another_hart_is_owed : May 1 giving_back (owing_beside (calm unlock))

-- these rows
pub record RowsOfHarts : Type 0 where
  pub alu : RowsOfAlu
  pub fence : RowsOfFence
  pub hint : RowsOfHint
  pub put : RowsOfPut
  pub stop : RowsOfStop
  pub lock_send : RowsOfLockSend
