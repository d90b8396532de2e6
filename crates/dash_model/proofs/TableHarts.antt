-- The rows of the table for the instructions that use no line.
use Rattle.std.proofs.Common.{◌≡◌, inl, inr, ℕ, ◌≤◌, ◌<◌, ◌==◌, true, false, Option, refl, subst, arith}
use Rattle.std.proofs.lemmas.Bool.Decides.{nat_tests}
use Rattle.dash_base.specs.declared.need.HintKind.{HintKind}
use Rattle.dash_base.specs.declared.need.HintKind.TheVariants.{Fetch, Shared, Exclusive}
use Rattle.dash_base.specs.declared.end.End.TheVariants.{Exited, Trapped}
use Rattle.dash_base.specs.declared.end.Trap.TheVariants.{Break}
use Rattle.hart_core.specs.Meaning.{Needs}
use Rattle.dash_base.specs.declared.need.Need.{Need}
use Rattle.dash_base.specs.declared.need.Need.TheVariants as needed
use Rattle.hart_core.proofs.LawsOffered.{one_need}
use Rattle.dash_msg.specs.declared.msg.Msg.{Msg}
use Rattle.dash_model.specs.Maps.{member}
use Rattle.dash_model.specs.Config.{Config}
use Rattle.dash_model.specs.Part.{Part}
use Rattle.dash_model.specs.Words.{owes, numbered}
use Rattle.dash_model.specs.HartRows.{HartEffect}
use Rattle.dash_model.specs.HartGuards.{FenceFits, HintFits, SlotIs, Drained, LockSendFits, LockSends}
use Rattle.dash_model.specs.Row.{row}
use Rattle.dash_model.specs.Guard.{Guard}
use Rattle.dash_model.specs.TableParts.{at}
use Rattle.dash_model.specs.TableHarts.{RowsOfAlu, RowsOfFence, RowsOfHint, RowsOfPut, RowsOfStop, RowsOfLockSend, RowsOfHarts}
use Rattle.dash_model.proofs.TableCode as code
use Rattle.dash_model.proofs.TableCode.{doing, putting, need_of}
use Rattle.dash_model.proofs.TableCells.{chosen, nothing_pending, room_for_acks, no_room_for_acks}

alu : RowsOfAlu
unfolding row Guard
alu = record {
  it_may_happen = (doing code.addi needed.Alu 0, record { retires = record { mine = refl; need_is = refl; does = code.does_addi 0 }; pc_is = refl });
  it_retires = λ d. refl;
  never_of_a_hart_of_another_cluster = λ d g. let e = g.retires.mine in omega arith;
  never_at_another_pc = λ d g. let e = g.pc_is in omega arith;
  never_of_a_load = λ d g. let e = need_of g.retires code.needs_lw in cc;
  never_after_the_end = λ d g. let e = g.retires.does.goes in cc;
  never_past_the_budget = λ d g. let e = g.retires.does.goes in cc;
}

-- a fence that waits needs both
waits : {w : Config} {c h pc : ℕ} {d : HartEffect} {p : Part} → FenceFits w c h pc d p → Needs w.image w.top (p.harts h).core (needed.Fence true) → Drained h p
waits g n = elim g.passes [ inl e ↦ let m = need_of g.next.retires n in absurd (cc) | inr r ↦ r ]

fence : RowsOfFence
unfolding row Guard member
fence = record {
  it_may_happen = (doing code.fence_writes (needed.Fence true) 0, record { waits = true; next = record { retires = record { mine = refl; need_is = refl; does = code.does_fence_writes 0 }; pc_is = refl }; passes = inr (record { buffer = refl; unowed = λ l. chosen (λ x. owes 2 x.acks) (l == 6) (l == 22) (l == 7) _ _ _ _ _ refl refl refl refl }) });
  it_retires = λ d. refl;
  also_where_another_hart_is_owed = (doing code.fence_writes (needed.Fence true) 0, record { waits = true; next = record { retires = record { mine = refl; need_is = refl; does = code.does_fence_writes 0 }; pc_is = refl }; passes = inr (record { buffer = refl; unowed = λ l. chosen (λ x. owes 2 x.acks) (l == 6) (l == 22) (l == 7) _ _ _ _ _ refl refl refl refl }) });
  never_while_a_store_waits = λ d g. let e = (waits g code.needs_fence_writes).buffer in cc;
  never_while_it_is_owed_an_acknowledgement = λ d g. let e = (waits g code.needs_fence_writes).unowed 22 in cc;
  one_that_passes_needs_neither = (doing code.fence_reads (needed.Fence false) 0, record { waits = false; next = record { retires = record { mine = refl; need_is = refl; does = code.does_fence_reads 0 }; pc_is = refl }; passes = inl refl });
  never_of_an_addition = λ d g. let e = need_of g.next.retires code.needs_addi in cc;
}

-- the slot is what the instruction's kind and address say
slot_by : (w : Config) (a b : HintKind) (x y : ℕ) (slot : Option ℕ) (p : Part) → needed.Hint a x ≡ needed.Hint b y → SlotIs w a x slot p → SlotIs w b y slot p
slot_by w a b x y slot p e s =
    let k : a ≡ b = cc in let n : x ≡ y = cc in subst (λ i. SlotIs w b i slot p) n (subst (λ i. SlotIs w i x slot p) k s)

slot_of : {w : Config} {c h pc y : ℕ} {slot : Option ℕ} {b : HintKind} {d : HartEffect} {p : Part} → HintFits w c h pc slot d p → Needs w.image w.top (p.harts h).core (needed.Hint b y) → SlotIs w b y slot p
slot_of g n = slot_by _ _ _ _ _ _ _ (need_of g.next.retires n) g.opens

-- there is one prefetch slot
between : (m : ℕ) → 4 ≤ m → m < 4 → ⊥
between m a b = omega arith

only_slot : (n : ℕ) → 4 ≤ n → n < 5 → (4 == n) ≡ false → ⊥
only_slot n a b e = grind (arith, nat_tests)

hint : RowsOfHint
unfolding row Guard
hint = record {
  one_for_reads_opens_a_slot = (doing code.prefetch_r (needed.Hint Shared 96) 0, record { kinds = Shared; address = 96; next = record { retires = record { mine = refl; need_is = refl; does = code.does_prefetch_r 0 }; pc_is = refl }; opens = record { inside = refl; lone = refl; slot = record { from = omega arith; below = omega arith; empty = λ l. chosen (λ x. numbered 4 x.slot) (l == 6) (l == 22) (l == 7) _ _ _ _ _ refl refl refl refl; least = λ m a b n. between m a b }; kinds = refl } });
  so_it_does_open_it = λ d g. let s = slot_of g code.needs_prefetch_r in s 4 (record { inside = refl; lone = refl; slot = record { from = omega arith; below = omega arith; empty = λ l. chosen (λ x. numbered 4 x.slot) (l == 6) (l == 22) (l == 7) _ _ _ _ _ refl refl refl refl; least = λ m a b n. between m a b }; kinds = refl });
  the_slot_asks_to_read = λ next. refl;
  one_for_writes_opens_a_slot = (doing code.prefetch_w (needed.Hint Exclusive 96) 0, record { kinds = Exclusive; address = 96; next = record { retires = record { mine = refl; need_is = refl; does = code.does_prefetch_w 0 }; pc_is = refl }; opens = record { inside = refl; lone = refl; slot = record { from = omega arith; below = omega arith; empty = λ l. chosen (λ x. numbered 4 x.slot) (l == 6) (l == 22) (l == 7) _ _ _ _ _ refl refl refl refl; least = λ m a b n. between m a b }; kinds = (refl, room_for_acks _ _ (λ l. nothing_pending (l == 6) (l == 22) (l == 7) _ _ _ refl refl refl)) } });
  the_slot_asks_to_own = λ next. refl;
  without_a_slot_it_retires = λ d. refl;
  never_by_another_slot = λ d g. let s = slot_of g code.needs_prefetch_r in let e = s.slot.below in omega arith;
  never_by_a_front_slot = λ d g. let s = slot_of g code.needs_prefetch_r in let e = s.slot.from in omega arith;
  one_for_fetches_opens_none = (doing code.prefetch_i (needed.Hint Fetch 96) 0, record { kinds = Fetch; address = 96; next = record { retires = record { mine = refl; need_is = refl; does = code.does_prefetch_i 0 }; pc_is = refl }; opens = λ n o. o.kinds });
  never_by_a_slot_for_fetches = λ d g. let s = slot_of g code.needs_prefetch_i in s.kinds;
  one_outside_memory_opens_none = (doing code.prefetch_outside (needed.Hint Exclusive 65536) 0, record { kinds = Exclusive; address = 65536; next = record { retires = record { mine = refl; need_is = refl; does = code.does_prefetch_outside 0 }; pc_is = refl }; opens = λ n o. let e = o.inside in cc });
  never_by_a_slot_outside_memory = λ d g. let s = slot_of g code.needs_prefetch_outside in let e = s.inside in cc;
  one_of_a_line_in_a_slot_opens_none = (doing code.prefetch_r (needed.Hint Shared 96) 0, record { kinds = Shared; address = 96; next = record { retires = record { mine = refl; need_is = refl; does = code.does_prefetch_r 0 }; pc_is = refl }; opens = λ n o. let e = o.lone in cc });
  never_of_a_line_in_a_slot = λ d g. let s = slot_of g code.needs_prefetch_r in let e = s.lone in cc;
  one_without_an_empty_slot_opens_none = (doing code.prefetch_r (needed.Hint Shared 96) 0, record { kinds = Shared; address = 96; next = record { retires = record { mine = refl; need_is = refl; does = code.does_prefetch_r 0 }; pc_is = refl }; opens = λ n o. only_slot n o.slot.from o.slot.below (o.slot.empty 22) });
  never_by_a_slot_that_is_taken = λ d g. let s = slot_of g code.needs_prefetch_r in only_slot 4 s.slot.from s.slot.below (s.slot.empty 22);
  one_for_reads_of_a_line_that_is_there_opens_none = (doing code.prefetch_r (needed.Hint Shared 96) 0, record { kinds = Shared; address = 96; next = record { retires = record { mine = refl; need_is = refl; does = code.does_prefetch_r 0 }; pc_is = refl }; opens = λ n o. let e = o.kinds in cc });
  never_for_reads_of_a_line_that_is_there = λ d g. let s = slot_of g code.needs_prefetch_r in let e = s.kinds in cc;
  one_for_writes_opens_a_slot_beside_a_copy = (doing code.prefetch_w (needed.Hint Exclusive 96) 0, record { kinds = Exclusive; address = 96; next = record { retires = record { mine = refl; need_is = refl; does = code.does_prefetch_w 0 }; pc_is = refl }; opens = record { inside = refl; lone = refl; slot = record { from = omega arith; below = omega arith; empty = λ l. chosen (λ x. numbered 4 x.slot) (l == 6) (l == 22) (l == 7) _ _ _ _ _ refl refl refl refl; least = λ m a b n. between m a b }; kinds = (refl, room_for_acks _ _ (λ l. nothing_pending (l == 6) (l == 22) (l == 7) _ _ _ refl refl refl)) } });
  one_for_writes_of_a_line_with_an_owner_opens_none = (doing code.prefetch_w (needed.Hint Exclusive 96) 0, record { kinds = Exclusive; address = 96; next = record { retires = record { mine = refl; need_is = refl; does = code.does_prefetch_w 0 }; pc_is = refl }; opens = λ n o. let e = o.kinds.0 in cc });
  never_for_writes_of_a_line_with_an_owner = λ d g. let s = slot_of g code.needs_prefetch_w in let e = s.kinds.0 in cc;
  one_for_writes_without_room_for_acknowledgements_opens_none = (doing code.prefetch_w (needed.Hint Exclusive 96) 0, record { kinds = Exclusive; address = 96; next = record { retires = record { mine = refl; need_is = refl; does = code.does_prefetch_w 0 }; pc_is = refl }; opens = λ n o. no_room_for_acks _ _ 22 (omega arith) (omega arith) o.kinds.1 });
  never_for_writes_without_room_for_acknowledgements = λ d g. let s = slot_of g code.needs_prefetch_w in no_room_for_acks _ _ 22 (omega arith) (omega arith) s.kinds.1;
  one_for_reads_needs_no_such_room = (doing code.prefetch_r (needed.Hint Shared 96) 0, record { kinds = Shared; address = 96; next = record { retires = record { mine = refl; need_is = refl; does = code.does_prefetch_r 0 }; pc_is = refl }; opens = record { inside = refl; lone = refl; slot = record { from = omega arith; below = omega arith; empty = λ l. chosen (λ x. numbered 4 x.slot) (l == 6) (l == 22) (l == 7) _ _ _ _ _ refl refl refl refl; least = λ m a b n. between m a b }; kinds = refl } });
}

one_byte : (a b : ℕ) → needed.Put a ≡ needed.Put b → a ≡ b
one_byte a b e = cc

one_code : (a b : ℕ) → needed.Stop (Exited a) ≡ needed.Stop (Exited b) → a ≡ b
one_code a b e = cc

put : RowsOfPut
unfolding row Guard
put = record {
  it_may_happen = (code.putting, record { retires = record { mine = refl; need_is = refl; does = code.does_put }; pc_is = refl });
  it_retires = λ d. refl;
  never_of_another_byte = λ d g. let e = one_byte 66 65 (need_of g.retires code.needs_put) in omega arith;
  never_of_a_call_that_ends = λ d g. let e = need_of g.retires code.needs_ecall in cc;
  the_byte_joins_the_console = λ m g e. rw e refl;
}

stop : RowsOfStop
unfolding row Guard
stop = record {
  an_exit_may_happen = (doing code.ecall (needed.Stop (Exited 65)) 0, record { retires = record { mine = refl; need_is = refl; does = code.does_ecall 0 }; pc_is = refl });
  a_trap_may_happen = (doing code.ebreak (needed.Stop (Trapped Break 0)) 0, record { retires = record { mine = refl; need_is = refl; does = code.does_ebreak 0 }; pc_is = refl });
  the_end_is_set = λ d. refl;
  never_with_another_code = λ d g. let e = one_code 66 65 (need_of g.retires code.needs_ecall) in omega arith;
  never_of_an_addition = λ d g. let e = need_of g.retires code.needs_addi in cc;
}

-- what is sent is what the instruction says
sends : {w : Config} {c h : ℕ} {m : Msg} {p : Part} {need : Need} → LockSendFits w c h m p → Needs w.image w.top (p.harts h).core need → LockSends h m need p
sends {h = h} {m = m} {p = p} g n = subst (λ x. LockSends h m x p) (one_need _ _ _ _ _ g.needs n) g.sends

lock_send : RowsOfLockSend
unfolding row Guard member
lock_send = record {
  an_ask_may_be_sent = (code.nothing, record { mine = refl; need = needed.Ask (at 65536) 7; needs = code.needs_lock; unsent = refl; sends = refl });
  also_with_stores_that_wait_and_what_is_owed = (code.nothing, record { mine = refl; need = needed.Ask (at 65536) 7; needs = code.needs_lock; unsent = refl; sends = refl });
  it_goes_to_the_home_of_the_word = λ d. refl;
  never_twice = λ d g. let e = g.unsent in cc;
  never_with_another_number = λ d g. let e = sends g code.needs_lock in cc;
  never_of_an_addition = λ d g. sends g code.needs_addi;
  never_at_another_cluster = λ d g. let e = g.mine in omega arith;
  an_unlock_may_be_sent = (code.nothing, record { mine = refl; need = needed.Unlock (at 65536); needs = code.needs_unlock; unsent = refl; sends = (refl, record { buffer = refl; unowed = λ l. chosen (λ x. owes 2 x.acks) (l == 6) (l == 22) (l == 7) _ _ _ _ _ refl refl refl refl }) });
  it_goes_there_too = λ d. refl;
  an_unlock_never_twice = λ d g. let e = g.unsent in cc;
  an_unlock_never_while_a_store_waits = λ d g. let e = (sends g code.needs_unlock).1.buffer in cc;
  an_unlock_never_while_its_hart_is_owed = λ d g. let e = (sends g code.needs_unlock).1.unowed 22 in cc;
  an_unlock_where_another_hart_is_owed = (code.nothing, record { mine = refl; need = needed.Unlock (at 65536); needs = code.needs_unlock; unsent = refl; sends = (refl, record { buffer = refl; unowed = λ l. chosen (λ x. owes 2 x.acks) (l == 6) (l == 22) (l == 7) _ _ _ _ _ refl refl refl refl }) });
}

pub rows_of_harts : RowsOfHarts
rows_of_harts = record { alu = alu; fence = fence; hint = hint; put = put; stop = stop; lock_send = lock_send }
