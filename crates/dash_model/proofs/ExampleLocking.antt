-- A hart takes a lock word and gives it back, puts a byte and exits.
use Rattle.dash_model.proofs.TableCode.{sc_is_not_lr, swap_is_not_lr}
use Rattle.std.proofs.Common.{inr, ◌≡◌, ℕ, zero, suc, ◌<◌, true, None, Some, List, [], ◌∷◌, map, refl, arith, pos}
use Rattle.dash_base.specs.declared.topology.Topology.{Topology}
use Rattle.dash_base.specs.declared.instr.Instr.{Instr}
use Rattle.dash_base.specs.declared.ops.AluOp.TheVariants.{Add}
use Rattle.dash_base.specs.declared.end.End.TheVariants.{Exited}
use Rattle.dash_base.specs.Words.{merged}
use Rattle.elf_load.specs.Image.{ImageView, fetched, word_among, byte_among, is_writable}
use Rattle.hart_core.specs.HartState.{HartState}
use Rattle.hart_core.specs.Opening.{opening_hart}
use Rattle.hart_core.specs.Meaning.{IsFound, Does, after_need}
use Rattle.hart_core.specs.declared.found.Found.TheVariants.{This}
use Rattle.dash_base.specs.declared.need.Need.{Need}
use Rattle.hart_core.proofs.LawsOffered.{needs_of}
use Rattle.write_buffer.specs.Look.{newest_of}
use Rattle.dash_msg.specs.declared.msg.Msg.TheVariants.{LockAsk, Unlock, LockGrant, UnlockAck}
use Rattle.dash_model.specs.Maps.{member, total, without, with_member}
use Rattle.dash_model.specs.Config.{Config, cluster_id, hart_id, lock_home}
use Rattle.dash_model.specs.Net.{head, tail, send}
use Rattle.dash_model.specs.Cell.{NoSlot, NoAcks}
use Rattle.dash_model.specs.HartRows.{HartEffect}
use Rattle.dash_model.specs.Requests.{invals_to}
use Rattle.dash_model.specs.Row.{row}
use Rattle.dash_model.specs.Guard.{Guard}
use Rattle.dash_model.specs.Machine.{Machine, Step, event_of, opening, CanHappen, after}
use Rattle.dash_model.specs.Complete.{IsSpent, IsStopped, Ended, IsQueued, IsComplete, hart_at, IsStatus, AfterAll, SomeTrapped, DidTrap}
use Rattle.dash_model.specs.Examples.{Example}
use Rattle.dash_model.specs.ExampleLogs.{word_addr, access, unlabelled, acquire, release}
use Rattle.dash_model.proofs.ExampleParts.{shape, step, plain, rises}
use Rattle.dash_base.specs.declared.instr.Instr.TheVariants as instr
use Rattle.dash_base.specs.declared.ops.AmoOp.TheVariants as amo
use Rattle.dash_base.specs.declared.need.Need.TheVariants as needed
use Rattle.dash_event.specs.declared.access.Op.TheVariants as op
use Rattle.dash_event.specs.declared.access.Seen.TheVariants as seen
use Rattle.dash_event.specs.declared.event.Kind.TheVariants as kind
use Rattle.dash_model.specs.ExampleLogs as log

abbrev top : Topology
top = shape 1 1 8 1 0 (record { low = omega arith; high = omega arith }) (record { low = omega arith; high = omega arith }) (record { low = omega arith; high = omega arith }) (omega arith) (omega arith) (omega arith) (record { low = omega arith; high = omega arith }) (omega arith)

-- addi a7,zero,1; fence w,w; sc.w t0,a1,(zero); amoswap.w.aq t1,a1,(sp); amoswap.w.rl zero,zero,(sp); ecall; addi a7,zero,93; ecall
abbrev image : ImageView
image = record { entry = 4096; segments = record { vaddr = 4096; memsz = 32; flags = 5; bytes = 147 ∷ 8 ∷ 16 ∷ 0 ∷ 15 ∷ 0 ∷ 16 ∷ 1 ∷ 175 ∷ 34 ∷ 176 ∷ 24 ∷ 47 ∷ 35 ∷ 177 ∷ 12 ∷ 47 ∷ 32 ∷ 1 ∷ 10 ∷ 115 ∷ 0 ∷ 0 ∷ 0 ∷ 147 ∷ 8 ∷ 208 ∷ 5 ∷ 115 ∷ 0 ∷ 0 ∷ 0 ∷ [] } ∷ [] }

abbrev config : Config
config = record { image = image; top = top }

abbrev put_next : Instr
put_next = instr.OpImm (record { op = Add; rd = 17; rs1 = 0; imm = pos 1; rd_in_range = omega arith; rs1_in_range = omega arith; imm_in_range = record { low = omega arith; high = omega arith }; has_form = refl })

found_put_next : IsFound image 4096 (This put_next)
unfolding fetched word_among byte_among
found_put_next = refl

abbrev fence : Instr
fence = instr.Fence (record { fm = 0; pred = 1; succ = 1; rd = 0; rs1 = 0; fm_in_range = omega arith; pred_in_range = omega arith; succ_in_range = omega arith; rd_in_range = omega arith; rs1_in_range = omega arith })

found_fence : IsFound image 4100 (This fence)
unfolding fetched word_among byte_among
found_fence = refl

abbrev store_cond : Instr
store_cond = instr.Amo (record { op = amo.Sc; labels = unlabelled; rd = 5; rs1 = 0; rs2 = 11; rd_in_range = omega arith; rs1_in_range = omega arith; rs2_in_range = omega arith; lr_has_no_source = λ e. absurd (sc_is_not_lr e) })

found_store_cond : IsFound image 4104 (This store_cond)
unfolding fetched word_among byte_among
found_store_cond = refl

abbrev ask : Instr
ask = instr.Amo (record { op = amo.Swap; labels = acquire; rd = 6; rs1 = 2; rs2 = 11; rd_in_range = omega arith; rs1_in_range = omega arith; rs2_in_range = omega arith; lr_has_no_source = λ e. absurd (swap_is_not_lr e) })

found_ask : IsFound image 4108 (This ask)
unfolding fetched word_among byte_among
found_ask = refl

abbrev unlock : Instr
unlock = instr.Amo (record { op = amo.Swap; labels = release; rd = 0; rs1 = 2; rs2 = 0; rd_in_range = omega arith; rs1_in_range = omega arith; rs2_in_range = omega arith; lr_has_no_source = λ e. absurd (swap_is_not_lr e) })

found_unlock : IsFound image 4112 (This unlock)
unfolding fetched word_among byte_among
found_unlock = refl

abbrev put : Instr
put = instr.Ecall

found_put : IsFound image 4116 (This put)
unfolding fetched word_among byte_among
found_put = refl

abbrev exit_next : Instr
exit_next = instr.OpImm (record { op = Add; rd = 17; rs1 = 0; imm = pos 93; rd_in_range = omega arith; rs1_in_range = omega arith; imm_in_range = record { low = omega arith; high = omega arith }; has_form = refl })

found_exit_next : IsFound image 4120 (This exit_next)
unfolding fetched word_among byte_among
found_exit_next = refl

abbrev exit : Instr
exit = instr.Ecall

found_exit : IsFound image 4124 (This exit)
unfolding fetched word_among byte_among
found_exit = refl

abbrev hart : HartState
hart = opening_hart image top 0

abbrev need4 : Need
need4 = needed.Ask (word_addr 65536) 1

abbrev need5 : Need
need5 = needed.Unlock (word_addr 65536)

abbrev did1 : HartEffect
did1 = record { need = needed.Alu; next = after_need hart (This put_next) needed.Alu 0 }

does1 : Does image top hart needed.Alu 0 did1.next
unfolding is_writable
does1 = record { goes = refl; found = This put_next; is_found = found_put_next; needs = refl; after = refl }

abbrev did2 : HartEffect
did2 = record { need = needed.Fence true; next = after_need did1.next (This fence) (needed.Fence true) 0 }

does2 : Does image top did1.next (needed.Fence true) 0 did2.next
unfolding is_writable
does2 = record { goes = refl; found = This fence; is_found = found_fence; needs = refl; after = refl }

abbrev did3 : HartEffect
did3 = record { need = needed.Rmw (word_addr 0) amo.Sc 1 unlabelled; next = after_need did2.next (This store_cond) (needed.Rmw (word_addr 0) amo.Sc 1 unlabelled) 1 }

does3 : Does image top did2.next (needed.Rmw (word_addr 0) amo.Sc 1 unlabelled) 1 did3.next
unfolding is_writable
does3 = record { goes = refl; found = This store_cond; is_found = found_store_cond; needs = refl; after = refl }

abbrev did4 : HartEffect
did4 = record { need = need4; next = after_need did3.next (This ask) need4 0 }

does4 : Does image top did3.next need4 0 did4.next
unfolding is_writable
does4 = record { goes = refl; found = This ask; is_found = found_ask; needs = refl; after = refl }

abbrev did5 : HartEffect
did5 = record { need = need5; next = after_need did4.next (This unlock) need5 1 }

does5 : Does image top did4.next need5 1 did5.next
unfolding is_writable
does5 = record { goes = refl; found = This unlock; is_found = found_unlock; needs = refl; after = refl }

abbrev did6 : HartEffect
did6 = record { need = needed.Put 0; next = after_need did5.next (This put) (needed.Put 0) 0 }

does6 : Does image top did5.next (needed.Put 0) 0 did6.next
unfolding is_writable
does6 = record { goes = refl; found = This put; is_found = found_put; needs = refl; after = refl }

abbrev did7 : HartEffect
did7 = record { need = needed.Alu; next = after_need did6.next (This exit_next) needed.Alu 0 }

does7 : Does image top did6.next needed.Alu 0 did7.next
unfolding is_writable
does7 = record { goes = refl; found = This exit_next; is_found = found_exit_next; needs = refl; after = refl }

abbrev did8 : HartEffect
did8 = record { need = needed.Stop (Exited 0); next = after_need did7.next (This exit) (needed.Stop (Exited 0)) 0 }

does8 : Does image top did7.next (needed.Stop (Exited 0)) 0 did8.next
unfolding is_writable
does8 = record { goes = refl; found = This exit; is_found = found_exit; needs = refl; after = refl }

abbrev s1 : Step
s1 = step 0 1 0 (kind.Alu (hart_id 0) 4096) did1

abbrev s2 : Step
s2 = step 0 2 0 (kind.Fence (hart_id 0) 4100) did2

abbrev s3 : Step
s3 = step 0 3 0 (kind.ScFail (access 0 3 op.Cond unlabelled 0 None None seen.Nothing)) did3

abbrev s4 : Step
s4 = step 0 4 0 (kind.LockSend (hart_id 0) (LockAsk (hart_id 0) 4 (word_addr 65536) 1)) plain

abbrev s5 : Step
s5 = step 0 5 4 (kind.Take (cluster_id 0) (LockAsk (hart_id 0) 4 (word_addr 65536) 1)) plain

abbrev s6 : Step
s6 = step 0 6 0 (kind.Grant (access 0 4 op.Ask acquire 65536 (Some 0) (Some 1) (seen.Lock 0))) plain

abbrev s7 : Step
s7 = step 0 7 6 (kind.Take (cluster_id 0) (LockGrant (hart_id 0))) did4

abbrev s8 : Step
s8 = step 0 8 0 (kind.LockSend (hart_id 0) (Unlock (hart_id 0) 5 (word_addr 65536))) plain

abbrev s9 : Step
s9 = step 0 9 8 (kind.Free (cluster_id 0) (access 0 5 op.Unlock release 65536 (Some 1) (Some 0) (seen.Lock 1))) plain

abbrev s10 : Step
s10 = step 0 10 9 (kind.Take (cluster_id 0) (UnlockAck (hart_id 0) 1)) did5

abbrev s11 : Step
s11 = step 0 11 0 (kind.Put (hart_id 0) 4116 0) did6

abbrev s12 : Step
s12 = step 0 12 0 (kind.Alu (hart_id 0) 4120) did7

abbrev s13 : Step
s13 = step 0 13 0 (kind.Stop (hart_id 0) 4124 (Exited 0)) did8

abbrev m1 : Machine
m1 = after config (opening config) s1

abbrev m2 : Machine
m2 = after config m1 s2

abbrev m3 : Machine
m3 = after config m2 s3

abbrev m4 : Machine
m4 = after config m3 s4

abbrev m5 : Machine
m5 = after config m4 s5

abbrev m6 : Machine
m6 = after config m5 s6

abbrev m7 : Machine
m7 = after config m6 s7

abbrev m8 : Machine
m8 = after config m7 s8

abbrev m9 : Machine
m9 = after config m8 s9

abbrev m10 : Machine
m10 = after config m9 s10

abbrev m11 : Machine
m11 = after config m10 s11

abbrev m12 : Machine
m12 = after config m11 s12

abbrev m13 : Machine
m13 = after config m12 s13

h1 : CanHappen config (opening config) s1
unfolding Guard row head tail send newest_of word_among byte_among merged member without with_member invals_to total
h1 = record { cluster = omega arith; head = tt; steps = record { cluster = refl; stamp = refl; guard = record { retires = record { mine = refl; need_is = refl; does = does1 }; pc_is = refl } } }

h2 : CanHappen config m1 s2
unfolding Guard row head tail send newest_of word_among byte_among merged member without with_member invals_to total
h2 = record { cluster = omega arith; head = tt; steps = record { cluster = refl; stamp = refl; guard = record { waits = true; next = record { retires = record { mine = refl; need_is = refl; does = does2 }; pc_is = refl }; passes = inr (record { buffer = refl; unowed = λ l. refl }) } } }

h3 : CanHappen config m2 s3
unfolding Guard row head tail send newest_of word_among byte_among merged member without with_member invals_to total
h3 = record { cluster = omega arith; head = tt; steps = record { cluster = refl; stamp = refl; guard = record { operand = 1; labels = unlabelled; next = record { mine = refl; need_is = refl; does = does3 }; unreserved = λ e. cc; front = λ l. refl; access = record { made = refl; seen_is = refl } } } }

h4 : CanHappen config m3 s4
unfolding Guard row head tail send newest_of word_among byte_among merged member without with_member invals_to total
h4 = record { cluster = omega arith; head = tt; steps = record { cluster = refl; stamp = refl; guard = record { mine = refl; need = need4; needs = needs_of _ _ _ _ _ _ does4; unsent = refl; sends = refl } } }

h5 : CanHappen config m4 s5
unfolding Guard row head tail send newest_of word_among byte_among merged member without with_member invals_to total
h5 = record { cluster = omega arith; head = refl; steps = record { cluster = refl; stamp = refl; guard = tt } }

h6 : CanHappen config m5 s6
unfolding Guard row head tail send newest_of word_among byte_among merged member without with_member invals_to total
h6 = record { cluster = omega arith; head = tt; steps = record { cluster = refl; stamp = refl; guard = record { mine = refl; is_zero = refl; waiter = record { hart = 0; number = 4; value = 1 }; others = []; queue = refl; access = record { made = refl; seen_is = refl } } } }

h7 : CanHappen config m6 s7
unfolding Guard row head tail send newest_of word_among byte_among merged member without with_member invals_to total
h7 = record { cluster = omega arith; head = refl; steps = record { cluster = refl; stamp = refl; guard = does4 } }

h8 : CanHappen config m7 s8
unfolding Guard row head tail send newest_of word_among byte_among merged member without with_member invals_to total
h8 = record { cluster = omega arith; head = tt; steps = record { cluster = refl; stamp = refl; guard = record { mine = refl; need = need5; needs = needs_of _ _ _ _ _ _ does5; unsent = refl; sends = (refl, record { buffer = refl; unowed = λ l. refl }) } } }

h9 : CanHappen config m8 s9
unfolding Guard row head tail send newest_of word_among byte_among merged member without with_member invals_to total
h9 = record { cluster = omega arith; head = refl; steps = record { cluster = refl; stamp = refl; guard = record { serves = refl; access = record { made = refl; seen_is = refl } } } }

h10 : CanHappen config m9 s10
unfolding Guard row head tail send newest_of word_among byte_among merged member without with_member invals_to total
h10 = record { cluster = omega arith; head = refl; steps = record { cluster = refl; stamp = refl; guard = does5 } }

h11 : CanHappen config m10 s11
unfolding Guard row head tail send newest_of word_among byte_among merged member without with_member invals_to total
h11 = record { cluster = omega arith; head = tt; steps = record { cluster = refl; stamp = refl; guard = record { retires = record { mine = refl; need_is = refl; does = does6 }; pc_is = refl } } }

h12 : CanHappen config m11 s12
unfolding Guard row head tail send newest_of word_among byte_among merged member without with_member invals_to total
h12 = record { cluster = omega arith; head = tt; steps = record { cluster = refl; stamp = refl; guard = record { retires = record { mine = refl; need_is = refl; does = does7 }; pc_is = refl } } }

h13 : CanHappen config m12 s13
unfolding Guard row head tail send newest_of word_among byte_among merged member without with_member invals_to total
h13 = record { cluster = omega arith; head = tt; steps = record { cluster = refl; stamp = refl; guard = record { retires = record { mine = refl; need_is = refl; does = does8 }; pc_is = refl } } }

idle0 : (l : ℕ) → (((m13.parts 0).cells l).slot ≡ NoSlot) × (((m13.parts 0).cells l).acks ≡ NoAcks)
unfolding Guard row head tail send newest_of word_among byte_among merged member without with_member invals_to total
idle0 l = (refl, refl)

idle : (c l : ℕ) → c < 1 → (((m13.parts c).cells l).slot ≡ NoSlot) × (((m13.parts c).cells l).acks ≡ NoAcks)
idle zero l h = idle0 l
idle (suc c) l h = absurd (omega arith)

buffers : (h : ℕ) → h < 1 → (hart_at config h m13).buffer ≡ []
unfolding Guard row head tail send newest_of word_among byte_among merged member without with_member invals_to total
buffers zero i = refl
buffers (suc h) i = absurd (omega arith)

trap_at : (h : ℕ) → h < 1 → DidTrap (hart_at config h m13).core.end → ⊥
unfolding Guard row head tail send newest_of word_among byte_among merged member without with_member invals_to total
trap_at zero i t = t
trap_at (suc h) i t = absurd (omega arith)

no_trap : SomeTrapped config m13 → ⊥
no_trap s = trap_at s.hart s.inside s.holds

spent_at : (h : ℕ) → h < 1 → IsSpent config h m13 → ⊥
unfolding Guard row head tail send newest_of word_among byte_among merged member without with_member invals_to total
spent_at zero i s = let e = s.running in cc
spent_at (suc h) i s = absurd (omega arith)

waits_at : (h i : ℕ) → i < 1 → IsQueued h ((m13.parts (lock_home config i)).locks i).queue → ⊥
unfolding Guard row head tail send newest_of word_among byte_among merged member without with_member invals_to total
waits_at h zero l q = q
waits_at h (suc i) l q = absurd (omega arith)

stands : (h : ℕ) → h < 1 → IsStopped config h m13
unfolding Guard row head tail send newest_of word_among byte_among merged member without with_member invals_to total
stands zero i = Ended refl
stands (suc h) i = absurd (omega arith)

complete : IsComplete config m13
unfolding Guard row head tail send newest_of word_among byte_among merged member without with_member invals_to total
complete = record { lanes = refl; buffers = buffers; slots = λ c l h. (idle c l h).0; acks = λ c l h. (idle c l h).1; harts = stands }

status : IsStatus config m13 0
unfolding Guard row head tail send newest_of word_among byte_among merged member without with_member invals_to total
status = AfterAll no_trap (λ s. spent_at s.hart s.inside s.holds) (λ s. waits_at s.hart s.holds.word s.holds.inside s.holds.queued)

abbrev steps : List Step
steps = s1 ∷ s2 ∷ s3 ∷ s4 ∷ s5 ∷ s6 ∷ s7 ∷ s8 ∷ s9 ∷ s10 ∷ s11 ∷ s12 ∷ s13 ∷ []

pub locking : Example 1 1 0 log.locking
locking = record {
  config = config;
  log = map event_of steps;
  kinds = refl;
  complete = record { end = m13; reaches = record { run = record { steps = steps; events = refl; happen = (h1, (h2, (h3, (h4, (h5, (h6, (h7, (h8, (h9, (h10, (h11, (h12, (h13, tt))))))))))))); rising = rises (map event_of steps) refl }; state = refl }; complete = complete };
  clusters_are = refl;
  harts_are = refl;
  status_is = status;
}
