-- A line that one cluster prefetched is invalidated for another.
use Rattle.std.proofs.Common.{inl, inr, ◌≡◌, ℕ, zero, suc, ◌<◌, ◌==◌, true, None, Some, List, [], ◌∷◌, map, refl, arith, pos}
use Rattle.dash_base.specs.declared.topology.Topology.{Topology}
use Rattle.dash_base.specs.declared.instr.Instr.{Instr}
use Rattle.dash_base.specs.declared.ops.StoreOp.TheVariants.{Sw}
use Rattle.dash_base.specs.declared.ops.BranchOp.TheVariants.{Bne}
use Rattle.dash_base.specs.declared.ops.AluOp.TheVariants.{Or}
use Rattle.dash_base.specs.declared.need.HintKind.TheVariants.{Shared}
use Rattle.dash_base.specs.Words.{merged}
use Rattle.elf_load.specs.Image.{ImageView, fetched, word_among, byte_among, is_writable}
use Rattle.hart_core.specs.HartState.{HartState}
use Rattle.hart_core.specs.Opening.{opening_hart}
use Rattle.hart_core.specs.Meaning.{IsFound, Does, after_need}
use Rattle.hart_core.specs.declared.found.Found.TheVariants.{This}
use Rattle.write_buffer.specs.Look.{newest_of}
use Rattle.dash_msg.specs.declared.msg.Msg.TheVariants.{Read, ReadEx, Inval, Data, DataEx, Ack}
use Rattle.dash_model.specs.Maps.{member, total, without, with_member}
use Rattle.dash_model.specs.Config.{Config, cluster_id, hart_id}
use Rattle.dash_model.specs.Net.{head, tail, send}
use Rattle.dash_model.specs.Cell.{NoSlot, NoAcks}
use Rattle.dash_model.specs.HartRows.{HartEffect, entry_of}
use Rattle.dash_model.specs.Wants.{StoreOwns}
use Rattle.dash_model.specs.Requests.{invals_to}
use Rattle.dash_model.specs.Row.{row}
use Rattle.dash_model.specs.Guard.{Guard}
use Rattle.dash_model.specs.Machine.{Machine, Step, event_of, opening, CanHappen, after}
use Rattle.dash_model.specs.Complete.{IsSpent, IsStopped, Spent, IsComplete, hart_at, IsStatus, AfterBudget, SomeTrapped, DidTrap}
use Rattle.dash_model.specs.Examples.{Example}
use Rattle.dash_model.specs.ExampleLogs.{word_addr, line_0, content, access, unlabelled}
use Rattle.dash_model.proofs.ExampleParts.{shape, step, plain, either, not_0, nothing_below, rises}
use Rattle.dash_model.proofs.TableCells.{room_for_acks}
use Rattle.dash_base.specs.declared.instr.Instr.TheVariants as instr
use Rattle.dash_base.specs.declared.need.Need.TheVariants as needed
use Rattle.dash_event.specs.declared.access.Op.TheVariants as op
use Rattle.dash_event.specs.declared.access.Seen.TheVariants as seen
use Rattle.dash_event.specs.declared.event.Kind.TheVariants as kind
use Rattle.dash_model.specs.ExampleLogs as log

abbrev top : Topology
top = shape 2 1 2 0 1 (record { low = omega arith; high = omega arith }) (record { low = omega arith; high = omega arith }) (record { low = omega arith; high = omega arith }) (omega arith) (omega arith) (omega arith) (record { low = omega arith; high = omega arith }) (omega arith)

-- bne a0,zero,8, then prefetch.r 0(zero), which hart 1 leaves out, then sw a1,0(zero)
abbrev image : ImageView
image = record { entry = 4096; segments = record { vaddr = 4096; memsz = 12; flags = 5; bytes = 99 ∷ 20 ∷ 5 ∷ 0 ∷ 19 ∷ 96 ∷ 16 ∷ 0 ∷ 35 ∷ 32 ∷ 176 ∷ 0 ∷ [] } ∷ [] }

abbrev config : Config
config = record { image = image; top = top }

abbrev branch : Instr
branch = instr.Branch (record { op = Bne; rs1 = 10; rs2 = 0; offset = pos 8; rs1_in_range = omega arith; rs2_in_range = omega arith; offset_in_range = record { fits = record { low = omega arith; high = omega arith }; even = refl } })

found_branch : IsFound image 4096 (This branch)
unfolding fetched word_among byte_among
found_branch = refl

abbrev prefetch : Instr
prefetch = instr.OpImm (record { op = Or; rd = 0; rs1 = 0; imm = pos 1; rd_in_range = omega arith; rs1_in_range = omega arith; imm_in_range = record { low = omega arith; high = omega arith }; has_form = refl })

found_prefetch : IsFound image 4100 (This prefetch)
unfolding fetched word_among byte_among
found_prefetch = refl

abbrev sw : Instr
sw = instr.Store (record { op = Sw; rs1 = 0; rs2 = 11; offset = pos 0; rs1_in_range = omega arith; rs2_in_range = omega arith; offset_in_range = record { low = omega arith; high = omega arith } })

found_sw : IsFound image 4104 (This sw)
unfolding fetched word_among byte_among
found_sw = refl

abbrev hart0 : HartState
hart0 = opening_hart image top 0

abbrev branched0 : HartEffect
branched0 = record { need = needed.Alu; next = after_need hart0 (This branch) needed.Alu 0 }

does_branch0 : Does image top hart0 needed.Alu 0 branched0.next
unfolding is_writable
does_branch0 = record { goes = refl; found = This branch; is_found = found_branch; needs = refl; after = refl }

abbrev hart1 : HartState
hart1 = opening_hart image top 1

abbrev branched1 : HartEffect
branched1 = record { need = needed.Alu; next = after_need hart1 (This branch) needed.Alu 0 }

does_branch1 : Does image top hart1 needed.Alu 0 branched1.next
unfolding is_writable
does_branch1 = record { goes = refl; found = This branch; is_found = found_branch; needs = refl; after = refl }

abbrev hinted : HartEffect
hinted = record { need = needed.Hint Shared 0; next = after_need branched0.next (This prefetch) (needed.Hint Shared 0) 0 }

does_hint : Does image top branched0.next (needed.Hint Shared 0) 0 hinted.next
unfolding is_writable
does_hint = record { goes = refl; found = This prefetch; is_found = found_prefetch; needs = refl; after = refl }

abbrev stored : HartEffect
stored = record { need = needed.Store (word_addr 0) 15 2; next = after_need branched1.next (This sw) (needed.Store (word_addr 0) 15 2) 0 }

does_store : Does image top branched1.next (needed.Store (word_addr 0) 15 2) 0 stored.next
unfolding is_writable
does_store = record { goes = refl; found = This sw; is_found = found_sw; needs = refl; after = refl }

abbrev s1 : Step
s1 = step 0 1 0 (kind.Alu (hart_id 0) 4096) branched0

abbrev s2 : Step
s2 = step 1 1 0 (kind.Alu (hart_id 1) 4096) branched1

abbrev s3 : Step
s3 = step 0 2 0 (kind.Hint (hart_id 0) 4100 (Some 2)) hinted

abbrev s4 : Step
s4 = step 1 2 0 (kind.Store (access 1 2 op.Store unlabelled 0 None (Some 2) seen.Nothing)) stored

abbrev s5 : Step
s5 = step 0 3 2 (kind.Take (cluster_id 0) (Read line_0)) plain

abbrev s6 : Step
s6 = step 1 3 0 (kind.Ask 1 (hart_id 1) line_0 true) plain

abbrev s7 : Step
s7 = step 0 4 3 (kind.Take (cluster_id 0) (Data line_0 (content 0 0))) plain

abbrev s8 : Step
s8 = step 0 5 0 (kind.Install 2 (hart_id 0) line_0) plain

abbrev s9 : Step
s9 = step 0 6 3 (kind.Take (cluster_id 1) (ReadEx line_0)) plain

abbrev s10 : Step
s10 = step 0 7 6 (kind.Take (cluster_id 0) (Inval line_0 (cluster_id 1))) plain

abbrev s11 : Step
s11 = step 1 7 6 (kind.Take (cluster_id 0) (DataEx line_0 (content 0 0) 1)) plain

abbrev s12 : Step
s12 = step 1 8 0 (kind.Install 1 (hart_id 1) line_0) plain

abbrev s13 : Step
s13 = step 1 9 0 (kind.Commit (hart_id 1) 2 line_0 1) plain

abbrev s14 : Step
s14 = step 1 10 7 (kind.Take (cluster_id 0) (Ack line_0)) plain

abbrev m1 : Machine
m1 = after config (opening config) s1

abbrev m2 : Machine
m2 = after config m1 s2

abbrev m3 : Machine
m3 = after config m2 s3

abbrev m4 : Machine
m4 = after config m3 s4

abbrev m5 : Machine
m5 = after config m4 s5

abbrev m6 : Machine
m6 = after config m5 s6

abbrev m7 : Machine
m7 = after config m6 s7

abbrev m8 : Machine
m8 = after config m7 s8

abbrev m9 : Machine
m9 = after config m8 s9

abbrev m10 : Machine
m10 = after config m9 s10

abbrev m11 : Machine
m11 = after config m10 s11

abbrev m12 : Machine
m12 = after config m11 s12

abbrev m13 : Machine
m13 = after config m12 s13

abbrev m14 : Machine
m14 = after config m13 s14

h1 : CanHappen config (opening config) s1
unfolding Guard row head tail send newest_of word_among byte_among merged member without with_member invals_to total
h1 = record { cluster = omega arith; head = tt; steps = record { cluster = refl; stamp = refl; guard = record { retires = record { mine = refl; need_is = refl; does = does_branch0 }; pc_is = refl } } }

h2 : CanHappen config m1 s2
unfolding Guard row head tail send newest_of word_among byte_among merged member without with_member invals_to total
h2 = record { cluster = omega arith; head = tt; steps = record { cluster = refl; stamp = refl; guard = record { retires = record { mine = refl; need_is = refl; does = does_branch1 }; pc_is = refl } } }

h3 : CanHappen config m2 s3
unfolding Guard row head tail send newest_of word_among byte_among merged member without with_member invals_to total
h3 = record { cluster = omega arith; head = tt; steps = record { cluster = refl; stamp = refl; guard = record { kinds = Shared; address = 0; next = record { retires = record { mine = refl; need_is = refl; does = does_hint }; pc_is = refl }; opens = record { inside = refl; lone = refl; slot = record { from = omega arith; below = omega arith; empty = λ l. refl; least = λ m a b n. nothing_below m a b }; kinds = refl } } } }

h4 : CanHappen config m3 s4
unfolding Guard row head tail send newest_of word_among byte_among merged member without with_member invals_to total
h4 = record { cluster = omega arith; head = tt; steps = record { cluster = refl; stamp = refl; guard = record { value = 2; next = record { mine = refl; need_is = refl; does = does_store }; access = record { made = refl; seen_is = refl }; room = omega arith } } }

h5 : CanHappen config m4 s5
unfolding Guard row head tail send newest_of word_among byte_among merged member without with_member invals_to total
h5 = record { cluster = omega arith; head = refl; steps = record { cluster = refl; stamp = refl; guard = tt } }

h6 : CanHappen config m5 s6
unfolding Guard row head tail send newest_of word_among byte_among merged member without with_member invals_to total
h6 = record { cluster = omega arith; head = tt; steps = record { cluster = refl; stamp = refl; guard = record { mine = refl; may = record { empty = λ l. refl; lone = refl; cause = StoreOwns refl (record { oldest = refl; lacks = refl }) refl (room_for_acks _ 4096 (λ l. refl)) } } } }

h7 : CanHappen config m6 s7
unfolding Guard row head tail send newest_of word_among byte_among merged member without with_member invals_to total
h7 = record { cluster = omega arith; head = refl; steps = record { cluster = refl; stamp = refl; guard = tt } }

h8 : CanHappen config m7 s8
unfolding Guard row head tail send newest_of word_among byte_among merged member without with_member invals_to total
h8 = record { cluster = omega arith; head = tt; steps = record { cluster = refl; stamp = refl; guard = record { mine = refl; came = (refl, refl); room = λ k n m. rw (not_0 k n) refl } } }

h9 : CanHappen config m8 s9
unfolding Guard row head tail send newest_of word_among byte_among merged member without with_member invals_to total
h9 = record { cluster = omega arith; head = refl; steps = record { cluster = refl; stamp = refl; guard = tt } }

h10 : CanHappen config m9 s10
unfolding Guard row head tail send newest_of word_among byte_among merged member without with_member invals_to total
h10 = record { cluster = omega arith; head = refl; steps = record { cluster = refl; stamp = refl; guard = tt } }

h11 : CanHappen config m10 s11
unfolding Guard row head tail send newest_of word_among byte_among merged member without with_member invals_to total
h11 = record { cluster = omega arith; head = refl; steps = record { cluster = refl; stamp = refl; guard = tt } }

h12 : CanHappen config m11 s12
unfolding Guard row head tail send newest_of word_among byte_among merged member without with_member invals_to total
h12 = record { cluster = omega arith; head = tt; steps = record { cluster = refl; stamp = refl; guard = record { mine = refl; came = (refl, refl); room = λ k n m. rw (not_0 k n) refl } } }

h13 : CanHappen config m12 s13
unfolding Guard row head tail send newest_of word_among byte_among merged member without with_member invals_to total
h13 = record { cluster = omega arith; head = tt; steps = record { cluster = refl; stamp = refl; guard = record { mine = refl; oldest = entry_of (access 1 2 op.Store unlabelled 0 None (Some 2) seen.Nothing); others = []; buffer = refl; number_is = refl; line = refl; owner = refl; version_is = refl } } }

h14 : CanHappen config m13 s14
unfolding Guard row head tail send newest_of word_among byte_among merged member without with_member invals_to total
h14 = record { cluster = omega arith; head = refl; steps = record { cluster = refl; stamp = refl; guard = tt } }

idle0 : (l : ℕ) → (((m14.parts 0).cells l).slot ≡ NoSlot) × (((m14.parts 0).cells l).acks ≡ NoAcks)
unfolding Guard row head tail send newest_of word_among byte_among merged member without with_member invals_to total
idle0 l = elim (either (l == 0)) [ inl e ↦ rw e (refl, refl) | inr e ↦ rw e (refl, refl) ]

idle1 : (l : ℕ) → (((m14.parts 1).cells l).slot ≡ NoSlot) × (((m14.parts 1).cells l).acks ≡ NoAcks)
unfolding Guard row head tail send newest_of word_among byte_among merged member without with_member invals_to total
idle1 l = elim (either (l == 0)) [ inl e ↦ rw e (refl, refl) | inr e ↦ rw e (refl, refl) ]

idle : (c l : ℕ) → c < 2 → (((m14.parts c).cells l).slot ≡ NoSlot) × (((m14.parts c).cells l).acks ≡ NoAcks)
idle zero l h = idle0 l
idle (suc zero) l h = idle1 l
idle (suc (suc c)) l h = absurd (omega arith)

buffers : (h : ℕ) → h < 2 → (hart_at config h m14).buffer ≡ []
unfolding Guard row head tail send newest_of word_among byte_among merged member without with_member invals_to total
buffers zero i = refl
buffers (suc zero) i = refl
buffers (suc (suc h)) i = absurd (omega arith)

trap_at : (h : ℕ) → h < 2 → DidTrap (hart_at config h m14).core.end → ⊥
unfolding Guard row head tail send newest_of word_among byte_among merged member without with_member invals_to total
trap_at zero i t = t
trap_at (suc zero) i t = t
trap_at (suc (suc h)) i t = absurd (omega arith)

no_trap : SomeTrapped config m14 → ⊥
no_trap s = trap_at s.hart s.inside s.holds

spent0 : IsSpent config 0 m14
unfolding Guard row head tail send newest_of word_among byte_among merged member without with_member invals_to total
spent0 = record { running = refl; all = refl }

spent1 : IsSpent config 1 m14
unfolding Guard row head tail send newest_of word_among byte_among merged member without with_member invals_to total
spent1 = record { running = refl; all = refl }

stands : (h : ℕ) → h < 2 → IsStopped config h m14
unfolding Guard row head tail send newest_of word_among byte_among merged member without with_member invals_to total
stands zero i = Spent spent0
stands (suc zero) i = Spent spent1
stands (suc (suc h)) i = absurd (omega arith)

complete : IsComplete config m14
unfolding Guard row head tail send newest_of word_among byte_among merged member without with_member invals_to total
complete = record { lanes = refl; buffers = buffers; slots = λ c l h. (idle c l h).0; acks = λ c l h. (idle c l h).1; harts = stands }

status : IsStatus config m14 10
unfolding Guard row head tail send newest_of word_among byte_among merged member without with_member invals_to total
status = AfterBudget no_trap (record { hart = 1; inside = omega arith; holds = spent1 })

abbrev steps : List Step
steps = s1 ∷ s2 ∷ s3 ∷ s4 ∷ s5 ∷ s6 ∷ s7 ∷ s8 ∷ s9 ∷ s10 ∷ s11 ∷ s12 ∷ s13 ∷ s14 ∷ []

pub invalidating : Example 2 1 10 log.invalidating
invalidating = record {
  config = config;
  log = map event_of steps;
  kinds = refl;
  complete = record { end = m14; reaches = record { run = record { steps = steps; events = refl; happen = (h1, (h2, (h3, (h4, (h5, (h6, (h7, (h8, (h9, (h10, (h11, (h12, (h13, (h14, tt)))))))))))))); rising = rises (map event_of steps) refl }; state = refl }; complete = complete };
  clusters_are = refl;
  harts_are = refl;
  status_is = status;
}
