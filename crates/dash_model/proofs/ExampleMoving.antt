-- A line moves from one cluster to another and back.
use Rattle.std.proofs.Common.{inl, inr, ◌≡◌, ℕ, zero, suc, ◌<◌, ◌==◌, true, false, None, Some, List, [], ◌∷◌, map, refl, arith, pos}
use Rattle.dash_base.specs.declared.topology.Topology.{Topology}
use Rattle.dash_base.specs.declared.instr.Instr.{Instr}
use Rattle.dash_base.specs.declared.ops.LoadOp.TheVariants.{Lw}
use Rattle.dash_base.specs.declared.ops.StoreOp.TheVariants.{Sw}
use Rattle.dash_base.specs.Words.{merged}
use Rattle.elf_load.specs.Image.{ImageView, fetched, word_among, byte_among, is_writable}
use Rattle.hart_core.specs.HartState.{HartState}
use Rattle.hart_core.specs.Opening.{opening_hart}
use Rattle.hart_core.specs.Meaning.{IsFound, Needs, Does, after_need}
use Rattle.hart_core.specs.declared.found.Found.TheVariants.{This}
use Rattle.dash_base.specs.declared.need.Need.{Need}
use Rattle.hart_core.proofs.LawsOffered.{needs_of}
use Rattle.write_buffer.specs.Look.{newest_of}
use Rattle.dash_msg.specs.declared.msg.Msg.TheVariants.{Read, ReadEx, FwdRead, FwdReadEx, SharingBack, Transfer, Data, DataEx, TransferAck, Nak}
use Rattle.dash_model.specs.Maps.{member, total, without, with_member}
use Rattle.dash_model.specs.Config.{Config, cluster_id, hart_id}
use Rattle.dash_model.specs.Net.{head, tail, send}
use Rattle.dash_model.specs.Cell.{NoSlot, NoAcks}
use Rattle.dash_model.specs.HartRows.{HartEffect, entry_of}
use Rattle.dash_model.specs.Wants.{FrontReads, StoreOwns}
use Rattle.dash_model.specs.Requests.{invals_to}
use Rattle.dash_model.specs.Row.{row}
use Rattle.dash_model.specs.Guard.{Guard}
use Rattle.dash_model.specs.Machine.{Machine, Step, event_of, opening, CanHappen, after}
use Rattle.dash_model.specs.Complete.{IsSpent, IsStopped, Spent, IsComplete, hart_at, IsStatus, AfterBudget, SomeTrapped, DidTrap}
use Rattle.dash_model.specs.Examples.{Example}
use Rattle.dash_model.specs.ExampleLogs.{word_addr, line_0, content, access, unlabelled}
use Rattle.dash_model.proofs.ExampleParts.{shape, step, plain, either, not_0, rises}
use Rattle.dash_model.proofs.TableCells.{room_for_acks}
use Rattle.dash_base.specs.declared.instr.Instr.TheVariants as instr
use Rattle.dash_base.specs.declared.need.Need.TheVariants as needed
use Rattle.dash_event.specs.declared.access.Op.TheVariants as op
use Rattle.dash_event.specs.declared.access.Seen.TheVariants as seen
use Rattle.dash_event.specs.declared.event.Kind.TheVariants as kind
use Rattle.dash_model.specs.ExampleLogs as log

abbrev top : Topology
top = shape 2 1 2 0 0 (record { low = omega arith; high = omega arith }) (record { low = omega arith; high = omega arith }) (record { low = omega arith; high = omega arith }) (omega arith) (omega arith) (omega arith) (record { low = omega arith; high = omega arith }) (omega arith)

-- sw a1,0(zero), then lw t0,0(zero)
abbrev image : ImageView
image = record { entry = 4096; segments = record { vaddr = 4096; memsz = 8; flags = 5; bytes = 35 ∷ 32 ∷ 176 ∷ 0 ∷ 131 ∷ 34 ∷ 0 ∷ 0 ∷ [] } ∷ [] }

abbrev config : Config
config = record { image = image; top = top }

abbrev sw : Instr
sw = instr.Store (record { op = Sw; rs1 = 0; rs2 = 11; offset = pos 0; rs1_in_range = omega arith; rs2_in_range = omega arith; offset_in_range = record { low = omega arith; high = omega arith } })

found_sw : IsFound image 4096 (This sw)
unfolding fetched word_among byte_among
found_sw = refl

abbrev lw : Instr
lw = instr.Load (record { op = Lw; rd = 5; rs1 = 0; offset = pos 0; rd_in_range = omega arith; rs1_in_range = omega arith; offset_in_range = record { low = omega arith; high = omega arith } })

found_lw : IsFound image 4100 (This lw)
unfolding fetched word_among byte_among
found_lw = refl

abbrev store_need : Need
store_need = needed.Store (word_addr 0) 15 2

abbrev load_need : Need
load_need = needed.Load (word_addr 0) 15 unlabelled false

abbrev hart : ℕ → HartState
hart h = opening_hart image top h

abbrev stored : ℕ → HartEffect
stored h = record { need = store_need; next = after_need (hart h) (This sw) store_need 0 }

does_store : (h : ℕ) → Does image top (hart h) store_need 0 (stored h).next
unfolding is_writable
does_store h = record { goes = refl; found = This sw; is_found = found_sw; needs = refl; after = refl }

abbrev loaded : ℕ → HartEffect
loaded h = record { need = load_need; next = after_need (stored h).next (This lw) load_need 2 }

does_load : (h : ℕ) → Does image top (stored h).next load_need 2 (loaded h).next
does_load h = record { goes = refl; found = This lw; is_found = found_lw; needs = refl; after = refl }

needs_load : Needs image top (stored 0).next load_need
needs_load = needs_of _ _ _ _ _ _ (does_load 0)

abbrev s1 : Step
s1 = step 0 1 0 (kind.Store (access 0 1 op.Store unlabelled 0 None (Some 2) seen.Nothing)) (stored 0)

abbrev s2 : Step
s2 = step 1 1 0 (kind.Store (access 1 1 op.Store unlabelled 0 None (Some 2) seen.Nothing)) (stored 1)

abbrev s3 : Step
s3 = step 0 2 0 (kind.Ask 1 (hart_id 0) line_0 true) plain

abbrev s4 : Step
s4 = step 1 2 0 (kind.Ask 1 (hart_id 1) line_0 true) plain

abbrev s5 : Step
s5 = step 0 3 2 (kind.Take (cluster_id 0) (ReadEx line_0)) plain

abbrev s6 : Step
s6 = step 0 4 3 (kind.Take (cluster_id 0) (DataEx line_0 (content 0 0) 0)) plain

abbrev s7 : Step
s7 = step 0 5 0 (kind.Install 1 (hart_id 0) line_0) plain

abbrev s8 : Step
s8 = step 0 6 0 (kind.Commit (hart_id 0) 1 line_0 1) plain

abbrev s9 : Step
s9 = step 0 7 2 (kind.Take (cluster_id 1) (ReadEx line_0)) plain

abbrev s10 : Step
s10 = step 0 8 7 (kind.Take (cluster_id 0) (FwdReadEx line_0 (cluster_id 1))) plain

abbrev s11 : Step
s11 = step 0 9 0 (kind.Ask 0 (hart_id 0) line_0 false) plain

abbrev s12 : Step
s12 = step 1 9 8 (kind.Take (cluster_id 0) (DataEx line_0 (content 2 1) 1)) plain

abbrev s13 : Step
s13 = step 0 10 8 (kind.Take (cluster_id 0) (Transfer line_0 (cluster_id 1))) plain

abbrev s14 : Step
s14 = step 1 10 0 (kind.Install 1 (hart_id 1) line_0) plain

abbrev s15 : Step
s15 = step 0 11 9 (kind.Take (cluster_id 0) (Read line_0)) plain

abbrev s16 : Step
s16 = step 1 11 0 (kind.Commit (hart_id 1) 1 line_0 2) plain

abbrev s17 : Step
s17 = step 1 12 11 (kind.Take (cluster_id 0) (FwdRead line_0 (cluster_id 0))) plain

abbrev s18 : Step
s18 = step 0 13 12 (kind.Take (cluster_id 1) (Nak line_0)) plain

abbrev s19 : Step
s19 = step 1 13 10 (kind.Take (cluster_id 0) (TransferAck line_0)) plain

abbrev s20 : Step
s20 = step 0 14 0 (kind.Again 0 line_0) plain

abbrev s21 : Step
s21 = step 0 15 14 (kind.Take (cluster_id 0) (Read line_0)) plain

abbrev s22 : Step
s22 = step 1 16 15 (kind.Take (cluster_id 0) (FwdRead line_0 (cluster_id 0))) plain

abbrev s23 : Step
s23 = step 0 17 16 (kind.Take (cluster_id 1) (SharingBack line_0 (content 2 2) (cluster_id 0))) plain

abbrev s24 : Step
s24 = step 1 17 0 (kind.Load (access 1 2 op.Load unlabelled 0 (Some 2) None (seen.Line 2)) 2) (loaded 1)

abbrev s25 : Step
s25 = step 0 18 16 (kind.Take (cluster_id 1) (Data line_0 (content 2 2))) plain

abbrev s26 : Step
s26 = step 0 19 0 (kind.Install 0 (hart_id 0) line_0) plain

abbrev s27 : Step
s27 = step 0 20 0 (kind.Load (access 0 2 op.Load unlabelled 0 (Some 2) None (seen.Line 2)) 2) (loaded 0)

abbrev m1 : Machine
m1 = after config (opening config) s1

abbrev m2 : Machine
m2 = after config m1 s2

abbrev m3 : Machine
m3 = after config m2 s3

abbrev m4 : Machine
m4 = after config m3 s4

abbrev m5 : Machine
m5 = after config m4 s5

abbrev m6 : Machine
m6 = after config m5 s6

abbrev m7 : Machine
m7 = after config m6 s7

abbrev m8 : Machine
m8 = after config m7 s8

abbrev m9 : Machine
m9 = after config m8 s9

abbrev m10 : Machine
m10 = after config m9 s10

abbrev m11 : Machine
m11 = after config m10 s11

abbrev m12 : Machine
m12 = after config m11 s12

abbrev m13 : Machine
m13 = after config m12 s13

abbrev m14 : Machine
m14 = after config m13 s14

abbrev m15 : Machine
m15 = after config m14 s15

abbrev m16 : Machine
m16 = after config m15 s16

abbrev m17 : Machine
m17 = after config m16 s17

abbrev m18 : Machine
m18 = after config m17 s18

abbrev m19 : Machine
m19 = after config m18 s19

abbrev m20 : Machine
m20 = after config m19 s20

abbrev m21 : Machine
m21 = after config m20 s21

abbrev m22 : Machine
m22 = after config m21 s22

abbrev m23 : Machine
m23 = after config m22 s23

abbrev m24 : Machine
m24 = after config m23 s24

abbrev m25 : Machine
m25 = after config m24 s25

abbrev m26 : Machine
m26 = after config m25 s26

abbrev m27 : Machine
m27 = after config m26 s27

h1 : CanHappen config (opening config) s1
unfolding Guard row head tail send newest_of word_among byte_among merged member without with_member invals_to total
h1 = record { cluster = omega arith; head = tt; steps = record { cluster = refl; stamp = refl; guard = record { value = 2; next = record { mine = refl; need_is = refl; does = (does_store 0) }; access = record { made = refl; seen_is = refl }; room = omega arith } } }

h2 : CanHappen config m1 s2
unfolding Guard row head tail send newest_of word_among byte_among merged member without with_member invals_to total
h2 = record { cluster = omega arith; head = tt; steps = record { cluster = refl; stamp = refl; guard = record { value = 2; next = record { mine = refl; need_is = refl; does = (does_store 1) }; access = record { made = refl; seen_is = refl }; room = omega arith } } }

h3 : CanHappen config m2 s3
unfolding Guard row head tail send newest_of word_among byte_among merged member without with_member invals_to total
h3 = record { cluster = omega arith; head = tt; steps = record { cluster = refl; stamp = refl; guard = record { mine = refl; may = record { empty = λ l. refl; lone = refl; cause = StoreOwns refl (record { oldest = refl; lacks = refl }) refl (room_for_acks _ 4096 (λ l. refl)) } } } }

h4 : CanHappen config m3 s4
unfolding Guard row head tail send newest_of word_among byte_among merged member without with_member invals_to total
h4 = record { cluster = omega arith; head = tt; steps = record { cluster = refl; stamp = refl; guard = record { mine = refl; may = record { empty = λ l. refl; lone = refl; cause = StoreOwns refl (record { oldest = refl; lacks = refl }) refl (room_for_acks _ 4096 (λ l. refl)) } } } }

h5 : CanHappen config m4 s5
unfolding Guard row head tail send newest_of word_among byte_among merged member without with_member invals_to total
h5 = record { cluster = omega arith; head = refl; steps = record { cluster = refl; stamp = refl; guard = tt } }

h6 : CanHappen config m5 s6
unfolding Guard row head tail send newest_of word_among byte_among merged member without with_member invals_to total
h6 = record { cluster = omega arith; head = refl; steps = record { cluster = refl; stamp = refl; guard = tt } }

h7 : CanHappen config m6 s7
unfolding Guard row head tail send newest_of word_among byte_among merged member without with_member invals_to total
h7 = record { cluster = omega arith; head = tt; steps = record { cluster = refl; stamp = refl; guard = record { mine = refl; came = (refl, refl); room = λ k n m. rw (not_0 k n) refl } } }

h8 : CanHappen config m7 s8
unfolding Guard row head tail send newest_of word_among byte_among merged member without with_member invals_to total
h8 = record { cluster = omega arith; head = tt; steps = record { cluster = refl; stamp = refl; guard = record { mine = refl; oldest = entry_of (access 0 1 op.Store unlabelled 0 None (Some 2) seen.Nothing); others = []; buffer = refl; number_is = refl; line = refl; owner = refl; version_is = refl } } }

h9 : CanHappen config m8 s9
unfolding Guard row head tail send newest_of word_among byte_among merged member without with_member invals_to total
h9 = record { cluster = omega arith; head = refl; steps = record { cluster = refl; stamp = refl; guard = tt } }

h10 : CanHappen config m9 s10
unfolding Guard row head tail send newest_of word_among byte_among merged member without with_member invals_to total
h10 = record { cluster = omega arith; head = refl; steps = record { cluster = refl; stamp = refl; guard = tt } }

h11 : CanHappen config m10 s11
unfolding Guard row head tail send newest_of word_among byte_among merged member without with_member invals_to total
h11 = record { cluster = omega arith; head = tt; steps = record { cluster = refl; stamp = refl; guard = record { mine = refl; may = record { empty = λ l. elim (either (l == 0)) [ inl e ↦ rw e refl | inr e ↦ rw e refl ]; lone = refl; cause = FrontReads refl (record { need = load_need; needs = needs_load; loads = (refl, refl); lacks = refl }) refl } } } }

h12 : CanHappen config m11 s12
unfolding Guard row head tail send newest_of word_among byte_among merged member without with_member invals_to total
h12 = record { cluster = omega arith; head = refl; steps = record { cluster = refl; stamp = refl; guard = tt } }

h13 : CanHappen config m12 s13
unfolding Guard row head tail send newest_of word_among byte_among merged member without with_member invals_to total
h13 = record { cluster = omega arith; head = refl; steps = record { cluster = refl; stamp = refl; guard = tt } }

h14 : CanHappen config m13 s14
unfolding Guard row head tail send newest_of word_among byte_among merged member without with_member invals_to total
h14 = record { cluster = omega arith; head = tt; steps = record { cluster = refl; stamp = refl; guard = record { mine = refl; came = (refl, refl); room = λ k n m. rw (not_0 k n) refl } } }

h15 : CanHappen config m14 s15
unfolding Guard row head tail send newest_of word_among byte_among merged member without with_member invals_to total
h15 = record { cluster = omega arith; head = refl; steps = record { cluster = refl; stamp = refl; guard = tt } }

h16 : CanHappen config m15 s16
unfolding Guard row head tail send newest_of word_among byte_among merged member without with_member invals_to total
h16 = record { cluster = omega arith; head = tt; steps = record { cluster = refl; stamp = refl; guard = record { mine = refl; oldest = entry_of (access 1 1 op.Store unlabelled 0 None (Some 2) seen.Nothing); others = []; buffer = refl; number_is = refl; line = refl; owner = refl; version_is = refl } } }

h17 : CanHappen config m16 s17
unfolding Guard row head tail send newest_of word_among byte_among merged member without with_member invals_to total
h17 = record { cluster = omega arith; head = refl; steps = record { cluster = refl; stamp = refl; guard = tt } }

h18 : CanHappen config m17 s18
unfolding Guard row head tail send newest_of word_among byte_among merged member without with_member invals_to total
h18 = record { cluster = omega arith; head = refl; steps = record { cluster = refl; stamp = refl; guard = tt } }

h19 : CanHappen config m18 s19
unfolding Guard row head tail send newest_of word_among byte_among merged member without with_member invals_to total
h19 = record { cluster = omega arith; head = refl; steps = record { cluster = refl; stamp = refl; guard = tt } }

h20 : CanHappen config m19 s20
unfolding Guard row head tail send newest_of word_among byte_among merged member without with_member invals_to total
h20 = record { cluster = omega arith; head = tt; steps = record { cluster = refl; stamp = refl; guard = refl } }

h21 : CanHappen config m20 s21
unfolding Guard row head tail send newest_of word_among byte_among merged member without with_member invals_to total
h21 = record { cluster = omega arith; head = refl; steps = record { cluster = refl; stamp = refl; guard = tt } }

h22 : CanHappen config m21 s22
unfolding Guard row head tail send newest_of word_among byte_among merged member without with_member invals_to total
h22 = record { cluster = omega arith; head = refl; steps = record { cluster = refl; stamp = refl; guard = tt } }

h23 : CanHappen config m22 s23
unfolding Guard row head tail send newest_of word_among byte_among merged member without with_member invals_to total
h23 = record { cluster = omega arith; head = refl; steps = record { cluster = refl; stamp = refl; guard = tt } }

h24 : CanHappen config m23 s24
unfolding Guard row head tail send newest_of word_among byte_among merged member without with_member invals_to total
h24 = record { cluster = omega arith; head = tt; steps = record { cluster = refl; stamp = refl; guard = record { labels = unlabelled; reserve = false; next = record { mine = refl; need_is = refl; does = does_load 1 }; from = record { holder = refl; level_is = refl; access = record { made = refl; seen_is = refl } } } } }

h25 : CanHappen config m24 s25
unfolding Guard row head tail send newest_of word_among byte_among merged member without with_member invals_to total
h25 = record { cluster = omega arith; head = refl; steps = record { cluster = refl; stamp = refl; guard = tt } }

h26 : CanHappen config m25 s26
unfolding Guard row head tail send newest_of word_among byte_among merged member without with_member invals_to total
h26 = record { cluster = omega arith; head = tt; steps = record { cluster = refl; stamp = refl; guard = record { mine = refl; came = (refl, refl); room = λ k n m. rw (not_0 k n) refl } } }

h27 : CanHappen config m26 s27
unfolding Guard row head tail send newest_of word_among byte_among merged member without with_member invals_to total
h27 = record { cluster = omega arith; head = tt; steps = record { cluster = refl; stamp = refl; guard = record { labels = unlabelled; reserve = false; next = record { mine = refl; need_is = refl; does = does_load 0 }; from = record { holder = refl; level_is = refl; access = record { made = refl; seen_is = refl } } } } }

idle0 : (l : ℕ) → (((m27.parts 0).cells l).slot ≡ NoSlot) × (((m27.parts 0).cells l).acks ≡ NoAcks)
unfolding Guard row head tail send newest_of word_among byte_among merged member without with_member invals_to total
idle0 l = elim (either (l == 0)) [ inl e ↦ rw e (refl, refl) | inr e ↦ rw e (refl, refl) ]

idle1 : (l : ℕ) → (((m27.parts 1).cells l).slot ≡ NoSlot) × (((m27.parts 1).cells l).acks ≡ NoAcks)
unfolding Guard row head tail send newest_of word_among byte_among merged member without with_member invals_to total
idle1 l = elim (either (l == 0)) [ inl e ↦ rw e (refl, refl) | inr e ↦ rw e (refl, refl) ]

idle : (c l : ℕ) → c < 2 → (((m27.parts c).cells l).slot ≡ NoSlot) × (((m27.parts c).cells l).acks ≡ NoAcks)
idle zero l h = idle0 l
idle (suc zero) l h = idle1 l
idle (suc (suc c)) l h = absurd (omega arith)

buffers : (h : ℕ) → h < 2 → (hart_at config h m27).buffer ≡ []
unfolding Guard row head tail send newest_of word_among byte_among merged member without with_member invals_to total
buffers zero i = refl
buffers (suc zero) i = refl
buffers (suc (suc h)) i = absurd (omega arith)

trap_at : (h : ℕ) → h < 2 → DidTrap (hart_at config h m27).core.end → ⊥
unfolding Guard row head tail send newest_of word_among byte_among merged member without with_member invals_to total
trap_at zero i t = t
trap_at (suc zero) i t = t
trap_at (suc (suc h)) i t = absurd (omega arith)

no_trap : SomeTrapped config m27 → ⊥
no_trap s = trap_at s.hart s.inside s.holds

spent0 : IsSpent config 0 m27
unfolding Guard row head tail send newest_of word_among byte_among merged member without with_member invals_to total
spent0 = record { running = refl; all = refl }

spent1 : IsSpent config 1 m27
unfolding Guard row head tail send newest_of word_among byte_among merged member without with_member invals_to total
spent1 = record { running = refl; all = refl }

stands : (h : ℕ) → h < 2 → IsStopped config h m27
unfolding Guard row head tail send newest_of word_among byte_among merged member without with_member invals_to total
stands zero i = Spent spent0
stands (suc zero) i = Spent spent1
stands (suc (suc h)) i = absurd (omega arith)

complete : IsComplete config m27
unfolding Guard row head tail send newest_of word_among byte_among merged member without with_member invals_to total
complete = record { lanes = refl; buffers = buffers; slots = λ c l h. (idle c l h).0; acks = λ c l h. (idle c l h).1; harts = stands }

status : IsStatus config m27 10
unfolding Guard row head tail send newest_of word_among byte_among merged member without with_member invals_to total
status = AfterBudget no_trap (record { hart = 1; inside = omega arith; holds = spent1 })

abbrev steps : List Step
steps = s1 ∷ s2 ∷ s3 ∷ s4 ∷ s5 ∷ s6 ∷ s7 ∷ s8 ∷ s9 ∷ s10 ∷ s11 ∷ s12 ∷ s13 ∷ s14 ∷ s15 ∷ s16 ∷ s17 ∷ s18 ∷ s19 ∷ s20 ∷ s21 ∷ s22 ∷ s23 ∷ s24 ∷ s25 ∷ s26 ∷ s27 ∷ []

pub moving : Example 2 1 10 log.moving
moving = record {
  config = config;
  log = map event_of steps;
  kinds = refl;
  complete = record { end = m27; reaches = record { run = record { steps = steps; events = refl; happen = (h1, (h2, (h3, (h4, (h5, (h6, (h7, (h8, (h9, (h10, (h11, (h12, (h13, (h14, (h15, (h16, (h17, (h18, (h19, (h20, (h21, (h22, (h23, (h24, (h25, (h26, (h27, tt))))))))))))))))))))))))))); rising = rises (map event_of steps) refl }; state = refl }; complete = complete };
  clusters_are = refl;
  harts_are = refl;
  status_is = status;
}
