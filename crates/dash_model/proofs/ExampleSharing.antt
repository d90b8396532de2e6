-- Two harts of one cluster share its lines.
use Rattle.dash_model.proofs.TableCode.{add_is_not_lr}
use Rattle.std.proofs.Common.{inl, inr, ◌≡◌, ℕ, zero, suc, ◌<◌, ◌==◌, true, false, None, Some, List, [], ◌∷◌, map, refl, arith, pos}
use Rattle.dash_base.specs.declared.topology.Topology.{Topology}
use Rattle.dash_base.specs.declared.instr.Instr.{Instr}
use Rattle.dash_base.specs.declared.ops.LoadOp.TheVariants.{Lw}
use Rattle.dash_base.specs.Words.{merged}
use Rattle.elf_load.specs.Image.{ImageView, fetched, word_among, byte_among, is_writable}
use Rattle.hart_core.specs.HartState.{HartState}
use Rattle.hart_core.specs.Opening.{opening_hart}
use Rattle.hart_core.specs.Meaning.{IsFound, Needs, Does, after_need}
use Rattle.hart_core.specs.declared.found.Found.TheVariants.{This}
use Rattle.dash_base.specs.declared.need.Need.{Need}
use Rattle.hart_core.proofs.LawsOffered.{needs_of}
use Rattle.write_buffer.specs.Look.{newest_of}
use Rattle.dash_msg.specs.declared.msg.Msg.TheVariants.{Read, ReadEx, WriteBack, Data, DataEx}
use Rattle.dash_model.specs.Maps.{member, total, without, with_member}
use Rattle.dash_model.specs.Config.{Config, cluster_id, hart_id}
use Rattle.dash_model.specs.Net.{head, tail, send}
use Rattle.dash_model.specs.Cell.{NoSlot, NoAcks}
use Rattle.dash_model.specs.HartRows.{HartEffect}
use Rattle.dash_model.specs.Wants.{ToRead, FrontReads, FrontOwns}
use Rattle.dash_model.specs.Requests.{invals_to}
use Rattle.dash_model.specs.Row.{row}
use Rattle.dash_model.specs.Guard.{Guard}
use Rattle.dash_model.specs.Machine.{Machine, Step, event_of, opening, CanHappen, after}
use Rattle.dash_model.specs.Complete.{IsSpent, IsStopped, Spent, IsComplete, hart_at, IsStatus, AfterBudget, SomeTrapped, DidTrap}
use Rattle.dash_model.specs.Examples.{Example}
use Rattle.dash_model.specs.ExampleLogs.{word_addr, line_0, line_16, content, access, unlabelled, release}
use Rattle.dash_model.proofs.ExampleParts.{shape, step, plain, no_release, either, not_0, not_16, rises}
use Rattle.dash_model.proofs.TableCells.{room_for_acks}
use Rattle.dash_base.specs.declared.instr.Instr.TheVariants as instr
use Rattle.dash_base.specs.declared.ops.AmoOp.TheVariants as amo
use Rattle.dash_base.specs.declared.need.Need.TheVariants as needed
use Rattle.dash_event.specs.declared.access.Op.TheVariants as op
use Rattle.dash_event.specs.declared.access.Seen.TheVariants as seen
use Rattle.dash_event.specs.declared.event.Kind.TheVariants as kind
use Rattle.dash_model.specs.ExampleLogs as log

abbrev top : Topology
top = shape 1 2 2 0 0 (record { low = omega arith; high = omega arith }) (record { low = omega arith; high = omega arith }) (record { low = omega arith; high = omega arith }) (omega arith) (omega arith) (omega arith) (record { low = omega arith; high = omega arith }) (omega arith)

-- amoadd.w t0,a1,(zero), then lw t1,256(zero)
abbrev image : ImageView
image = record { entry = 4096; segments = record { vaddr = 4096; memsz = 8; flags = 5; bytes = 175 ∷ 34 ∷ 176 ∷ 0 ∷ 3 ∷ 35 ∷ 0 ∷ 16 ∷ [] } ∷ [] }

abbrev config : Config
config = record { image = image; top = top }

abbrev add : Instr
add = instr.Amo (record { op = amo.Add; labels = unlabelled; rd = 5; rs1 = 0; rs2 = 11; rd_in_range = omega arith; rs1_in_range = omega arith; rs2_in_range = omega arith; lr_has_no_source = λ e. absurd (add_is_not_lr e) })

found_add : IsFound image 4096 (This add)
unfolding fetched word_among byte_among
found_add = refl

abbrev lw : Instr
lw = instr.Load (record { op = Lw; rd = 6; rs1 = 0; offset = pos 256; rd_in_range = omega arith; rs1_in_range = omega arith; offset_in_range = record { low = omega arith; high = omega arith } })

found_lw : IsFound image 4100 (This lw)
unfolding fetched word_among byte_among
found_lw = refl

abbrev add_need : Need
add_need = needed.Rmw (word_addr 0) amo.Add 2 unlabelled

abbrev load_need : Need
load_need = needed.Load (word_addr 256) 15 unlabelled false

abbrev hart0 : HartState
hart0 = opening_hart image top 0

abbrev added0 : HartEffect
added0 = record { need = add_need; next = after_need hart0 (This add) add_need 0 }

does_add0 : Does image top hart0 add_need 0 added0.next
unfolding is_writable
does_add0 = record { goes = refl; found = This add; is_found = found_add; needs = refl; after = refl }

abbrev loaded0 : HartEffect
loaded0 = record { need = load_need; next = after_need added0.next (This lw) load_need 0 }

does_load0 : Does image top added0.next load_need 0 loaded0.next
unfolding is_writable
does_load0 = record { goes = refl; found = This lw; is_found = found_lw; needs = refl; after = refl }

needs_add0 : Needs image top hart0 add_need
needs_add0 = needs_of _ _ _ _ _ _ does_add0

needs_load0 : Needs image top added0.next load_need
needs_load0 = needs_of _ _ _ _ _ _ does_load0

abbrev hart1 : HartState
hart1 = opening_hart image top 1

abbrev added1 : HartEffect
added1 = record { need = add_need; next = after_need hart1 (This add) add_need 2 }

does_add1 : Does image top hart1 add_need 2 added1.next
unfolding is_writable
does_add1 = record { goes = refl; found = This add; is_found = found_add; needs = refl; after = refl }

abbrev loaded1 : HartEffect
loaded1 = record { need = load_need; next = after_need added1.next (This lw) load_need 0 }

does_load1 : Does image top added1.next load_need 0 loaded1.next
unfolding is_writable
does_load1 = record { goes = refl; found = This lw; is_found = found_lw; needs = refl; after = refl }

needs_add1 : Needs image top hart1 add_need
needs_add1 = needs_of _ _ _ _ _ _ does_add1

needs_load1 : Needs image top added1.next load_need
needs_load1 = needs_of _ _ _ _ _ _ does_load1

abbrev s1 : Step
s1 = step 0 1 0 (kind.Ask 0 (hart_id 0) line_0 true) plain

abbrev s2 : Step
s2 = step 0 2 1 (kind.Take (cluster_id 0) (ReadEx line_0)) plain

abbrev s3 : Step
s3 = step 0 3 2 (kind.Take (cluster_id 0) (DataEx line_0 (content 0 0) 0)) plain

abbrev s4 : Step
s4 = step 0 4 0 (kind.Install 0 (hart_id 0) line_0) plain

abbrev s5 : Step
s5 = step 0 5 0 (kind.Rmw (access 0 1 op.Amo unlabelled 0 (Some 0) (Some 2) (seen.Line 0)) line_0 1) added0

abbrev s6 : Step
s6 = step 0 6 0 (kind.BusOwn (hart_id 1) line_0) plain

abbrev s7 : Step
s7 = step 0 7 0 (kind.Rmw (access 1 1 op.Amo unlabelled 0 (Some 2) (Some 4) (seen.Line 1)) line_0 2) added1

abbrev s8 : Step
s8 = step 0 8 0 (kind.Ask 0 (hart_id 0) line_16 false) plain

abbrev s9 : Step
s9 = step 0 9 8 (kind.Take (cluster_id 0) (Read line_16)) plain

abbrev s10 : Step
s10 = step 0 10 9 (kind.Take (cluster_id 0) (Data line_16 (content 0 0))) plain

abbrev s11 : Step
s11 = step 0 11 0 (kind.Install 0 (hart_id 0) line_16) plain

abbrev s12 : Step
s12 = step 0 12 0 (kind.Load (access 0 2 op.Load unlabelled 256 (Some 0) None (seen.Line 0)) 2) loaded0

abbrev s13 : Step
s13 = step 0 13 0 (kind.Evict (hart_id 1) line_0) plain

abbrev s14 : Step
s14 = step 0 14 13 (kind.Take (cluster_id 0) (WriteBack line_0 (content 4 2))) plain

abbrev s15 : Step
s15 = step 0 15 0 (kind.BusRead (hart_id 1) line_16) plain

abbrev s16 : Step
s16 = step 0 16 0 (kind.Load (access 1 2 op.Load unlabelled 256 (Some 0) None (seen.Line 0)) 2) loaded1

abbrev m1 : Machine
m1 = after config (opening config) s1

abbrev m2 : Machine
m2 = after config m1 s2

abbrev m3 : Machine
m3 = after config m2 s3

abbrev m4 : Machine
m4 = after config m3 s4

abbrev m5 : Machine
m5 = after config m4 s5

abbrev m6 : Machine
m6 = after config m5 s6

abbrev m7 : Machine
m7 = after config m6 s7

abbrev m8 : Machine
m8 = after config m7 s8

abbrev m9 : Machine
m9 = after config m8 s9

abbrev m10 : Machine
m10 = after config m9 s10

abbrev m11 : Machine
m11 = after config m10 s11

abbrev m12 : Machine
m12 = after config m11 s12

abbrev m13 : Machine
m13 = after config m12 s13

abbrev m14 : Machine
m14 = after config m13 s14

abbrev m15 : Machine
m15 = after config m14 s15

abbrev m16 : Machine
m16 = after config m15 s16

h1 : CanHappen config (opening config) s1
unfolding Guard row head tail send newest_of word_among byte_among merged member without with_member invals_to total
h1 = record { cluster = omega arith; head = tt; steps = record { cluster = refl; stamp = refl; guard = record { mine = refl; may = record { empty = λ l. refl; lone = refl; cause = FrontOwns refl (record { need = add_need; needs = needs_add0; writes = refl; lacks = refl }) refl (room_for_acks _ 4096 (λ l. refl)) } } } }

h2 : CanHappen config m1 s2
unfolding Guard row head tail send newest_of word_among byte_among merged member without with_member invals_to total
h2 = record { cluster = omega arith; head = refl; steps = record { cluster = refl; stamp = refl; guard = tt } }

h3 : CanHappen config m2 s3
unfolding Guard row head tail send newest_of word_among byte_among merged member without with_member invals_to total
h3 = record { cluster = omega arith; head = refl; steps = record { cluster = refl; stamp = refl; guard = tt } }

h4 : CanHappen config m3 s4
unfolding Guard row head tail send newest_of word_among byte_among merged member without with_member invals_to total
h4 = record { cluster = omega arith; head = tt; steps = record { cluster = refl; stamp = refl; guard = record { mine = refl; came = (refl, refl); room = λ k n m. rw (not_0 k n) refl } } }

h5 : CanHappen config m4 s5
unfolding Guard row head tail send newest_of word_among byte_among merged member without with_member invals_to total
h5 = record { cluster = omega arith; head = tt; steps = record { cluster = refl; stamp = refl; guard = record { op = amo.Add; operand = 2; labels = unlabelled; next = record { mine = refl; need_is = refl; does = does_add0 }; line = refl; owner = refl; not_pending = refl; unbuffered = refl; release = λ e. absurd (no_release e); reserved = tt; access = record { made = refl; seen_is = refl }; version_is = refl } } }

h6 : CanHappen config m5 s6
unfolding Guard row head tail send newest_of word_among byte_among merged member without with_member invals_to total
h6 = record { cluster = omega arith; head = tt; steps = record { cluster = refl; stamp = refl; guard = record { mine = refl; need = inl (record { need = add_need; needs = needs_add1; writes = refl; lacks = refl }); owner = refl; room = λ k n m. rw (not_0 k n) refl } } }

h7 : CanHappen config m6 s7
unfolding Guard row head tail send newest_of word_among byte_among merged member without with_member invals_to total
h7 = record { cluster = omega arith; head = tt; steps = record { cluster = refl; stamp = refl; guard = record { op = amo.Add; operand = 2; labels = unlabelled; next = record { mine = refl; need_is = refl; does = does_add1 }; line = refl; owner = refl; not_pending = refl; unbuffered = refl; release = λ e. absurd (no_release e); reserved = tt; access = record { made = refl; seen_is = refl }; version_is = refl } } }

h8 : CanHappen config m7 s8
unfolding Guard row head tail send newest_of word_among byte_among merged member without with_member invals_to total
h8 = record { cluster = omega arith; head = tt; steps = record { cluster = refl; stamp = refl; guard = record { mine = refl; may = record { empty = λ l. elim (either (l == 0)) [ inl e ↦ rw e refl | inr e ↦ rw e refl ]; lone = refl; cause = FrontReads refl (record { need = load_need; needs = needs_load0; loads = (refl, refl); lacks = refl }) refl } } } }

h9 : CanHappen config m8 s9
unfolding Guard row head tail send newest_of word_among byte_among merged member without with_member invals_to total
h9 = record { cluster = omega arith; head = refl; steps = record { cluster = refl; stamp = refl; guard = tt } }

h10 : CanHappen config m9 s10
unfolding Guard row head tail send newest_of word_among byte_among merged member without with_member invals_to total
h10 = record { cluster = omega arith; head = refl; steps = record { cluster = refl; stamp = refl; guard = tt } }

h11 : CanHappen config m10 s11
unfolding Guard row head tail send newest_of word_among byte_among merged member without with_member invals_to total
h11 = record { cluster = omega arith; head = tt; steps = record { cluster = refl; stamp = refl; guard = record { mine = refl; came = (refl, refl); room = λ k n m. elim (either (k == 0)) [ inl e ↦ rw (e, not_16 k n) refl | inr e ↦ rw (e, not_16 k n) refl ] } } }

h12 : CanHappen config m11 s12
unfolding Guard row head tail send newest_of word_among byte_among merged member without with_member invals_to total
h12 = record { cluster = omega arith; head = tt; steps = record { cluster = refl; stamp = refl; guard = record { labels = unlabelled; reserve = false; next = record { mine = refl; need_is = refl; does = does_load0 }; from = record { holder = refl; level_is = refl; access = record { made = refl; seen_is = refl } } } } }

h13 : CanHappen config m12 s13
unfolding Guard row head tail send newest_of word_among byte_among merged member without with_member invals_to total
h13 = record { cluster = omega arith; head = tt; steps = record { cluster = refl; stamp = refl; guard = record { mine = refl; holder = refl; other = 16; differs = λ e. omega arith; index = refl; wants = ToRead (record { need = load_need; needs = needs_load1; loads = (refl, refl); lacks = refl }) refl; may_leave = inl refl } } }

h14 : CanHappen config m13 s14
unfolding Guard row head tail send newest_of word_among byte_among merged member without with_member invals_to total
h14 = record { cluster = omega arith; head = refl; steps = record { cluster = refl; stamp = refl; guard = tt } }

h15 : CanHappen config m14 s15
unfolding Guard row head tail send newest_of word_among byte_among merged member without with_member invals_to total
h15 = record { cluster = omega arith; head = tt; steps = record { cluster = refl; stamp = refl; guard = record { mine = refl; need = record { need = load_need; needs = needs_load1; loads = (refl, refl); lacks = refl }; copy = refl; room = λ k n m. elim (either (k == 0)) [ inl e ↦ rw e refl | inr e ↦ rw (e, not_16 k n) refl ] } } }

h16 : CanHappen config m15 s16
unfolding Guard row head tail send newest_of word_among byte_among merged member without with_member invals_to total
h16 = record { cluster = omega arith; head = tt; steps = record { cluster = refl; stamp = refl; guard = record { labels = unlabelled; reserve = false; next = record { mine = refl; need_is = refl; does = does_load1 }; from = record { holder = refl; level_is = refl; access = record { made = refl; seen_is = refl } } } } }

idle0 : (l : ℕ) → (((m16.parts 0).cells l).slot ≡ NoSlot) × (((m16.parts 0).cells l).acks ≡ NoAcks)
unfolding Guard row head tail send newest_of word_among byte_among merged member without with_member invals_to total
idle0 l = elim (either (l == 0)) [ inl e ↦ elim (either (l == 16)) [ inl f ↦ rw (e, f) (refl, refl) | inr f ↦ rw (e, f) (refl, refl) ] | inr e ↦ elim (either (l == 16)) [ inl f ↦ rw (e, f) (refl, refl) | inr f ↦ rw (e, f) (refl, refl) ] ]

idle : (c l : ℕ) → c < 1 → (((m16.parts c).cells l).slot ≡ NoSlot) × (((m16.parts c).cells l).acks ≡ NoAcks)
idle zero l h = idle0 l
idle (suc c) l h = absurd (omega arith)

buffers : (h : ℕ) → h < 2 → (hart_at config h m16).buffer ≡ []
unfolding Guard row head tail send newest_of word_among byte_among merged member without with_member invals_to total
buffers zero i = refl
buffers (suc zero) i = refl
buffers (suc (suc h)) i = absurd (omega arith)

trap_at : (h : ℕ) → h < 2 → DidTrap (hart_at config h m16).core.end → ⊥
unfolding Guard row head tail send newest_of word_among byte_among merged member without with_member invals_to total
trap_at zero i t = t
trap_at (suc zero) i t = t
trap_at (suc (suc h)) i t = absurd (omega arith)

no_trap : SomeTrapped config m16 → ⊥
no_trap s = trap_at s.hart s.inside s.holds

spent0 : IsSpent config 0 m16
unfolding Guard row head tail send newest_of word_among byte_among merged member without with_member invals_to total
spent0 = record { running = refl; all = refl }

spent1 : IsSpent config 1 m16
unfolding Guard row head tail send newest_of word_among byte_among merged member without with_member invals_to total
spent1 = record { running = refl; all = refl }

stands : (h : ℕ) → h < 2 → IsStopped config h m16
unfolding Guard row head tail send newest_of word_among byte_among merged member without with_member invals_to total
stands zero i = Spent spent0
stands (suc zero) i = Spent spent1
stands (suc (suc h)) i = absurd (omega arith)

complete : IsComplete config m16
unfolding Guard row head tail send newest_of word_among byte_among merged member without with_member invals_to total
complete = record { lanes = refl; buffers = buffers; slots = λ c l h. (idle c l h).0; acks = λ c l h. (idle c l h).1; harts = stands }

status : IsStatus config m16 10
unfolding Guard row head tail send newest_of word_among byte_among merged member without with_member invals_to total
status = AfterBudget no_trap (record { hart = 1; inside = omega arith; holds = spent1 })

abbrev steps : List Step
steps = s1 ∷ s2 ∷ s3 ∷ s4 ∷ s5 ∷ s6 ∷ s7 ∷ s8 ∷ s9 ∷ s10 ∷ s11 ∷ s12 ∷ s13 ∷ s14 ∷ s15 ∷ s16 ∷ []

pub sharing : Example 1 2 10 log.sharing
sharing = record {
  config = config;
  log = map event_of steps;
  kinds = refl;
  complete = record { end = m16; reaches = record { run = record { steps = steps; events = refl; happen = (h1, (h2, (h3, (h4, (h5, (h6, (h7, (h8, (h9, (h10, (h11, (h12, (h13, (h14, (h15, (h16, tt)))))))))))))))); rising = rises (map event_of steps) refl }; state = refl }; complete = complete };
  clusters_are = refl;
  harts_are = refl;
  status_is = status;
}
