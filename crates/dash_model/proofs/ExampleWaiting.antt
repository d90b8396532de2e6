-- A hart that asks twice for a lock word waits.
use Rattle.dash_model.proofs.TableCode.{swap_is_not_lr}
use Rattle.std.proofs.Common.{inl, ◌≡◌, ℕ, zero, suc, ◌<◌, Some, List, [], ◌∷◌, map, refl, arith}
use Rattle.dash_base.specs.declared.topology.Topology.{Topology}
use Rattle.dash_base.specs.declared.instr.Instr.{Instr}
use Rattle.dash_base.specs.Words.{merged}
use Rattle.elf_load.specs.Image.{ImageView, fetched, word_among, byte_among, is_writable}
use Rattle.hart_core.specs.HartState.{HartState}
use Rattle.hart_core.specs.Opening.{opening_hart}
use Rattle.hart_core.specs.Meaning.{IsFound, Does, after_need}
use Rattle.hart_core.specs.declared.found.Found.TheVariants.{This}
use Rattle.dash_base.specs.declared.need.Need.{Need}
use Rattle.hart_core.proofs.LawsOffered.{needs_of}
use Rattle.write_buffer.specs.Look.{newest_of}
use Rattle.dash_msg.specs.declared.msg.Msg.TheVariants.{LockAsk, LockGrant}
use Rattle.dash_model.specs.Maps.{member, total, without, with_member}
use Rattle.dash_model.specs.Config.{Config, cluster_id, hart_id}
use Rattle.dash_model.specs.Net.{head, tail, send}
use Rattle.dash_model.specs.Cell.{NoSlot, NoAcks}
use Rattle.dash_model.specs.HartRows.{HartEffect}
use Rattle.dash_model.specs.Requests.{invals_to}
use Rattle.dash_model.specs.Row.{row}
use Rattle.dash_model.specs.Guard.{Guard}
use Rattle.dash_model.specs.Machine.{Machine, Step, event_of, opening, CanHappen, after}
use Rattle.dash_model.specs.Complete.{IsSpent, IsStopped, Waits, IsWaiting, IsComplete, hart_at, IsStatus, AfterWait, SomeTrapped, DidTrap}
use Rattle.dash_model.specs.Examples.{Example}
use Rattle.dash_model.specs.ExampleLogs.{word_addr, access, acquire}
use Rattle.dash_model.proofs.ExampleParts.{shape, step, plain, rises}
use Rattle.dash_base.specs.declared.instr.Instr.TheVariants as instr
use Rattle.dash_base.specs.declared.ops.AmoOp.TheVariants as amo
use Rattle.dash_base.specs.declared.need.Need.TheVariants as needed
use Rattle.dash_event.specs.declared.access.Op.TheVariants as op
use Rattle.dash_event.specs.declared.access.Seen.TheVariants as seen
use Rattle.dash_event.specs.declared.event.Kind.TheVariants as kind
use Rattle.dash_model.specs.ExampleLogs as log

abbrev top : Topology
top = shape 1 1 2 1 0 (record { low = omega arith; high = omega arith }) (record { low = omega arith; high = omega arith }) (record { low = omega arith; high = omega arith }) (omega arith) (omega arith) (omega arith) (record { low = omega arith; high = omega arith }) (omega arith)

-- amoswap.w.aq t1,a1,(sp), twice
abbrev image : ImageView
image = record { entry = 4096; segments = record { vaddr = 4096; memsz = 8; flags = 5; bytes = 47 ∷ 35 ∷ 177 ∷ 12 ∷ 47 ∷ 35 ∷ 177 ∷ 12 ∷ [] } ∷ [] }

abbrev config : Config
config = record { image = image; top = top }

abbrev ask : Instr
ask = instr.Amo (record { op = amo.Swap; labels = acquire; rd = 6; rs1 = 2; rs2 = 11; rd_in_range = omega arith; rs1_in_range = omega arith; rs2_in_range = omega arith; lr_has_no_source = λ e. absurd (swap_is_not_lr e) })

found_first : IsFound image 4096 (This ask)
unfolding fetched word_among byte_among
found_first = refl

found_second : IsFound image 4100 (This ask)
unfolding fetched word_among byte_among
found_second = refl

abbrev hart : HartState
hart = opening_hart image top 0

abbrev lock_need : Need
lock_need = needed.Ask (word_addr 65536) 1

abbrev did1 : HartEffect
did1 = record { need = lock_need; next = after_need hart (This ask) lock_need 0 }

does1 : Does image top hart lock_need 0 did1.next
unfolding is_writable
does1 = record { goes = refl; found = This ask; is_found = found_first; needs = refl; after = refl }

abbrev did2 : HartEffect
did2 = record { need = lock_need; next = after_need did1.next (This ask) lock_need 0 }

does2 : Does image top did1.next lock_need 0 did2.next
unfolding is_writable
does2 = record { goes = refl; found = This ask; is_found = found_second; needs = refl; after = refl }

abbrev s1 : Step
s1 = step 0 1 0 (kind.LockSend (hart_id 0) (LockAsk (hart_id 0) 1 (word_addr 65536) 1)) plain

abbrev s2 : Step
s2 = step 0 2 1 (kind.Take (cluster_id 0) (LockAsk (hart_id 0) 1 (word_addr 65536) 1)) plain

abbrev s3 : Step
s3 = step 0 3 0 (kind.Grant (access 0 1 op.Ask acquire 65536 (Some 0) (Some 1) (seen.Lock 0))) plain

abbrev s4 : Step
s4 = step 0 4 3 (kind.Take (cluster_id 0) (LockGrant (hart_id 0))) did1

abbrev s5 : Step
s5 = step 0 5 0 (kind.LockSend (hart_id 0) (LockAsk (hart_id 0) 2 (word_addr 65536) 1)) plain

abbrev s6 : Step
s6 = step 0 6 5 (kind.Take (cluster_id 0) (LockAsk (hart_id 0) 2 (word_addr 65536) 1)) plain

abbrev m1 : Machine
m1 = after config (opening config) s1

abbrev m2 : Machine
m2 = after config m1 s2

abbrev m3 : Machine
m3 = after config m2 s3

abbrev m4 : Machine
m4 = after config m3 s4

abbrev m5 : Machine
m5 = after config m4 s5

abbrev m6 : Machine
m6 = after config m5 s6

h1 : CanHappen config (opening config) s1
unfolding Guard row head tail send newest_of word_among byte_among merged member without with_member invals_to total
h1 = record { cluster = omega arith; head = tt; steps = record { cluster = refl; stamp = refl; guard = record { mine = refl; need = lock_need; needs = needs_of _ _ _ _ _ _ does1; unsent = refl; sends = refl } } }

h2 : CanHappen config m1 s2
unfolding Guard row head tail send newest_of word_among byte_among merged member without with_member invals_to total
h2 = record { cluster = omega arith; head = refl; steps = record { cluster = refl; stamp = refl; guard = tt } }

h3 : CanHappen config m2 s3
unfolding Guard row head tail send newest_of word_among byte_among merged member without with_member invals_to total
h3 = record { cluster = omega arith; head = tt; steps = record { cluster = refl; stamp = refl; guard = record { mine = refl; is_zero = refl; waiter = record { hart = 0; number = 1; value = 1 }; others = []; queue = refl; access = record { made = refl; seen_is = refl } } } }

h4 : CanHappen config m3 s4
unfolding Guard row head tail send newest_of word_among byte_among merged member without with_member invals_to total
h4 = record { cluster = omega arith; head = refl; steps = record { cluster = refl; stamp = refl; guard = does1 } }

h5 : CanHappen config m4 s5
unfolding Guard row head tail send newest_of word_among byte_among merged member without with_member invals_to total
h5 = record { cluster = omega arith; head = tt; steps = record { cluster = refl; stamp = refl; guard = record { mine = refl; need = lock_need; needs = needs_of _ _ _ _ _ _ does2; unsent = refl; sends = refl } } }

h6 : CanHappen config m5 s6
unfolding Guard row head tail send newest_of word_among byte_among merged member without with_member invals_to total
h6 = record { cluster = omega arith; head = refl; steps = record { cluster = refl; stamp = refl; guard = tt } }

idle0 : (l : ℕ) → (((m6.parts 0).cells l).slot ≡ NoSlot) × (((m6.parts 0).cells l).acks ≡ NoAcks)
unfolding Guard row head tail send newest_of word_among byte_among merged member without with_member invals_to total
idle0 l = (refl, refl)

idle : (c l : ℕ) → c < 1 → (((m6.parts c).cells l).slot ≡ NoSlot) × (((m6.parts c).cells l).acks ≡ NoAcks)
idle zero l h = idle0 l
idle (suc c) l h = absurd (omega arith)

buffers : (h : ℕ) → h < 1 → (hart_at config h m6).buffer ≡ []
unfolding Guard row head tail send newest_of word_among byte_among merged member without with_member invals_to total
buffers zero i = refl
buffers (suc h) i = absurd (omega arith)

trap_at : (h : ℕ) → h < 1 → DidTrap (hart_at config h m6).core.end → ⊥
unfolding Guard row head tail send newest_of word_among byte_among merged member without with_member invals_to total
trap_at zero i t = t
trap_at (suc h) i t = absurd (omega arith)

no_trap : SomeTrapped config m6 → ⊥
no_trap s = trap_at s.hart s.inside s.holds

spent_at : (h : ℕ) → h < 1 → IsSpent config h m6 → ⊥
unfolding Guard row head tail send newest_of word_among byte_among merged member without with_member invals_to total
spent_at zero i s = let e = s.all in omega arith
spent_at (suc h) i s = absurd (omega arith)

waits : IsWaiting config 0 m6
unfolding Guard row head tail send newest_of word_among byte_among merged member without with_member invals_to total
waits = record { word = 0; inside = omega arith; queued = inl refl; taken = λ e. omega arith }

stands : (h : ℕ) → h < 1 → IsStopped config h m6
unfolding Guard row head tail send newest_of word_among byte_among merged member without with_member invals_to total
stands zero i = Waits waits
stands (suc h) i = absurd (omega arith)

complete : IsComplete config m6
unfolding Guard row head tail send newest_of word_among byte_among merged member without with_member invals_to total
complete = record { lanes = refl; buffers = buffers; slots = λ c l h. (idle c l h).0; acks = λ c l h. (idle c l h).1; harts = stands }

status : IsStatus config m6 12
unfolding Guard row head tail send newest_of word_among byte_among merged member without with_member invals_to total
status = AfterWait no_trap (λ s. spent_at s.hart s.inside s.holds) (record { hart = 0; inside = omega arith; holds = waits })

abbrev steps : List Step
steps = s1 ∷ s2 ∷ s3 ∷ s4 ∷ s5 ∷ s6 ∷ []

pub waiting : Example 1 1 12 log.waiting
waiting = record {
  config = config;
  log = map event_of steps;
  kinds = refl;
  complete = record { end = m6; reaches = record { run = record { steps = steps; events = refl; happen = (h1, (h2, (h3, (h4, (h5, (h6, tt)))))); rising = rises (map event_of steps) refl }; state = refl }; complete = complete };
  clusters_are = refl;
  harts_are = refl;
  status_is = status;
}
