-- A hart traps at its first instruction.
use Rattle.std.proofs.Common.{◌≡◌, ℕ, zero, suc, ◌<◌, List, [], ◌∷◌, map, refl, arith}
use Rattle.dash_base.specs.declared.topology.Topology.{Topology}
use Rattle.dash_base.specs.declared.end.End.TheVariants.{Trapped}
use Rattle.dash_base.specs.declared.end.Trap.TheVariants.{Fetch}
use Rattle.dash_base.specs.Words.{merged}
use Rattle.elf_load.specs.Image.{ImageView, fetched, word_among, byte_among}
use Rattle.hart_core.specs.HartState.{HartState}
use Rattle.hart_core.specs.Opening.{opening_hart}
use Rattle.hart_core.specs.Meaning.{IsFound, Does, after_need}
use Rattle.hart_core.specs.declared.found.Found.TheVariants.{NoWord}
use Rattle.write_buffer.specs.Look.{newest_of}
use Rattle.dash_model.specs.Maps.{member, total, without, with_member}
use Rattle.dash_model.specs.Config.{Config, hart_id}
use Rattle.dash_model.specs.Net.{head, tail, send}
use Rattle.dash_model.specs.Cell.{NoSlot, NoAcks}
use Rattle.dash_model.specs.HartRows.{HartEffect}
use Rattle.dash_model.specs.Requests.{invals_to}
use Rattle.dash_model.specs.Row.{row}
use Rattle.dash_model.specs.Guard.{Guard}
use Rattle.dash_model.specs.Machine.{Machine, Step, event_of, opening, CanHappen, after}
use Rattle.dash_model.specs.Complete.{IsStopped, Ended, IsComplete, hart_at, IsStatus, AfterTrap}
use Rattle.dash_model.specs.Examples.{Example}
use Rattle.dash_model.specs.ExampleLogs.{}
use Rattle.dash_model.proofs.ExampleParts.{shape, step, rises}
use Rattle.dash_base.specs.declared.need.Need.TheVariants as needed
use Rattle.dash_event.specs.declared.event.Kind.TheVariants as kind
use Rattle.dash_model.specs.ExampleLogs as log

abbrev top : Topology
top = shape 1 1 1 0 0 (record { low = omega arith; high = omega arith }) (record { low = omega arith; high = omega arith }) (record { low = omega arith; high = omega arith }) (omega arith) (omega arith) (omega arith) (record { low = omega arith; high = omega arith }) (omega arith)

-- no instruction at all
abbrev image : ImageView
image = record { entry = 4096; segments = [] }

abbrev config : Config
config = record { image = image; top = top }

abbrev hart : HartState
hart = opening_hart image top 0

found_none : IsFound image 4096 NoWord
unfolding fetched
found_none = refl

abbrev did1 : HartEffect
did1 = record { need = needed.Stop (Trapped Fetch 4096); next = after_need hart NoWord (needed.Stop (Trapped Fetch 4096)) 0 }

does1 : Does image top hart (needed.Stop (Trapped Fetch 4096)) 0 did1.next
does1 = record { goes = refl; found = NoWord; is_found = found_none; needs = refl; after = refl }

abbrev s1 : Step
s1 = step 0 1 0 (kind.Stop (hart_id 0) 4096 (Trapped Fetch 4096)) did1

abbrev m1 : Machine
m1 = after config (opening config) s1

h1 : CanHappen config (opening config) s1
unfolding Guard row head tail send newest_of word_among byte_among merged member without with_member invals_to total
h1 = record { cluster = omega arith; head = tt; steps = record { cluster = refl; stamp = refl; guard = record { retires = record { mine = refl; need_is = refl; does = does1 }; pc_is = refl } } }

idle0 : (l : ℕ) → (((m1.parts 0).cells l).slot ≡ NoSlot) × (((m1.parts 0).cells l).acks ≡ NoAcks)
unfolding Guard row head tail send newest_of word_among byte_among merged member without with_member invals_to total
idle0 l = (refl, refl)

idle : (c l : ℕ) → c < 1 → (((m1.parts c).cells l).slot ≡ NoSlot) × (((m1.parts c).cells l).acks ≡ NoAcks)
idle zero l h = idle0 l
idle (suc c) l h = absurd (omega arith)

buffers : (h : ℕ) → h < 1 → (hart_at config h m1).buffer ≡ []
unfolding Guard row head tail send newest_of word_among byte_among merged member without with_member invals_to total
buffers zero i = refl
buffers (suc h) i = absurd (omega arith)

stands : (h : ℕ) → h < 1 → IsStopped config h m1
unfolding Guard row head tail send newest_of word_among byte_among merged member without with_member invals_to total
stands zero i = Ended refl
stands (suc h) i = absurd (omega arith)

complete : IsComplete config m1
unfolding Guard row head tail send newest_of word_among byte_among merged member without with_member invals_to total
complete = record { lanes = refl; buffers = buffers; slots = λ c l h. (idle c l h).0; acks = λ c l h. (idle c l h).1; harts = stands }

status : IsStatus config m1 11
unfolding Guard row head tail send newest_of word_among byte_among merged member without with_member invals_to total
status = AfterTrap (record { hart = 0; inside = omega arith; holds = tt })

abbrev steps : List Step
steps = s1 ∷ []

pub trapping : Example 1 1 11 log.trapping
trapping = record {
  config = config;
  log = map event_of steps;
  kinds = refl;
  complete = record { end = m1; reaches = record { run = record { steps = steps; events = refl; happen = (h1, tt); rising = rises (map event_of steps) refl }; state = refl }; complete = complete };
  clusters_are = refl;
  harts_are = refl;
  status_is = status;
}
