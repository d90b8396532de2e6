-- One step of the sequential machine: a hart does its next instruction at once.
use Rattle.std.specs.Prelude.{◌≡◌, ◌<◌, ℕ, ◌+◌, ◌==◌, Bool, true, ◌&&◌, if◌then◌else◌, List, [], ◌∷◌, ◌++◌, Option, Some, None, is_some}
use Rattle.dash_base.specs.declared.id.WordAddr.{WordAddr}
use Rattle.dash_base.specs.declared.ops.AmoOp.{AmoOp}
use Rattle.dash_base.specs.declared.ops.AmoOp.TheVariants.{Sc}
use Rattle.dash_base.specs.declared.topology.Topology.{Topology}
use Rattle.elf_load.specs.Image.{ImageView}
use Rattle.dash_event.specs.declared.access.Access.{Access}
use Rattle.dash_event.specs.declared.access.Op.{Op}
use Rattle.dash_event.specs.declared.access.Op.TheVariants as op
use Rattle.dash_event.specs.declared.step_record.StepRecord.{StepRecord}
use Rattle.dash_event.specs.declared.step_record.StepRecord.TheVariants as step
use Rattle.hart_core.specs.HartState.{HartState}
use Rattle.hart_core.specs.Meaning.{Does}
use Rattle.dash_base.specs.Places.{hart_count}
use Rattle.dash_base.specs.declared.need.Need.{Need}
use Rattle.dash_base.specs.declared.need.Need.TheVariants.{Put, Stop, Load, Rmw, Ask, Unlock}
use Rattle.flat_model.specs.State.{FlatState}
use Rattle.dash_event.specs.Offered.{offered}
use Rattle.dash_event.specs.Effects.{hart_of, answer_of, is_of_memory, word_after, lock_after}

-- an SC may always fail; it succeeds only where its hart has reserved the word
abbrev pub MaySucceed : Option ℕ → WordAddr → AmoOp → Bool → Type 0
MaySucceed reserved word Sc true = reserved ≡ Some word.0
MaySucceed reserved word amo succeeds = Unit {0}

-- on this state hart h can do what it needs: an SC as above, an Ask where the lock word is 0, and anything else always
abbrev pub IsPossible : FlatState → ℕ → Need → Bool → Type 0
IsPossible s h (Rmw word amo operand labels) succeeds = MaySucceed (s.reservations h) word amo succeeds
IsPossible s h (Ask word value) succeeds = s.locks word.0 ≡ 0
IsPossible s h need succeeds = Unit {0}

-- what stands in the word that an instruction reads
abbrev pub content : FlatState → Need → ℕ
content s (Load word mask labels reserve) = s.memory word.0
content s (Rmw word amo operand labels) = s.memory word.0
content s (Unlock word) = s.locks word.0
content s need = 0

-- the record of a step: its access, or the byte that it puts, or the end of its hart, or nothing more than its hart
abbrev pub record_of : ℕ → Need → Option Access → StepRecord
record_of h need (Some a) = step.Access a
record_of h (Put byte) None = step.Byte (record { 0 = h }) byte
record_of h (Stop end) None = step.Stopped (record { 0 = h }) end
record_of h need None = step.Plain (record { 0 = h })

-- a hart's own reservation after its access: LR sets it, and an SC removes it
abbrev pub own_reservation : Op → WordAddr → Option ℕ → Option ℕ
own_reservation op.Reserve word old = Some word.0
own_reservation op.Cond word old = None
own_reservation kind word old = old

-- what is left of a reservation by a write of a word
abbrev pub unless_of : WordAddr → Option ℕ → Option ℕ
unless_of word None = None
unless_of word (Some reserved) = if reserved == word.0 then None else Some reserved

-- the reservation of hart h after a step: a write of memory removes those of its word that other harts have
abbrev pub reservation_after : ℕ → StepRecord → Option ℕ → Option ℕ
reservation_after h (step.Access a) old =
    if h == a.hart.0 then own_reservation a.op a.word old
    else (if is_of_memory a.op && is_some a.written then unless_of a.word old else old)
reservation_after h r old = old

-- the console after a step
abbrev pub console_after : StepRecord → List ℕ → List ℕ
console_after (step.Byte hart byte) old = old ++ byte ∷ []
console_after r old = old

-- the state after a step with this record, whose hart became `next`
abbrev pub flat_state_after : FlatState → StepRecord → HartState → FlatState
flat_state_after s r next = record {
  harts = λ h. if h == (hart_of r).0 then next else s.harts h;
  reservations = λ h. reservation_after h r (s.reservations h);
  memory = λ address. word_after address r (s.memory address);
  locks = λ address. lock_after address r (s.locks address);
  console = console_after r s.console;
}

-- hart h, neither ended nor at its budget, does its next instruction at once
pub record IsFlatStep (image : ImageView) (t : Topology) (old : FlatState) (h : ℕ) (r : StepRecord) (new : FlatState) : Type 0 where
  pub in_range : h < hart_count t
  pub need : Need
  pub succeeds : Bool
  pub possible : IsPossible old h need succeeds
  pub recorded : r ≡ record_of h need (offered h ((old.harts h).retired + 1) need (content old need) succeeds)
  pub next : HartState
  pub does : Does image t (old.harts h) need (answer_of r) next
  pub after : new ≡ flat_state_after old r next
