-- A log replayed: each hart does its instructions one after another, and each is answered as its event says.
use Rattle.std.specs.Prelude.{◌≡◌, ◌≢◌, ◌⊎◌, ℕ, ◌+◌, ◌<◌, Bool, List, Some, None, IsSome}
use Rattle.dash_base.specs.declared.id.HartId.{HartId}
use Rattle.dash_base.specs.declared.topology.Topology.{Topology}
use Rattle.elf_load.specs.Image.{ImageView}
use Rattle.dash_base.specs.declared.need.HintKind.{HintKind}
use Rattle.hart_core.specs.HartState.{HartState}
use Rattle.hart_core.specs.Meaning.{Needs, Does}
use Rattle.hart_core.specs.Opening.{opening_hart}
use Rattle.dash_base.specs.Places.{hart_count}
use Rattle.dash_base.specs.declared.need.Need.{Need}
use Rattle.dash_base.specs.declared.need.Need.TheVariants as needed
use Rattle.dash_msg.specs.declared.msg.Msg.{Msg}
use Rattle.dash_msg.specs.declared.msg.Msg.TheVariants.{LockAsk, Unlock, LockGrant, UnlockAck}
use Rattle.dash_event.specs.Records.{unseen}
use Rattle.dash_event.specs.declared.access.Access.{Access}
use Rattle.dash_event.specs.declared.access.Op.TheVariants as op
use Rattle.dash_event.specs.declared.access.Seen.TheVariants.{Line, Own, Nothing}
use Rattle.dash_event.specs.declared.event.Event.{Event}
use Rattle.dash_event.specs.declared.event.Kind.{Kind}
use Rattle.dash_event.specs.declared.event.Kind.TheVariants as kind
use Rattle.dash_event.specs.Offered.{offered}
use Rattle.dash_event.specs.Effects.{reply}
use Rattle.dash_model.specs.Log.{IsEventAt}

-- the harts of a machine, by their numbers
abbrev pub Harts : Type 0
Harts = ℕ → HartState

-- a hart of the machine did its next instruction, which needed this and was answered so, and no other hart moved
pub record Moves (image : ImageView) (t : Topology) (old new : Harts) (hart : HartId) (need : Need) (answer : ℕ) : Type 0 where
  pub in_range : hart.0 < hart_count t
  pub does : Does image t (old hart.0) need answer (new hart.0)
  pub others : (g : ℕ) → g ≢ hart.0 → new g ≡ old g

-- the same of an instruction at this pc that is answered nothing
pub record MovesAt (image : ImageView) (t : Topology) (old new : Harts) (hart : HartId) (pc : ℕ) (need : Need) : Type 0 where
  pub moves : Moves image t old new hart need 0
  pub pc_is : pc ≡ (old hart.0).pc

-- no hart moved
pub record Stays (old new : Harts) : Type 0 where
  pub stays : (g : ℕ) → new g ≡ old g

-- a hart of the machine is named, and none moved
pub record Names (t : Topology) (old new : Harts) (hart : HartId) : Type 0 where
  pub in_range : hart.0 < hart_count t
  pub stays : (g : ℕ) → new g ≡ old g

-- the message of the instruction of this number of a hart, where it needs a lock word
abbrev pub IsLockMsg : HartId → ℕ → Msg → Need → Type 0
IsLockMsg hart number msg (needed.Ask word value) = msg ≡ LockAsk hart number word value
IsLockMsg hart number msg (needed.Unlock word) = msg ≡ Unlock hart number word
IsLockMsg hart number msg need = ⊥

-- a hart of the machine sent the message of its next instruction, and none moved
pub record Sends (image : ImageView) (t : Topology) (old new : Harts) (hart : HartId) (msg : Msg) : Type 0 where
  pub in_range : hart.0 < hart_count t
  pub stays : (g : ℕ) → new g ≡ old g
  pub need : Need
  pub needs : Needs image t (old hart.0) need
  pub is_sent : IsLockMsg hart ((old hart.0).retired + 1) msg need

-- where a message names a hart, it is one of the machine
abbrev pub NamesHarts : Topology → Msg → Type 0
NamesHarts t (LockAsk hart number word value) = hart.0 < hart_count t
NamesHarts t (Unlock hart number word) = hart.0 < hart_count t
NamesHarts t (LockGrant hart) = hart.0 < hart_count t
NamesHarts t (UnlockAck hart old) = hart.0 < hart_count t
NamesHarts t msg = Unit {0}

-- a message was taken, and no hart moved
pub record Takes (t : Topology) (old new : Harts) (msg : Msg) : Type 0 where
  pub in_range : NamesHarts t msg
  pub stays : (g : ℕ) → new g ≡ old g

-- the next instruction of a hart made an access, with what it read and wrote
pub record Accesses (image : ImageView) (t : Topology) (old new : Harts) (a : Access) : Type 0 where
  pub need : Need
  pub moves : Moves image t old new a.hart need (reply a.read a.written)
  pub content : ℕ
  pub succeeds : Bool
  pub is_offered : offered a.hart.0 ((old a.hart.0).retired + 1) need content succeeds ≡ Some (unseen a)

-- an access is shown a version of its word's line, in L1 or in L2
pub record IsShownVersion (a : Access) (level : ℕ) : Type 0 where
  pub version : ℕ
  pub is : a.seen ≡ Line version
  pub in_caches : (level ≡ 1) ⊎ (level ≡ 2)

-- an access is shown its hart's own store, at level 0: the write buffer
pub record IsShownStore (a : Access) (level : ℕ) : Type 0 where
  pub number : ℕ
  pub is : a.seen ≡ Own number
  pub in_buffer : level ≡ 0

-- at its level a load is shown a version or its hart's own store, and LR a version
abbrev pub IsLoad : Access → ℕ → Type 0
IsLoad a level = ((a.op ≡ op.Load) × (IsShownVersion a level ⊎ IsShownStore a level)) ⊎ ((a.op ≡ op.Reserve) × IsShownVersion a level)

-- an atomic operation, or an SC that succeeds
abbrev pub IsRmw : Access → Type 0
IsRmw a = (a.op ≡ op.Amo) ⊎ ((a.op ≡ op.Cond) × IsSome a.written)

-- the next instruction of a hart was a fence, at this pc
pub record Fences (image : ImageView) (t : Topology) (old new : Harts) (hart : HartId) (pc : ℕ) : Type 0 where
  pub waits : Bool
  pub next : MovesAt image t old new hart pc (needed.Fence waits)

-- the next instruction of a hart was a hint, at this pc
pub record Hints (image : ImageView) (t : Topology) (old new : Harts) (hart : HartId) (pc : ℕ) : Type 0 where
  pub hint : HintKind
  pub address : ℕ
  pub next : MovesAt image t old new hart pc (needed.Hint hint address)

-- what an event does to the harts
abbrev pub Replays : ImageView → Topology → Harts → Kind → Harts → Type 0
Replays image t old (kind.Alu hart pc) new = MovesAt image t old new hart pc needed.Alu
Replays image t old (kind.Fence hart pc) new = Fences image t old new hart pc
Replays image t old (kind.Hint hart pc slot) new = Hints image t old new hart pc
Replays image t old (kind.Put hart pc byte) new = MovesAt image t old new hart pc (needed.Put byte)
Replays image t old (kind.Stop hart pc end) new = MovesAt image t old new hart pc (needed.Stop end)
Replays image t old (kind.Load a level) new = Accesses image t old new a × IsLoad a level
Replays image t old (kind.Store a) new = Accesses image t old new a × (a.op ≡ op.Store) × (a.seen ≡ Nothing)
Replays image t old (kind.Commit hart number line version) new = Names t old new hart
Replays image t old (kind.Rmw a line version) new = Accesses image t old new a × IsRmw a
Replays image t old (kind.ScFail a) new = Accesses image t old new a × (a.op ≡ op.Cond) × (a.written ≡ None) × (a.seen ≡ Nothing)
Replays image t old (kind.LockSend hart msg) new = Sends image t old new hart msg
Replays image t old (kind.BusRead hart line) new = Names t old new hart
Replays image t old (kind.BusOwn hart line) new = Names t old new hart
Replays image t old (kind.Evict hart line) new = Names t old new hart
Replays image t old (kind.Ask slot hart line own) new = Names t old new hart
Replays image t old (kind.Again slot line) new = Stays old new
Replays image t old (kind.Install slot hart line) new = Names t old new hart
Replays image t old (kind.Grant a) new = Accesses image t old new a × (a.op ≡ op.Ask)
Replays image t old (kind.Free from a) new = Accesses image t old new a × (a.op ≡ op.Unlock)
Replays image t old (kind.Take from msg) new = Takes t old new msg

-- the harts before each event of a log and after its last, from their opening states
pub record IsReplay (image : ImageView) (t : Topology) (log : List Event) (harts : ℕ → Harts) : Type 0 where
  pub opens : (h : ℕ) → harts 0 h ≡ opening_hart image t h
  pub moves : (i : ℕ) (happened : Kind) → IsEventAt log i happened → Replays image t (harts i) happened (harts (i + 1))
