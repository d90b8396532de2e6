-- Whether a message finds a case of its row, at the cluster that takes it.
use Rattle.std.specs.Prelude.{◌≡◌, ℕ, Bool, true, false, List}
use Rattle.dash_msg.specs.declared.msg.Msg.{Msg}
use Rattle.dash_msg.specs.declared.msg.Msg.TheVariants.{WriteBack, SharingBack, Transfer, Unlock, Data, DataEx, Ack, TransferAck, Nak, LockGrant, UnlockAck}
use Rattle.dash_event.specs.declared.event.Event.{Event}
use Rattle.dash_event.specs.declared.event.Kind.{Kind}
use Rattle.dash_event.specs.declared.event.Kind.TheVariants.{Free, Take}
use Rattle.dash_model.specs.Config.{Config}
use Rattle.dash_model.specs.Cell.{Asked, Poisoned, Slot, Reads, Owns, Acks, NoAcks}
use Rattle.dash_model.specs.Part.{Part}
use Rattle.dash_model.specs.Requests.{is_dirty_of}
use Rattle.dash_model.specs.Ranges.{in_range, has_space}
use Rattle.dash_model.specs.Guard.{frees}
use Rattle.dash_model.specs.Machine.{Machine, Step, CanHappen, Reaches}

-- whether a slot waits for a copy
abbrev pub awaits_copy : Slot → Bool
awaits_copy (Reads n h Asked) = true
awaits_copy (Reads n h Poisoned) = true
awaits_copy s = false

-- whether a slot waits for the line to own
abbrev pub awaits_own : Slot → Bool
awaits_own (Owns n h Asked) = true
awaits_own s = false

-- whether a slot waits for an answer
abbrev pub awaits : Slot → Bool
awaits (Reads n h Asked) = true
awaits (Reads n h Poisoned) = true
awaits (Owns n h Asked) = true
awaits (Owns n h Poisoned) = true
awaits s = false

-- whether the line is pending
abbrev pub is_pending : Acks → Bool
is_pending NoAcks = false
is_pending a = true

-- whether what a message from cluster f is for is there: the owner in the directory's entry, the slot that waits for it, the entry that counts it, or the hart whose lock instruction was sent. An Unlock is never left to a Take
abbrev pub has_case : ℕ → Msg → Part → Bool
has_case f (WriteBack l d) p = is_dirty_of f (p.homes l.0).entry
has_case f (SharingBack l d r) p = is_dirty_of f (p.homes l.0).entry
has_case f (Transfer l r) p = is_dirty_of f (p.homes l.0).entry
has_case f (Unlock h n word) p = false
has_case f (Data l d) p = awaits_copy (p.cells l.0).slot
has_case f (DataEx l d n) p = awaits_own (p.cells l.0).slot
has_case f (Ack l) p = is_pending (p.cells l.0).acks
has_case f (TransferAck l) p = is_pending (p.cells l.0).acks
has_case f (Nak l) p = awaits (p.cells l.0).slot
has_case f (LockGrant h) p = (p.harts h.0).asked
has_case f (UnlockAck h old) p = (p.harts h.0).asked
has_case f m p = true

-- a message from cluster f that cluster c takes: its numbers are in range and its line or word has the right home, there is room for what it adds, and what it is for is there
pub record FindsCase (w : Config) (c f : ℕ) (m : Msg) (p : Part) : Type 0 where
  pub range : in_range w c m ≡ true
  pub room : has_space w c m p ≡ true
  pub case : has_case f m p ≡ true

-- what a cluster with this part finds of the message that an event takes: a case of its row, or of an Unlock that the hart is one of the machine, and the word a lock word of this home
abbrev pub TakesWell : Config → ℕ → Kind → Part → Type 0
TakesWell w c (Take f m) p = FindsCase w c f.0 m p
TakesWell w c (Free f a) p = frees w c a.hart a.word ≡ true
TakesWell w c e p = Unit {0}

-- each event of a run does
abbrev pub CasesApply : Type 0
CasesApply = (w : Config) (log : List Event) (m : Machine) (g : Step) → Reaches w log m → CanHappen w m g → TakesWell w g.event.cluster.0 g.event.kind (m.parts g.event.cluster.0)
