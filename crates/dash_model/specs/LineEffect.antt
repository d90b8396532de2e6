-- What a row of one line does: the cluster's cell of the line, the line at its home, and the messages that are sent.
use Rattle.std.specs.Prelude.{ℕ, ◌==◌, Bool, true, false, cond, nat_lt, Some, List, []}
use Rattle.dash_msg.specs.declared.parcel.Sent.{Sent}
use Rattle.dash_model.specs.Cell.{Copy, NoCopy, Held, Refused, Slot, NoSlot, Reads, Owns, Acks, NoAcks, Cell, Home}

-- the cell, the home and the messages
pub record LineEffect : Type 0 where
  pub cell : Cell
  pub home : Home
  pub sent : List Sent

-- nothing changes and nothing is sent
abbrev pub still : Cell → Home → LineEffect
still a b = record { cell = a; home = b; sent = [] }

-- refusing a slot: a front or store slot, whose number is below k, gets phase Refused, and a prefetch slot is closed
abbrev pub refuse : ℕ → Slot → Slot
refuse k NoSlot = NoSlot
refuse k (Reads n h t) = cond (nat_lt n k) (Reads n h Refused) NoSlot
refuse k (Owns n h t) = cond (nat_lt n k) (Owns n h Refused) NoSlot

-- and with a prefetch slot that is to own the line its acknowledgements go
abbrev pub refuse_acks : ℕ → Slot → Acks → Acks
refuse_acks k (Owns n h t) a = cond (nat_lt n k) a NoAcks
refuse_acks k s a = a

-- whether the cluster has a copy, and an owner; whether a hart is the owner
abbrev pub has_copy : Copy → Bool
has_copy NoCopy = false
has_copy (Held hs o d) = true

-- whether the cluster has an owner
abbrev pub has_owner : Copy → Bool
has_owner (Held hs (Some o) d) = true
has_owner _ = false

-- whether a hart is the owner
abbrev pub is_owner : ℕ → Copy → Bool
is_owner t (Held hs (Some o) d) = o == t
is_owner t _ = false
