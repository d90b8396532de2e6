-- What becomes of a line where a request is taken from its lane, by the messages of the table in their order.
use Rattle.std.specs.Prelude.{ℕ, ◌==◌, Bool, true, false, None, Some, List, [], ◌∷◌, ◌++◌, length, map}
use Rattle.dash_base.specs.declared.line.Line.{Line}
use Rattle.dash_base.specs.declared.id.LineId.{LineId}
use Rattle.dash_msg.specs.declared.msg.Msg.TheVariants.{FwdRead, FwdReadEx, Inval, SharingBack, Transfer, Data, DataEx, Ack, TransferAck, Nak}
use Rattle.dash_msg.specs.declared.parcel.Sent.{Sent}
use Rattle.dash_model.specs.Maps.{without, with_member}
use Rattle.dash_model.specs.Config.{cluster_id}
use Rattle.dash_model.specs.Net.{to}
use Rattle.dash_model.specs.Cell.{Copy, NoCopy, Held, Asked, Poisoned, Came, Slot, Reads, Acks, NoAcks, Entry, Uncached, SharedBy, Dirty, Cell, Home}
use Rattle.dash_model.specs.LineEffect.{LineEffect, still, refuse}

-- Read from cluster f: its home gives a copy and marks f, or passes the request on to the owner
abbrev pub read_row : LineId → ℕ → Entry → Cell → Home → LineEffect
read_row l f Uncached a b = record { cell = a; home = record b { entry = SharedBy (f ∷ []) }; sent = to f (Data l b.mem) ∷ [] }
read_row l f (SharedBy cs) a b = record { cell = a; home = record b { entry = SharedBy (with_member f cs) }; sent = to f (Data l b.mem) ∷ [] }
read_row l f (Dirty o) a b = record { cell = a; home = b; sent = to o (FwdRead l (cluster_id f)) ∷ [] }

-- an Inval to each of these clusters, in their order, for cluster r
unfoldable pub invals_to : LineId → ℕ → List ℕ → List Sent
invals_to l r cs = map (λ c. to c (Inval l (cluster_id r))) cs

-- ReadEx from cluster f: its home gives the line, and invalidates it at all other sharers; or it passes the request on
abbrev pub own_row : LineId → ℕ → Entry → Cell → Home → LineEffect
own_row l f Uncached a b = record { cell = a; home = record b { entry = Dirty f }; sent = to f (DataEx l b.mem 0) ∷ [] }
own_row l f (SharedBy cs) a b = record { cell = a; home = record b { entry = Dirty f }; sent = invals_to l f (without f cs) ++ (to f (DataEx l b.mem (length (without f cs))) ∷ []) }
own_row l f (Dirty o) a b = record { cell = a; home = b; sent = to o (FwdReadEx l (cluster_id f)) ∷ [] }

-- FwdRead for cluster r: an owner whose line is not pending gives a copy, tells the home h, and is no owner any more
abbrev pub give_read : LineId → ℕ → ℕ → Copy → Acks → Cell → Home → LineEffect
give_read l h r (Held hs (Some o) d) NoAcks a b = record { cell = record a { copy = Held hs None d }; home = b; sent = to r (Data l d) ∷ to h (SharingBack l d (cluster_id r)) ∷ [] }
give_read l h r _ _ a b = record { cell = a; home = b; sent = to r (Nak l) ∷ [] }

-- FwdReadEx for cluster r: an owner whose line is not pending gives the line, tells the home h, and has no copy any more
abbrev pub give_own : LineId → ℕ → ℕ → Copy → Acks → Cell → Home → LineEffect
give_own l h r (Held hs (Some o) d) NoAcks a b = record { cell = record a { copy = NoCopy }; home = b; sent = to r (DataEx l d 1) ∷ to h (Transfer l (cluster_id r)) ∷ [] }
give_own l h r _ _ a b = record { cell = a; home = b; sent = to r (Nak l) ∷ [] }

-- an invalidated slot: one that is to read waits for an answer that is no longer to be used, or is refused where it has one
abbrev pub poison : ℕ → Slot → Slot
poison k (Reads n h Asked) = Reads n h Poisoned
poison k (Reads n h (Came d)) = refuse k (Reads n h (Came d))
poison k s = s

-- Inval for cluster r: no copy is left, and r is told
abbrev pub inval_row : LineId → ℕ → ℕ → Cell → Home → LineEffect
inval_row l k r a b = record { cell = record a { copy = NoCopy; slot = poison k a.slot }; home = b; sent = to r (Ack l) ∷ [] }

-- whether the entry names this owner
abbrev pub is_dirty_of : ℕ → Entry → Bool
is_dirty_of o (Dirty p) = o == p
is_dirty_of o _ = false

-- WriteBack from the owner f
abbrev pub write_back_row : Line → Bool → Cell → Home → LineEffect
write_back_row d true a b = record { cell = a; home = record { mem = d; entry = Uncached }; sent = [] }
write_back_row d false a b = still a b

-- SharingBack from the owner f, which gave cluster r a copy
abbrev pub sharing_back_row : ℕ → Line → ℕ → Bool → Cell → Home → LineEffect
sharing_back_row f d r true a b = record { cell = a; home = record { mem = d; entry = SharedBy (with_member f (r ∷ [])) }; sent = [] }
sharing_back_row f d r false a b = still a b

-- Transfer from the owner f, which gave cluster r the line
abbrev pub transfer_row : LineId → ℕ → Bool → Cell → Home → LineEffect
transfer_row l r true a b = record { cell = a; home = record b { entry = Dirty r }; sent = to r (TransferAck l) ∷ [] }
transfer_row l r false a b = still a b
