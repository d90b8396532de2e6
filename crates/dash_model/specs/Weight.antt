-- The weight of a state: each Take, Free, Grant and Install lowers it, and each Evict for a line that came.
use Rattle.std.specs.Prelude.{ℕ, ◌+◌, ◌*◌, length}
use Rattle.dash_msg.specs.declared.msg.Msg.{Msg}
use Rattle.dash_msg.specs.declared.msg.Msg.TheVariants.{Read, ReadEx, FwdRead, FwdReadEx, Inval, WriteBack, SharingBack, Transfer, LockAsk, Unlock, Data, DataEx, Ack, TransferAck, Nak, LockGrant, UnlockAck}
use Rattle.dash_model.specs.Maps.{weigh, total}
use Rattle.dash_model.specs.Config.{Config, lines}
use Rattle.dash_model.specs.Net.{Packet}
use Rattle.dash_model.specs.Cell.{Copy, NoCopy, Held, Came, Slot, Reads, Owns, Cell}
use Rattle.dash_model.specs.Part.{Part}
use Rattle.dash_model.specs.Machine.{Machine}

-- a message on its way, in a machine of n clusters
abbrev pub msg_weight : ℕ → Msg → ℕ
msg_weight n (Read l) = 8
msg_weight n (ReadEx l) = 2 * n + 8
msg_weight n (FwdRead l r) = 7
msg_weight n (FwdReadEx l r) = 8
msg_weight n (Inval l r) = 2
msg_weight n (WriteBack l d) = 1
msg_weight n (SharingBack l d r) = 1
msg_weight n (Transfer l r) = 2
msg_weight n (LockAsk h number word v) = 3
msg_weight n (Unlock h number word) = 2
msg_weight n (Data l d) = 5
msg_weight n (DataEx l d count) = 5
msg_weight n (Ack l) = 1
msg_weight n (TransferAck l) = 1
msg_weight n (Nak l) = 1
msg_weight n (LockGrant h) = 1
msg_weight n (UnlockAck h old) = 1

-- a packet, by its message
abbrev pub packet_weight : ℕ → Packet → ℕ
packet_weight n p = msg_weight n p.msg

-- a slot to which its line came
abbrev pub slot_weight : Slot → ℕ
slot_weight (Reads n h (Came d)) = 4
slot_weight (Owns n h (Came d)) = 4
slot_weight s = 0

-- the harts that hold a line
abbrev pub copy_weight : Copy → ℕ
copy_weight (Held hs o d) = 2 * length hs
copy_weight NoCopy = 0

-- a line at a cluster
abbrev pub cell_weight : Cell → ℕ
cell_weight a = slot_weight a.slot + copy_weight a.copy

-- a cluster: its lines, and those who wait for its lock words
abbrev pub part_weight : Config → Part → ℕ
part_weight w p = total (λ l. cell_weight (p.cells l)) (lines w) + total (λ i. 2 * length (p.locks i).queue) w.top.locks

-- the whole machine
unfoldable pub weight_of : Config → Machine → ℕ
weight_of w m = weigh (packet_weight w.top.clusters) m.net + total (λ c. part_weight w (m.parts c)) w.top.clusters
