-- Where a case of a message's row applies at a cluster: its numbers are in range, its line or word has the right home, and there is room for what it adds.
use Rattle.std.specs.Prelude.{ℕ, ◌==◌, ◌&&◌, Bool, true, nat_lt}
use Rattle.dash_base.specs.declared.id.ClusterId.{ClusterId}
use Rattle.dash_base.specs.declared.id.HartId.{HartId}
use Rattle.dash_base.specs.declared.id.LineId.{LineId}
use Rattle.dash_base.specs.declared.id.WordAddr.{WordAddr}
use Rattle.dash_msg.specs.declared.msg.Msg.{Msg}
use Rattle.dash_msg.specs.declared.msg.Msg.TheVariants.{Read, ReadEx, FwdRead, FwdReadEx, Inval, WriteBack, SharingBack, Transfer, LockAsk, Unlock, Data, DataEx, Ack, TransferAck, Nak, LockGrant, UnlockAck}
use Rattle.dash_model.specs.Maps.{most_got}
use Rattle.dash_model.specs.Config.{Config, all_harts, cluster_of, lines, home_of, is_lock, lock_at, lock_home}
use Rattle.dash_model.specs.Cell.{Acks, NoAcks, Counting, Expects}
use Rattle.dash_model.specs.Part.{Part}
use Rattle.dash_model.specs.LockRows.{waiting}

-- a line of memory
abbrev pub has_line : Config → LineId → Bool
has_line w l = nat_lt l.0 (lines w)

-- a cluster of the machine
abbrev pub has_cluster : Config → ClusterId → Bool
has_cluster w r = nat_lt r.0 w.top.clusters

-- a hart of the machine
abbrev pub has_hart : Config → HartId → Bool
has_hart w h = nat_lt h.0 (all_harts w)

-- a line whose home is c
abbrev pub at_home : Config → ℕ → LineId → Bool
at_home w c l = has_line w l && (home_of w l.0 == c)

-- a lock word whose home is c
abbrev pub own_lock : Config → ℕ → WordAddr → Bool
own_lock w c word = is_lock w word.0 && (lock_home w (lock_at w word.0) == c)

-- a hart of cluster c
abbrev pub own_hart : Config → ℕ → HartId → Bool
own_hart w c h = has_hart w h && (cluster_of w h.0 == c)

-- the message's numbers are in range for cluster c, and its line or word has the right home
abbrev pub in_range : Config → ℕ → Msg → Bool
in_range w c (Read l) = at_home w c l
in_range w c (ReadEx l) = at_home w c l
in_range w c (FwdRead l r) = has_line w l && has_cluster w r
in_range w c (FwdReadEx l r) = has_line w l && has_cluster w r
in_range w c (Inval l r) = has_line w l && has_cluster w r
in_range w c (WriteBack l d) = at_home w c l
in_range w c (SharingBack l d r) = at_home w c l && has_cluster w r
in_range w c (Transfer l r) = at_home w c l && has_cluster w r
in_range w c (LockAsk h n word v) = has_hart w h && own_lock w c word
in_range w c (Unlock h n word) = has_hart w h && own_lock w c word
in_range w c (Data l d) = has_line w l
in_range w c (DataEx l d n) = has_line w l
in_range w c (Ack l) = has_line w l
in_range w c (TransferAck l) = has_line w l
in_range w c (Nak l) = has_line w l
in_range w c (LockGrant h) = own_hart w c h
in_range w c (UnlockAck h old) = own_hart w c h

-- one acknowledgement more fits
abbrev pub got_fits : Acks → Bool
got_fits NoAcks = true
got_fits (Counting g o) = nat_lt g most_got
got_fits (Expects n g o) = nat_lt g most_got

-- there is room for what the message adds
abbrev pub has_space : Config → ℕ → Msg → Part → Bool
has_space w c (LockAsk h n word v) p = nat_lt (waiting w c p) (all_harts w)
has_space w c (Ack l) p = got_fits (p.cells l.0).acks
has_space w c (TransferAck l) p = got_fits (p.cells l.0).acks
has_space w c m p = true

-- a case applies
abbrev pub applies : Config → ℕ → Msg → Part → Bool
applies w c m p = in_range w c m && has_space w c m p
