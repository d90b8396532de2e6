-- The row of each message of a line, at the cluster that takes it.
use Rattle.std.specs.Prelude.{ℕ, ◌==◌, ◌&&◌, cond}
use Rattle.dash_msg.specs.declared.msg.Msg.{Msg}
use Rattle.dash_msg.specs.declared.msg.Msg.TheVariants.{Read, ReadEx, FwdRead, FwdReadEx, Inval, WriteBack, SharingBack, Transfer, Data, DataEx, Ack, TransferAck, Nak}
use Rattle.dash_model.specs.Cell.{Cell, Home}
use Rattle.dash_model.specs.LineEffect.{LineEffect, still}
use Rattle.dash_model.specs.Requests.{read_row, own_row, give_read, give_own, inval_row, is_dirty_of, write_back_row, sharing_back_row, transfer_row}
use Rattle.dash_model.specs.Replies.{data_row, data_ex_row, ack_row, nak_row}

-- message m from cluster f taken at cluster c, where h is the line's home and the slots below k are front and store slots
abbrev pub take_row : ℕ → ℕ → ℕ → ℕ → Msg → Cell → Home → LineEffect
take_row k h c f (Read l) a b = cond (c == h) (read_row l f b.entry a b) (still a b)
take_row k h c f (ReadEx l) a b = cond (c == h) (own_row l f b.entry a b) (still a b)
take_row k h c f (FwdRead l r) a b = give_read l h r.0 a.copy a.acks a b
take_row k h c f (FwdReadEx l r) a b = give_own l h r.0 a.copy a.acks a b
take_row k h c f (Inval l r) a b = inval_row l k r.0 a b
take_row k h c f (WriteBack l d) a b = write_back_row d ((c == h) && is_dirty_of f b.entry) a b
take_row k h c f (SharingBack l d r) a b = sharing_back_row f d r.0 ((c == h) && is_dirty_of f b.entry) a b
take_row k h c f (Transfer l r) a b = transfer_row l r.0 ((c == h) && is_dirty_of f b.entry) a b
take_row k h c f (Data l d) a b = data_row k d a b
take_row k h c f (DataEx l d n) a b = data_ex_row d n a b
take_row k h c f (Ack l) a b = ack_row a b
take_row k h c f (TransferAck l) a b = ack_row a b
take_row k h c f (Nak l) a b = nak_row k a b
take_row k h c f m a b = still a b
