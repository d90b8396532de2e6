-- Each event's row: what it makes of its cluster's part, and what it sends.
use Rattle.std.specs.Prelude.{ℕ, Bool, true, false}
use Rattle.dash_base.specs.declared.id.LineId.{LineId}
use Rattle.dash_msg.specs.declared.msg.Msg.{Msg}
use Rattle.dash_msg.specs.declared.msg.Msg.TheVariants.{Read, ReadEx, FwdRead, FwdReadEx, Inval, WriteBack, SharingBack, Transfer, LockAsk, Unlock, Data, DataEx, Ack, TransferAck, Nak, LockGrant, UnlockAck}
use Rattle.dash_event.specs.declared.event.Kind.{Kind}
use Rattle.dash_event.specs.declared.event.Kind.TheVariants as kind
use Rattle.dash_model.specs.Config.{Config, home_of, lock_at, first_prefetch}
use Rattle.dash_model.specs.Part.{Part}
use Rattle.dash_model.specs.LineRows.{take_row}
use Rattle.dash_model.specs.Acts.{Again, BusRead, BusOwn}
use Rattle.dash_model.specs.HartRows.{PartEffect, quiet, HartEffect, on_line, acts, retire, hint_row, load_row, store_row, commit_row, rmw_row, sc_fail_row, lock_send_row, evict_act, ask_act, install}
use Rattle.dash_model.specs.LockRows.{grant_row, free_row, queued, answered}
use Rattle.dash_model.specs.Ranges.{applies}

-- a message of line l
abbrev pub line_msg_row : Config → ℕ → ℕ → LineId → Msg → Part → PartEffect
line_msg_row w c f l m p = on_line w l.0 (take_row (first_prefetch w) (home_of w l.0) c f m (p.cells l.0) (p.homes l.0)) p

-- message m from cluster f, taken at cluster c, where a case of its row applies
abbrev pub msg_row : Config → ℕ → ℕ → Msg → HartEffect → Part → PartEffect
msg_row w c f (Read l) d p = line_msg_row w c f l (Read l) p
msg_row w c f (ReadEx l) d p = line_msg_row w c f l (ReadEx l) p
msg_row w c f (FwdRead l r) d p = line_msg_row w c f l (FwdRead l r) p
msg_row w c f (FwdReadEx l r) d p = line_msg_row w c f l (FwdReadEx l r) p
msg_row w c f (Inval l r) d p = line_msg_row w c f l (Inval l r) p
msg_row w c f (WriteBack l x) d p = line_msg_row w c f l (WriteBack l x) p
msg_row w c f (SharingBack l x r) d p = line_msg_row w c f l (SharingBack l x r) p
msg_row w c f (Transfer l r) d p = line_msg_row w c f l (Transfer l r) p
msg_row w c f (LockAsk h n word v) d p = quiet (queued (lock_at w word.0) (record { hart = h.0; number = n; value = v }) p)
msg_row w c f (Unlock h n word) d p = quiet p
msg_row w c f (Data l x) d p = line_msg_row w c f l (Data l x) p
msg_row w c f (DataEx l x n) d p = line_msg_row w c f l (DataEx l x n) p
msg_row w c f (Ack l) d p = line_msg_row w c f l (Ack l) p
msg_row w c f (TransferAck l) d p = line_msg_row w c f l (TransferAck l) p
msg_row w c f (Nak l) d p = line_msg_row w c f l (Nak l) p
msg_row w c f (LockGrant h) d p = quiet (answered h.0 (p.harts h.0).asked d p)
msg_row w c f (UnlockAck h old) d p = quiet (answered h.0 (p.harts h.0).asked d p)

-- where no case applies, the message only leaves its lane
abbrev pub msg_row_if : Bool → Config → ℕ → ℕ → Msg → HartEffect → Part → PartEffect
msg_row_if true w c f m d p = msg_row w c f m d p
msg_row_if false w c f m d p = quiet p

-- the row of what happens at cluster c
unfoldable pub row : Config → ℕ → Kind → HartEffect → Part → PartEffect
row w c (kind.Alu h pc) d p = quiet (retire h.0 d p)
row w c (kind.Fence h pc) d p = quiet (retire h.0 d p)
row w c (kind.Hint h pc slot) d p = hint_row w h.0 slot d.need (retire h.0 d p)
row w c (kind.Put h pc byte) d p = quiet (retire h.0 d p)
row w c (kind.Stop h pc end) d p = quiet (retire h.0 d p)
row w c (kind.Load a level) d p = load_row w a d p
row w c (kind.Store a) d p = store_row a d p
row w c (kind.Commit h n l v) d p = commit_row w h.0 l.0 (p.harts h.0).buffer p
row w c (kind.Rmw a l v) d p = rmw_row w a l.0 d p
row w c (kind.ScFail a) d p = sc_fail_row a d p
row w c (kind.LockSend h m) d p = lock_send_row w h.0 m p
row w c (kind.BusRead h l) d p = acts w l.0 (BusRead h.0) p
row w c (kind.BusOwn h l) d p = acts w l.0 (BusOwn h.0) p
row w c (kind.Evict h l) d p = acts w l.0 (evict_act h.0 (p.cells l.0).copy) p
row w c (kind.Ask slot h l own) d p = acts w l.0 (ask_act own slot h.0) p
row w c (kind.Again slot l) d p = acts w l.0 Again p
row w c (kind.Install slot h l) d p = install w h.0 l.0 p
row w c (kind.Grant a) d p = grant_row w (lock_at w a.word.0) (p.locks (lock_at w a.word.0)).queue p
row w c (kind.Free f a) d p = free_row w (lock_at w a.word.0) a.hart p
row w c (kind.Take f m) d p = msg_row_if (applies w c m p) w c f.0 m d p
