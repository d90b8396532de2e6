-- A message that is none of those that make a cluster do something quietly is an Unlock, or none that is taken so.
use Rattle.std.proofs.Common.{◌≡◌, ℕ, [], refl}
use Rattle.dash_base.specs.declared.id.ClusterId.{ClusterId}
use Rattle.dash_base.specs.declared.id.HartId.{HartId}
use Rattle.dash_base.specs.declared.id.LineId.{LineId}
use Rattle.dash_base.specs.declared.id.WordAddr.{WordAddr}
use Rattle.dash_base.specs.declared.line.Line.{Line}
use Rattle.dash_msg.specs.declared.msg.Msg.{Msg}
use Rattle.dash_msg.specs.declared.msg.Msg.TheVariants.{Read, ReadEx, FwdRead, FwdReadEx, Inval, WriteBack, SharingBack, Transfer, LockAsk, Unlock, Data, DataEx, Ack, TransferAck, Nak, LockGrant, UnlockAck}
use Rattle.dash_model.specs.Config.{Config}
use Rattle.unit_rows.specs.Shown.{PartsView}
use Rattle.unit_rows.specs.Takes.{Takes, IsQuiet}
use Rattle.unit_rows.proofs.LockWords.{takes_unlock}

pub only_unlock : (w : Config) (c : ℕ) (v : PartsView) (from : ClusterId) (m : Msg)
    → ((h : HartId) (n : ℕ) (word : WordAddr) (value : ℕ) → m ≡ LockAsk h n word value → ⊥) → ((l : LineId) (d : Line) → m ≡ Data l d → ⊥) → ((l : LineId) (d : Line) (n : ℕ) → m ≡ DataEx l d n → ⊥)
    → ((l : LineId) → m ≡ Ack l → ⊥) → ((l : LineId) → m ≡ TransferAck l → ⊥) → ((l : LineId) → m ≡ Nak l → ⊥) → ((h : HartId) → m ≡ LockGrant h → ⊥) → ((h : HartId) (old : ℕ) → m ≡ UnlockAck h old → ⊥)
    → IsQuiet w c m → Takes w c from m v v []
only_unlock w c v from (LockAsk h n word value) a b d e f g i j q = absurd (a h n word value refl)
only_unlock w c v from (Data l x) a b d e f g i j q = absurd (b l x refl)
only_unlock w c v from (DataEx l x n) a b d e f g i j q = absurd (d l x n refl)
only_unlock w c v from (Ack l) a b d e f g i j q = absurd (e l refl)
only_unlock w c v from (TransferAck l) a b d e f g i j q = absurd (f l refl)
only_unlock w c v from (Nak l) a b d e f g i j q = absurd (g l refl)
only_unlock w c v from (LockGrant h) a b d e f g i j q = absurd (i h refl)
only_unlock w c v from (UnlockAck h old) a b d e f g i j q = absurd (j h old refl)
only_unlock w c v from (Unlock h n word) a b d e f g i j q = takes_unlock w c v from h n word q
only_unlock w c v from (Read l) a b d e f g i j q = absurd q
only_unlock w c v from (ReadEx l) a b d e f g i j q = absurd q
only_unlock w c v from (FwdRead l r) a b d e f g i j q = absurd q
only_unlock w c v from (FwdReadEx l r) a b d e f g i j q = absurd q
only_unlock w c v from (Inval l r) a b d e f g i j q = absurd q
only_unlock w c v from (WriteBack l x) a b d e f g i j q = absurd q
only_unlock w c v from (SharingBack l x r) a b d e f g i j q = absurd q
only_unlock w c v from (Transfer l r) a b d e f g i j q = absurd q
