-- The contract of a message that is taken: the choice to take it is done, by the event that takes just it.
use Rattle.std.specs.Prelude.{◌≡◌, ℕ, false, List}
use Rattle.dash_base.specs.declared.id.ClusterId.{ClusterId}
use Rattle.dash_msg.specs.Classes.{class_of}
use Rattle.dash_msg.specs.declared.msg.Msg.{Msg}
use Rattle.dash_msg.specs.declared.msg.Msg.TheVariants.{LockAsk, Unlock, Data, DataEx, Ack, TransferAck, Nak, LockGrant, UnlockAck}
use Rattle.dash_msg.specs.declared.parcel.Sent.{Sent}
use Rattle.dash_event.specs.declared.event.Kind.TheVariants as kind
use Rattle.dash_model.specs.Config.{Config}
use Rattle.dash_model.specs.Guard.{frees}
use Rattle.unit_rows.specs.declared.choice.Choice.TheVariants.{Take}
use Rattle.unit_rows.specs.Shown.{PartsView}
use Rattle.unit_rows.specs.Rows.{DoesChoice}

-- a message from a cluster is taken, and these are sent
abbrev pub Takes : Config → ℕ → ClusterId → Msg → PartsView → PartsView → List Sent → Type 0
Takes w c from m old new sent = DoesChoice w c (Take from (class_of m)) (kind.Take from m) old new sent

-- the message is no Unlock that this home serves: that one is freed, and not taken
abbrev pub IsNoFree : Config → ℕ → Msg → Type 0
IsNoFree w c (Unlock h n word) = frees w c h word ≡ false
IsNoFree w c m = Unit {0}

-- it makes its taker send nothing at once
abbrev pub IsQuiet : Config → ℕ → Msg → Type 0
IsQuiet w c (LockAsk h n word value) = Unit {0}
IsQuiet w c (Unlock h n word) = frees w c h word ≡ false
IsQuiet w c (Data l d) = Unit {0}
IsQuiet w c (DataEx l d n) = Unit {0}
IsQuiet w c (Ack l) = Unit {0}
IsQuiet w c (TransferAck l) = Unit {0}
IsQuiet w c (Nak l) = Unit {0}
IsQuiet w c (LockGrant h) = Unit {0}
IsQuiet w c (UnlockAck h old) = Unit {0}
IsQuiet w c m = ⊥
