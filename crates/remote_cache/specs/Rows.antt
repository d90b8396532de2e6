-- What a message makes of the slot of its line.
use Rattle.std.specs.Prelude.{Bool, true, false, Option, Some, None, if◌then◌else◌}
use Rattle.dash_base.specs.declared.line.Line.{Line}
use Rattle.dash_base.specs.declared.id.LineId.{LineId}
use Rattle.dash_msg.specs.declared.msg.Msg.{Msg}
use Rattle.dash_msg.specs.declared.msg.Msg.TheVariants.{Data, DataEx, Nak}
use Rattle.remote_cache.specs.declared.slot.Phase.{Phase}
use Rattle.remote_cache.specs.declared.slot.Phase.TheVariants.{Asked, Poisoned, Refused, Came}
use Rattle.remote_cache.specs.declared.slot.Slot.{Slot}
use Rattle.remote_cache.specs.declared.change.Change.{Change}
use Rattle.remote_cache.specs.declared.change.Change.TheVariants.{Stays, Becomes, Closes}

-- the same slot in another phase
abbrev pub in_phase : Slot → Phase → Change
in_phase s phase = Becomes (record s { phase = phase })

-- a front or store slot is to ask again, and a prefetch slot is closed
abbrev pub refused : Bool → Slot → Change
refused prefetch s = if prefetch then Closes else in_phase s Refused

-- a copy to read: it comes to a slot that waits to read, and is dropped where that one is poisoned
abbrev pub on_data : Bool → Line → Slot → Bool → Phase → Change
on_data prefetch copy s false Asked = in_phase s (Came copy)
on_data prefetch copy s false Poisoned = refused prefetch s
on_data prefetch copy s _ _ = Stays

-- a line to own: it comes to a slot that waits to own
abbrev pub on_data_ex : Line → Slot → Bool → Phase → Change
on_data_ex copy s true Asked = in_phase s (Came copy)
on_data_ex copy s _ _ = Stays

-- a refusal, of a slot that waits
abbrev pub on_nak : Bool → Slot → Phase → Change
on_nak prefetch s Asked = refused prefetch s
on_nak prefetch s Poisoned = refused prefetch s
on_nak prefetch s _ = Stays

-- each reply to a request
abbrev pub on_reply : Bool → Msg → Slot → Change
on_reply prefetch (Data line copy) s = on_data prefetch copy s s.own s.phase
on_reply prefetch (DataEx line copy number) s = on_data_ex copy s s.own s.phase
on_reply prefetch (Nak line) s = on_nak prefetch s s.phase
on_reply prefetch _ s = Stays

-- the line of a reply to a request
abbrev pub reply_line : Msg → Option LineId
reply_line (Data line copy) = Some line
reply_line (DataEx line copy number) = Some line
reply_line (Nak line) = Some line
reply_line _ = None

-- an invalidation: a slot that waits to read is poisoned, and a copy to read that came is dropped
abbrev pub on_inval : Bool → Slot → Bool → Phase → Change
on_inval prefetch s false Asked = in_phase s Poisoned
on_inval prefetch s false (Came copy) = refused prefetch s
on_inval prefetch s _ _ = Stays
