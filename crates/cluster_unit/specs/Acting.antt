-- What a row answers, beside the message that it sends.
use Rattle.std.specs.Prelude.{Option, None, Some}
use Rattle.dash_event.specs.declared.event.Kind.{Kind}
use Rattle.dash_msg.specs.declared.parcel.Sent.{Sent}

-- what happened, without a message
abbrev pub unsent : Option Kind → Option (Kind × Option Sent)
unsent None = None
unsent (Some kind) = Some (kind, None)

-- what happened, with a message
abbrev pub sending : Option (Kind × Sent) → Option (Kind × Option Sent)
sending None = None
sending (Some done) = Some (done.0, Some done.1)
