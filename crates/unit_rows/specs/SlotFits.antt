-- What the code's slots have where a refused one asks again, and where the line that came to one is installed.
use Rattle.std.specs.Prelude.{◌≡◌, ℕ, ◌<◌, Bool, true, false, Some}
use Rattle.dash_base.specs.declared.id.LineId.{LineId}
use Rattle.dash_msg.specs.declared.msg.Msg.{Msg}
use Rattle.dash_msg.specs.declared.msg.Msg.TheVariants.{Read, ReadEx}
use Rattle.remote_cache.specs.declared.slot.Slot.{Slot as Request}
use Rattle.remote_cache.specs.declared.slot.Phase.TheVariants.{Refused, Came}
use Rattle.remote_cache.specs.View.{slot_at}
use Rattle.dash_base.specs.declared.line.Line.{Line}
use Rattle.snoop_bus.specs.View.{HasHartRoom}
use Rattle.dash_model.specs.Config.{Config}
use Rattle.unit_rows.specs.Shown.{PartsView}

-- slot n has this request, which was refused
pub record AgainFits (v : PartsView) (n : ℕ) (request : Request) : Type 0 where
  pub at : slot_at v.slots n ≡ Some request
  pub refused : request.phase ≡ Refused

-- the message that asks for a line, to own it or to read it
abbrev pub request_for : LineId → Bool → Msg
request_for l true = ReadEx l
request_for l false = Read l

-- the line came to slot n, whose hart has room for it
pub record InstallFits (w : Config) (v : PartsView) (n : ℕ) (request : Request) (copy : Line) : Type 0 where
  pub at : slot_at v.slots n ≡ Some request
  pub came : request.phase ≡ Came copy
  pub room : HasHartRoom v.bus request.hart request.line.0
  pub local : request.hart < w.top.harts
