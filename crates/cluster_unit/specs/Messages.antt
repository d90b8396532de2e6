-- What taking a message does: one event, which takes just that message.
use Rattle.std.specs.Prelude.{◌≡◌, ℕ, List, [], ◌∷◌}
use Rattle.dash_base.specs.declared.id.ClusterId.{ClusterId}
use Rattle.dash_msg.specs.Classes.{class_of}
use Rattle.dash_msg.specs.declared.msg.Msg.{Msg}
use Rattle.dash_msg.specs.declared.parcel.Sent.{Sent}
use Rattle.dash_event.specs.declared.event.Kind.{Kind}
use Rattle.dash_model.specs.Config.{Config}
use Rattle.dash_model.specs.Net.{parcel}
use Rattle.dash_model.specs.Machine.{taken}
use Rattle.unit_rows.specs.declared.choice.Choice.TheVariants.{Take}
use Rattle.unit_rows.specs.Shown.{PartsView}
use Rattle.unit_rows.specs.Rows.{DoesChoice}

-- the message from this cluster was taken, by this event, and these are sent
pub record Took (w : Config) (c : ℕ) (from : ClusterId) (msg : Msg) (old new : PartsView) (event : Kind) (sent : List Sent) : Type 0 where
  pub does : DoesChoice w c (Take from (class_of msg)) event old new sent
  pub takes : (u : ℕ) → taken c u event ≡ parcel from.0 c msg u ∷ []
