-- The contract of a row: what the code's parts do is the event's row of the machine, on every part that they show.
use Rattle.std.specs.Prelude.{◌≡◌, ℕ, List}
use Rattle.dash_msg.specs.declared.parcel.Sent.{Sent}
use Rattle.dash_event.specs.declared.event.Kind.{Kind}
use Rattle.dash_model.specs.Config.{Config}
use Rattle.dash_model.specs.Part.{Part}
use Rattle.dash_model.specs.HartRows.{HartEffect}
use Rattle.dash_model.specs.Guard.{Guard}
use Rattle.dash_model.specs.Row.{row}
use Rattle.unit_rows.specs.declared.choice.Choice.{Choice}
use Rattle.unit_rows.specs.Shown.{PartsView, Shows}
use Rattle.unit_rows.specs.Choices.{IsOf}

-- on a part of cluster c the event may happen, its row makes the part that the new parts show, and these messages are sent
pub record Happens (w : Config) (c : ℕ) (e : Kind) (done : HartEffect) (new : PartsView) (sent : List Sent) (p : Part) : Type 0 where
  pub guard : Guard w c e done p
  pub shows : Shows w c new (row w c e done p).part
  pub sent_is : (row w c e done p).sent ≡ sent

-- so it is on every part that the old parts show
pub record Does (w : Config) (c : ℕ) (e : Kind) (old new : PartsView) (sent : List Sent) : Type 0 where
  pub done : HartEffect
  pub happens : (p : Part) → Shows w c old p → Happens w c e done new sent p

-- a choice was done, by an event of its own
pub record DoesChoice (w : Config) (c : ℕ) (choice : Choice) (e : Kind) (old new : PartsView) (sent : List Sent) : Type 0 where
  pub is_of : IsOf w c choice e
  pub does : Does w c e old new sent

-- on this part an event of the choice may happen
pub record Enabled (w : Config) (c : ℕ) (choice : Choice) (p : Part) : Type 0 where
  pub event : Kind
  pub is_of : IsOf w c choice event
  pub done : HartEffect
  pub guard : Guard w c event done p

-- the choice is enabled on no part that the parts show
abbrev pub Cannot : Config → ℕ → PartsView → Choice → Type 0
Cannot w c v choice = (p : Part) → Shows w c v p → Enabled w c choice p → ⊥

-- the choice is enabled on each part that the parts show
abbrev pub Can : Config → ℕ → PartsView → Choice → Type 0
Can w c v choice = (p : Part) → Shows w c v p → Enabled w c choice p
