-- What an owner may give to another cluster.
use Rattle.std.specs.Prelude.{ℕ, Bool, true, false, Option, None, Some}
use Rattle.dash_base.specs.declared.line.Line.{Line}
use Rattle.snoop_bus.specs.View.{BusView, owner_at, copy_of}
use Rattle.ack_counter.specs.View.{TableView, is_pending}

-- its copy, where there is an owner and the line is not pending
abbrev pub given_by : Bool → Option ℕ → Option Line → Option Line
given_by true owner copy = None
given_by false None copy = None
given_by false (Some k) copy = copy

abbrev pub given : BusView → TableView → ℕ → Option Line
given b t l = given_by (is_pending t l) (owner_at b l) (copy_of b l)
