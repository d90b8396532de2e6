use Rattle.std.proofs.Common.{◌≡◌, ℕ, ◌<◌, ◌≤◌, false, slice_get}
use Rattle.dash_msg.specs.declared.classes.Class.{Class}
use Rattle.cluster_unit.specs.Ends.{place, knows, Looked}
use Rattle.cluster_unit.proofs.first_take.first_take.Given as goal

-- no end so far shows a message
abbrev pub invariant-loop-from : goal.invariant-loop-from
invariant-loop-from l =
    Looked l.initial.inlets l.inlets × ((f : ℕ) (k : Class) → f < l.from → knows (slice_get l.inlets (place f k)) ≡ false) × (l.from ≤ l.clusters)
