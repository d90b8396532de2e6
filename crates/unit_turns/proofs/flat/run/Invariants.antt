use Rattle.std.proofs.Common.{◌<◌, All}
use Rattle.unit_turns.proofs.flat.run.Given as goal

-- only harts of the cluster are listed
abbrev pub invariant-turns : goal.invariant-turns
invariant-turns l = All (λ h. h.0 < l.topology.harts) l.order.items
