use Rattle.std.proofs.Common.{◌≡◌, ◌+◌, ◌*◌, ◌≤◌, vec_len, vec_capacity}
use Rattle.unit_rows.specs.Shown.{config, shown}
use Rattle.cluster_unit.specs.Listing.{HasListed, IsBelow}
use Rattle.cluster_unit.proofs.bus_choices.list_bus.Given as goal

abbrev pub invariant-loop-hart : goal.invariant-loop-hart
invariant-loop-hart l =
    HasListed (config l.site) l.site.cluster.0 (shown l.parts) (IsBelow 3 l.hart) l.choices.items
    × (vec_len l.choices ≤ vec_len l.initial.choices + 3 * l.hart) × (vec_capacity l.choices ≡ vec_capacity l.initial.choices) × (l.hart ≤ l.site.topology.harts)
