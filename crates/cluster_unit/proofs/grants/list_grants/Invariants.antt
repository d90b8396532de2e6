use Rattle.std.proofs.Common.{◌≡◌, ◌+◌, ◌≤◌, vec_len, vec_capacity}
use Rattle.unit_rows.specs.Shown.{config, shown}
use Rattle.cluster_unit.specs.Listing.{HasListed, IsBelow}
use Rattle.cluster_unit.proofs.grants.list_grants.Given as goal

abbrev pub invariant-loop-number : goal.invariant-loop-number
invariant-loop-number l =
    HasListed (config l.site) l.site.cluster.0 (shown l.parts) (IsBelow 8 l.number) l.choices.items
    × (vec_len l.choices ≤ vec_len l.initial.choices + l.number) × (vec_capacity l.choices ≡ vec_capacity l.initial.choices) × (l.number ≤ l.site.topology.locks)
