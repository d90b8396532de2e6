use Rattle.std.proofs.Common.{◌≡◌, ◌+◌, ◌≤◌, vec_len, vec_capacity}
use Rattle.unit_rows.specs.Shown.{config, shown}
use Rattle.cluster_unit.specs.Listing.{HasListed, IsBelow, place_of}
use Rattle.cluster_unit.proofs.by_number.list_by_number.Given as goal

abbrev pub invariant-loop-number : goal.invariant-loop-number
invariant-loop-number l =
    HasListed (config l.site) l.site.cluster.0 (shown l.parts) (IsBelow (place_of l.kind) l.number) l.choices.items
    × (vec_len l.choices ≤ vec_len l.initial.choices + l.number) × (vec_capacity l.choices ≡ vec_capacity l.initial.choices) × (l.number ≤ l.count)
