use Rattle.std.proofs.Common.{◌≡◌, ◌+◌, ◌≤◌, vec_len, vec_capacity}
use Rattle.unit_rows.specs.Shown.{config, shown}
use Rattle.cluster_unit.specs.Listing.{HasListed}
use Rattle.cluster_unit.proofs.EvictListing.{IsGivenUp}
use Rattle.cluster_unit.proofs.evict_choices.offer_evictions.Given as goal

abbrev pub invariant-loop-line : goal.invariant-loop-line
invariant-loop-line l =
    HasListed (config l.site) l.site.cluster.0 (shown l.parts) (IsGivenUp l.hart l.lines l.line-index) l.choices.items
    × (vec_len l.choices ≤ vec_len l.initial.choices + l.line-index) × (vec_capacity l.choices ≡ vec_capacity l.initial.choices) × (l.line-index ≤ l.line-index-end)
