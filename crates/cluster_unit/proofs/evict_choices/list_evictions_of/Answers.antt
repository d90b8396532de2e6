use Rattle.std.proofs.Common.{ℕ, List, sym, subst}
use Rattle.unit_rows.specs.Shown.{config, shown}
use Rattle.cluster_unit.specs.Victims.{HasVictims}
use Rattle.cluster_unit.proofs.evict_choices.list_evictions_of.Goals as goal

pub offer_evictions-requires-clause-whole : goal.offer_evictions-requires-clause-whole
offer_evictions-requires-clause-whole c =
    subst (λ (ls : List ℕ). HasVictims (config c.args.site.now) c.args.site.now.cluster.0 (shown c.args.parts.now) c.args.hart ls) (sym c.as_slice.ensures.value) c.victims_of-lines.ensures.whole
