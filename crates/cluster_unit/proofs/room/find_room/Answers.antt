use Rattle.std.proofs.Common.{ℕ, List, sym, subst}
use Rattle.unit_rows.specs.Shown.{config, shown}
use Rattle.cluster_unit.specs.Victims.{HasVictims}
use Rattle.cluster_unit.proofs.room.find_room.Goals as goal

pub room_among-requires-clause-whole : goal.room_among-requires-clause-whole
room_among-requires-clause-whole c = subst (λ (ls : List ℕ). HasVictims (config c.args.site.now) c.args.site.now.cluster.0 (shown c.args.parts.now) c.args.hart ls) (sym c.as_slice.ensures.value) c.victims-lines.ensures.whole
