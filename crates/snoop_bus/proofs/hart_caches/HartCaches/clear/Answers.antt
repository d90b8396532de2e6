use Rattle.std.proofs.Common.{ap, ◌∙◌}
use Rattle.snoop_bus.specs.Caches.{CachesView, caches_without}
use Rattle.snoop_bus.proofs.Marked.{caches_of-without, marks-without}
use Rattle.snoop_bus.proofs.hart_caches.HartCaches.clear.Goals as goal

pub invariant_of-self : goal.invariant_of-self
invariant_of-self c = rw c.clear_line.ensures (marks-without c.self.inside.owned.items c.self.inside.levels c.args.line.0 c.self.invariant)

pub returns : goal.returns
returns c =
    rw c.clear_line.ensures
    (caches_of-without c.self.inside.owned.items c.self.inside.levels c.args.line.0 ∙ ap (λ (h : CachesView). caches_without h c.args.line.0) c.self.view_is)
