use Rattle.std.proofs.Common.{ap, ◌∙◌}
use Rattle.snoop_bus.specs.Caches.{CachesView, caches_read}
use Rattle.snoop_bus.proofs.Marked.{caches_of-read, marks-read}
use Rattle.snoop_bus.proofs.hart_caches.HartCaches.read.Goals as goal

pub invariant_of-self : goal.invariant_of-self
invariant_of-self c = rw c.read.ensures.after (marks-read c.self.inside.owned.items c.self.inside.levels c.args.line.0 c.self.invariant)

pub returns-clause-after : goal.returns-clause-after
returns-clause-after c =
    rw c.read.ensures.after
    (caches_of-read c.self.inside.owned.items c.self.inside.levels c.args.line.0 ∙ ap (λ (h : CachesView). caches_read h c.args.line.0) c.self.view_is)
