use Rattle.std.proofs.Common.{ap, ◌∙◌, sym, subst, ◌≡◌, true}
use Rattle.cache_array.specs.View.{has_line}
use Rattle.snoop_bus.specs.Caches.{CachesView, caches_written}
use Rattle.snoop_bus.proofs.Marked.{caches_of-written, marks-written}
use Rattle.snoop_bus.proofs.hart_caches.HartCaches.write.Goals as goal

pub invariant_of-self : goal.invariant_of-self
invariant_of-self c = rw c.write_owned.ensures (marks-written c.self.inside.owned.items c.self.inside.levels c.args.line.0 c.args.copy c.self.invariant)

pub returns : goal.returns
returns c =
    let held = subst (λ (h : CachesView). has_line h.levels.l2 c.args.line.0 ≡ true) (sym c.self.view_is) c.requires in
    rw c.write_owned.ensures
    (caches_of-written c.self.inside.owned.items c.self.inside.levels c.args.line.0 c.args.copy held ∙ ap (λ (h : CachesView). caches_written h c.args.line.0 c.args.copy) c.self.view_is)
