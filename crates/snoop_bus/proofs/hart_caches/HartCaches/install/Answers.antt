use Rattle.std.proofs.Common.{ap, ◌∙◌, sym, subst, ◌≡◌, ◌%◌, length, set}
use Rattle.cache_array.specs.View.{HasRoom}
use Rattle.cache_levels.specs.View.{with_level_copy}
use Rattle.snoop_bus.specs.Caches.{CachesView, caches_with}
use Rattle.snoop_bus.proofs.Marked.{caches_of, caches_of-with, marks-with}
use Rattle.snoop_bus.proofs.hart_caches.HartCaches.install.Goals as goal

pub invariant_of-self : goal.invariant_of-self
invariant_of-self c =
    rw c.install.ensures (marks-with c.self.inside.owned.items c.self.inside.levels c.args.line.0 c.args.copy c.args.own c.index_in-index.result c.self.invariant)

pub returns : goal.returns
returns c =
    let place : c.index_in-index.result ≡ c.args.line.0 % length c.self.inside.owned.items = c.index_in-index.ensures.value ∙ ap (λ xs. c.args.line.0 % length xs) c.deref.ensures.value in
    let room = subst (λ (h : CachesView). HasRoom h.levels.l2 c.args.line.0) (sym c.self.view_is) c.requires in
    rw c.install.ensures
    (ap (λ i. caches_of (set c.self.inside.owned.items i c.args.own) (with_level_copy c.self.inside.levels c.args.line.0 c.args.copy)) place
    ∙ caches_of-with c.self.inside.owned.items c.self.inside.levels c.args.line.0 c.args.copy c.args.own c.self.invariant room
    ∙ ap (λ (h : CachesView). caches_with h c.args.line.0 c.args.copy c.args.own) c.self.view_is)
