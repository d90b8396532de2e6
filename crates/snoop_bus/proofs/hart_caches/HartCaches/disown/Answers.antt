use Rattle.std.proofs.Common.{ap, ◌∙◌, sym, ◌≡◌, ◌%◌, length, set, true, false}
use Rattle.cache_array.specs.View.{has_line}
use Rattle.snoop_bus.specs.Caches.{CachesView, caches_shared}
use Rattle.snoop_bus.proofs.Marked.{caches_of, caches_of-shared, caches_of-lacking}
use Rattle.snoop_bus.proofs.hart_caches.HartCaches.disown.Goals as goal

pub returns-then-is_some : goal.returns-then-is_some
returns-then-is_some c =
    let place : c.index_in-index.result ≡ c.args.line.0 % length c.self.inside.owned.items = c.index_in-index.ensures.value ∙ ap (λ xs. c.args.line.0 % length xs) c.deref.ensures.value in
    let held : has_line c.self.inside.levels.l2 c.args.line.0 ≡ true = cc (c.is_some.ensures, c.peek.ensures.copy, c.if-is_some.true) in
    ap (λ i. caches_of (set c.self.inside.owned.items i false) c.self.inside.levels) place
    ∙ caches_of-shared c.self.inside.owned.items c.self.inside.levels c.args.line.0 c.self.invariant c.peek.ensures.one_per_index held
    ∙ ap (λ (h : CachesView). caches_shared h c.args.line.0) c.self.view_is

pub returns-else-is_some : goal.returns-else-is_some
returns-else-is_some c =
    let lacks : has_line c.self.inside.levels.l2 c.args.line.0 ≡ false = cc (c.is_some.ensures, c.peek.ensures.copy, c.if-is_some.false) in
    sym c.self.view_is
    ∙ caches_of-lacking c.self.inside.owned.items c.self.inside.levels c.args.line.0 lacks
    ∙ ap (λ (h : CachesView). caches_shared h c.args.line.0) c.self.view_is
