use Rattle.std.proofs.Common.{◌∙◌, subst, arith}
use Rattle.std.specs.Prelude.{MatchOption}
use Rattle.std.proofs.lemmas.List.{get_or_default}
use Rattle.cache_array.specs.View.{HasRoom, IsOther}
use Rattle.snoop_bus.specs.Caches.{CachesView}
use Rattle.snoop_bus.specs.View.{BusView, HasHartRoom, IsHartOther}
use Rattle.snoop_bus.proofs.Gathered.{any_caches}
use Rattle.snoop_bus.proofs.OnBus.{low_hart, other_of_bus}
use Rattle.snoop_bus.proofs.bus.Bus.victim.Goals as goal

pub index-requires : goal.index-requires
index-requires c =
    let low = low_hart c.self.inside.harts.items c.args.self.now c.args.hart c.self.view_is c.requires in
    omega (arith, low)

pub returns : goal.returns
returns c =
    let hs = c.self.inside.harts.items in
    let low = low_hart hs c.args.self.now c.args.hart c.self.view_is c.requires in
    let here = c.index.ensures ∙ get_or_default hs c.args.hart c.index.result.now any_caches low in
    subst (λ (b : BusView). MatchOption c.victim.result (HasHartRoom b c.args.hart c.args.line.0) (λ other. IsHartOther b c.args.hart c.args.line.0 other.0)) c.self.view_is
    (other_of_bus hs c.args.hart c.args.line.0 c.victim.result c.self.invariant low
    (subst (λ (x : CachesView). MatchOption c.victim.result (HasRoom x.levels.l2 c.args.line.0) (λ other. IsOther x.levels.l2 c.args.line.0 other.0)) here c.victim.ensures.other))
