use Rattle.std.proofs.Common.{◌≡◌, ◌<◌, sym, subst, rules}
use Rattle.unit_rows.specs.Shown.{shown, hart_at}
use Rattle.cluster_unit.specs.View.{CoreView}
use Rattle.cluster_unit.specs.Core.{IsAt}
use Rattle.cluster_unit.specs.contracts.unit_core.Core.{the_view}
use Rattle.cluster_unit.proofs.Cores.{hart_is}
use Rattle.cluster_unit.proofs.unit_core.Core.asked.Goals as goal

pub returns : goal.returns
returns c p at =
    subst (λ (a : CoreView). c.index.result.now.asked ≡ (p.harts (hart_at a.config a.cluster c.args.hart)).asked) c.self.view_is
    (sym (hart_is (shown c.self.inside.parts) c.self.inside.last (the_view c.self.inside) _ c.args.hart c.index.result.now p c.self.invariant (subst (λ (a : CoreView). c.args.hart < a.config.top.harts) (sym c.self.view_is) c.requires) (search rules) (subst (λ a. IsAt a p) (sym c.self.view_is) at)).1)
