use Rattle.std.proofs.Common.{sym, ◌∙◌}
use Rattle.hart_core.proofs.Fronts.{front_at_rest, front_found}
use Rattle.hart_core.proofs.hart.Hart.front.Goals as goal

pub returns-then-not-can_go_on : goal.returns-then-not-can_go_on
returns-then-not-can_go_on c = front_at_rest c.args.image.now c.args.topology.now c.args.self.now _ (sym c.can_go_on.ensures ∙ c.if-not-can_go_on.true)

pub returns : goal.returns
returns c = front_found c.args.image.now c.args.topology.now c.args.self.now c.find-found.result c.need_at-need.result (sym c.can_go_on.ensures ∙ c.if-not-can_go_on.false) c.find-found.ensures c.need_at-need.ensures.need
