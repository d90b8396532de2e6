use Rattle.std.proofs.Common.{rules}
use Rattle.hart_core.proofs.Needed.{works_on}
use Rattle.hart_core.proofs.hart.Hart.next.Goals as goal

pub returns-then-can_go_on-clause-rest : goal.returns-then-can_go_on-clause-rest
returns-then-can_go_on-clause-rest c =
    works_on c.args.image.now c.args.topology.now c.args.self.now c.find.result c.need_at.result (search rules) c.find.ensures c.need_at.ensures.need
