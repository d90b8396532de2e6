use Rattle.std.proofs.Common.{rules}
use Rattle.hart_core.proofs.Unique.{does_next}
use Rattle.hart_core.proofs.hart.Hart.finish.Goals as goal

pub returns-clause-next : goal.returns-clause-next
returns-clause-next c = does_next _ _ _ _ c.find-found.result _ (search rules) c.find-found.ensures (search rules)
