use Rattle.std.proofs.Common.{subst}
use Rattle.unit_rows.specs.Shown.{shown}
use Rattle.cluster_unit.specs.Core.{IsWeighed}
use Rattle.cluster_unit.specs.contracts.unit_core.Core.{the_view}
use Rattle.cluster_unit.proofs.Cores.{weighed}
use Rattle.cluster_unit.proofs.unit_core.Core.has_run.Goals as goal

pub returns-clause-weight : goal.returns-clause-weight
returns-clause-weight c = subst IsWeighed c.self.view_is (weighed (shown c.self.inside.parts) c.self.inside.last (the_view c.self.inside) _ c.self.invariant)
