use Rattle.std.proofs.Common.{ap}
use Rattle.dash_base.specs.declared.id.ClusterId.{ClusterId}
use Rattle.dash_run.proofs.Units.{in_cluster, hart_is}
use Rattle.dash_run.proofs.report.hart_of.Goals as goal

pub hart-requires : goal.hart-requires
hart-requires g c = (in_cluster _ _ c.args.units.now c.args.number _ _ c.requires.on c.requires.inside (ap (λ (x : ClusterId). x.0) c.cluster_of-cluster.ensures)).1

pub returns : goal.returns
returns g c = λ image m at.
    hart_is _ _ m c.args.units.now c.args.number _ _ _ at c.requires.inside (ap (λ (x : ClusterId). x.0) c.cluster_of-cluster.ensures) c.hart.ensures
