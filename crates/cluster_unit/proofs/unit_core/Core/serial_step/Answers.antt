use Rattle.cluster_unit.proofs.SerialOnes.{stepped_one}
use Rattle.cluster_unit.proofs.unit_core.Core.serial_step.Goals as goal

pub returns-in_default : goal.returns-in_default
returns-in_default c = (c.in_default.ensures, c.spend.ensures)

pub returns : goal.returns
returns c = stepped_one c.args.hart c.perform.result c.args.self.now c.perform.new.self c.in-Some.choice c.in-Some.ensures c.has_run.ensures.run c.perform.ensures
