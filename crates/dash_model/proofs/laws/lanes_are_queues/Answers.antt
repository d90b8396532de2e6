use Rattle.dash_model.proofs.Lanes.{lanes_are_queues}
use Rattle.dash_model.proofs.laws.lanes_are_queues.Goals as goal

pub returns : goal.returns
returns c = lanes_are_queues
