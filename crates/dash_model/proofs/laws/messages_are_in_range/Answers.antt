use Rattle.dash_model.proofs.Targets.{messages_in_range}
use Rattle.dash_model.proofs.laws.messages_are_in_range.Goals as goal

pub returns : goal.returns
returns c = messages_in_range
