use Rattle.dash_model.proofs.Changes.{stamps_rise}
use Rattle.dash_model.proofs.laws.stamps_rise.Goals as goal

pub returns : goal.returns
returns c = stamps_rise
