use Rattle.dash_model.proofs.Numbered.{versions_stay_below}
use Rattle.dash_model.proofs.laws.versions_stay_below_the_greatest.Goals as goal

pub returns : goal.returns
returns c = versions_stay_below
